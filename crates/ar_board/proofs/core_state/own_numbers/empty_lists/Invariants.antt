use Rattle.std.proofs.Common.{◌≡◌, [], replicate}
use Rattle.ar_board.specs.Private.Own.{items_of_each}
use Rattle.ar_board.proofs.core_state.own_numbers.empty_lists.Given as goal

-- n lists so far
abbrev pub invariant-loop : goal.invariant-loop
invariant-loop l = items_of_each l.lists.items ≡ replicate l.counter []

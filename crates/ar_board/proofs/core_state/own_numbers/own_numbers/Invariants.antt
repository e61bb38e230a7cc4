use Rattle.std.proofs.Common.{◌≤◌, take}
use Rattle.ar_board.specs.Private.Own.{AreOwn, items_of_each}
use Rattle.ar_board.proofs.core_state.own_numbers.own_numbers.Given as goal

-- the numbers so far
abbrev pub invariant-loop-number : goal.invariant-loop-number
invariant-loop-number l = (l.number ≤ l.number-end) × AreOwn l.bundle (take l.number l.bundle.entries) (items_of_each l.own.items)

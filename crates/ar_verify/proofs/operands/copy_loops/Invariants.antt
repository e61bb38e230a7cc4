use Rattle.std.proofs.Common.{◌≡◌, map, take}
use Rattle.ar_verify.specs.Private.Held.{around_view}
use Rattle.ar_verify.proofs.operands.copy_loops.Given as goal

abbrev pub invariant-loop-around : goal.invariant-loop-around
invariant-loop-around g l = map around_view l.copies.items ≡ map around_view (take l.around-index l.loops)

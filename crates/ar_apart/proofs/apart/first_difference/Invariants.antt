use Rattle.std.proofs.Common.{◌≡◌}
use Rattle.ar_apart.specs.Apart.{first_difference}
use Rattle.ar_apart.proofs.Differences.{left_to}
use Rattle.ar_apart.proofs.apart.first_difference.Given as goal

-- the bytes so far are the same
abbrev pub invariant-loop-index : goal.invariant-loop-index
invariant-loop-index l = left_to l.left l.right l.index ≡ first_difference l.left l.right

use Rattle.std.proofs.Common.{◌≡◌, drop}
use Rattle.ar_value.specs.View.{shape_view}
use Rattle.ar_verify.specs.Private.Roots.{part_at}
use Rattle.ar_verify.proofs.path.follow.Given as goal

-- what is left of the way leads there
abbrev pub invariant-loop-number : goal.invariant-loop-number
invariant-loop-number l = part_at l.path (shape_view l.whole) ≡ part_at (drop l.number-index l.path) (shape_view l.shape)

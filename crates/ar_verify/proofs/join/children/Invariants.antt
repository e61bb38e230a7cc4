use Rattle.std.proofs.Common.{◌≡◌, map, take}
use Rattle.ar_verify.specs.Private.Parts.{part_view}
use Rattle.ar_verify.specs.Private.Roots.{child}
use Rattle.ar_verify.proofs.join.children.Given as goal

abbrev pub invariant-loop-part : goal.invariant-loop-part
invariant-loop-part g l = map (λ part. part_view part.value) l.children.items ≡ map (child l.number) (map (λ part. part_view part.value) (take l.part-index l.parts))

use Rattle.std.proofs.Common.{◌≡◌, true, drop, map}
use Rattle.ar_verify.specs.Private.Forms.{all_alike, widest_of}
use Rattle.ar_verify.specs.Private.Parts.{part_view}
use Rattle.ar_verify.proofs.join.add_parts.Given as goal

-- what is left is wider yet, and of the same form
abbrev pub invariant-loop-part : goal.invariant-loop-part
invariant-loop-part g l =
    (widest_of (widest_of (part_view l.first) (map (λ other. part_view other.value) l.initial.others.items)) (map (λ part. part_view part.value) l.parts)
    ≡ widest_of (widest_of (part_view l.first) (map (λ other. part_view other.value) l.others.items)) (map (λ part. part_view part.value) (drop l.part-index l.parts)))
    × (all_alike (part_view l.first) (map (λ other. part_view other.value) l.others.items) ≡ true)
    × (all_alike (part_view l.first) (map (λ part. part_view part.value) (drop l.part-index l.parts)) ≡ true)

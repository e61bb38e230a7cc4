use Rattle.std.proofs.Common.{◌≡◌, drop, map}
use Rattle.ar_verify.specs.Private.Forms.{longest_of}
use Rattle.ar_verify.specs.Private.Lists.{longest}
use Rattle.ar_verify.specs.Private.Parts.{part_view}
use Rattle.ar_verify.proofs.parts.Parts.longest.Given as goal

-- what is left counts, too
abbrev pub invariant-loop-part : goal.invariant-loop-part
invariant-loop-part g l =
    longest_of (longest (part_view l.self.first.value)) (map (λ part. part_view part.value) l.self.others.items) ≡ longest_of l.most (map (λ part. part_view part.value) (drop l.part-index l.self.others.items))

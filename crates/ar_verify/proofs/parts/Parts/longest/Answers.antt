use Rattle.std.proofs.Common.{arith}
use Rattle.std.proofs.lemmas.Grind.{common_steps}
use Rattle.ar_verify.specs.Private.Parts.{part_view}
use Rattle.ar_verify.proofs.Meets.{longest_counted}
use Rattle.ar_verify.proofs.parts.Parts.longest.Goals as goal

pub returns : goal.returns
returns g c =
    longest_counted (λ part. part_view part.value) (part_view c.args.self.now.first.value) c.args.self.now.others.items c.deref-part-items.result.now c.loop-part.part-index c.loop-part.most c.args.self.now.alike
    c.deref-part-items.ensures.value c.loop-part-test.false c.loop-part.invariant

pub loop-part-preserved : goal.loop-part-preserved
loop-part-preserved g c = grind (arith, common_steps)

use Rattle.ar_verify.specs.Private.Forms.{widest_of}
use Rattle.ar_verify.specs.Private.Parts.{part_view}
use Rattle.std.proofs.Common.{map}
use Rattle.ar_verify.proofs.Meets.{next_added, next_alike, others_alike}
use Rattle.ar_verify.proofs.join.add_parts.Goals as goal

pub add_part-requires-clause-form : goal.add_part-requires-clause-form
add_part-requires-clause-form g c =
    next_alike (λ part. part_view part.value) (part_view c.args.first.now) (part_view c.args.first.now) c.args.parts.now c.loop-part.others.items c.loop-part.others.items c.loop-part.part-index c.part-item.result
    c.loop-part-test.true c.part-item.is c.loop-part.invariant.2

pub loop-part-preserved : goal.loop-part-preserved
loop-part-preserved g c = (
  next_added (λ part. part_view part.value) (part_view c.args.first.now) (widest_of (part_view c.args.first.now) (map (λ other. part_view other.value) c.args.others.now.items)) c.args.parts.now
      c.loop-part.others.items c.add_part.new.others.items c.loop-part.part-index c.part-item.result c.loop-part-test.true c.part-item.is c.loop-part.invariant.0 c.in_ok-add_part.ensures.wider,
  c.in_ok-add_part.ensures.alike,
  others_alike (λ part. part_view part.value) (part_view c.args.first.now) (part_view c.args.first.now) c.args.parts.now c.loop-part.others.items c.loop-part.others.items c.loop-part.part-index c.part-item.result
      c.loop-part-test.true c.part-item.is c.loop-part.invariant.2,
)

use Rattle.std.proofs.Common.{◌≡◌, rules}
use Rattle.ar_verify.specs.Private.Parts.{part_view}
use Rattle.ar_verify.specs.Private.Roots.{child}
use Rattle.ar_verify.proofs.Copies.{all_made, one_made}
use Rattle.ar_verify.proofs.join.children.Goals as goal

pub loop-part-preserved : goal.loop-part-preserved
loop-part-preserved g c =
    let same : part_view c.in_ok-child.field-0.value ≡ child c.args.number (part_view c.part-item.result.value) = search rules in
    one_made (λ part. part_view part.value) (λ part. part_view part.value) (child c.args.number) c.args.parts.now c.loop-part.children.items c.loop-part.part-index c.part-item.result c.in_ok-child.field-0
    c.try_push.new.list.items c.loop-part-test.true c.part-item.is c.in_ok-try_push.ensures same c.loop-part.invariant

pub returns : goal.returns
returns g c =
    all_made (λ part. part_view part.value) (λ part. part_view part.value) (child c.args.number) c.args.parts.now c.loop-part.children.items c.loop-part.part-index c.loop-part-test.false c.loop-part.invariant

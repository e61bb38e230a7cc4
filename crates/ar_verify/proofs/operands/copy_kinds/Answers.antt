use Rattle.ar_verify.specs.Private.Kinds.{parts_kind}
use Rattle.ar_verify.proofs.Copies.{all_copied, one_viewed}
use Rattle.ar_verify.proofs.operands.copy_kinds.Goals as goal

pub loop-kind-preserved : goal.loop-kind-preserved
loop-kind-preserved g c =
    one_viewed parts_kind c.args.kinds.now c.loop-kind.copies.items c.loop-kind.kind-index c.kind-item.result c.copy_onto.new.copies.items c.loop-kind-test.true c.kind-item.is c.in_ok-copy_onto.ensures
    c.loop-kind.invariant

pub returns : goal.returns
returns g c = all_copied parts_kind c.args.kinds.now c.loop-kind.copies.items c.loop-kind.kind-index c.loop-kind-test.false c.loop-kind.invariant

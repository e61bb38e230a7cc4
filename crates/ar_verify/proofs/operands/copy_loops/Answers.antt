use Rattle.ar_verify.specs.Private.Held.{around_view}
use Rattle.ar_verify.proofs.Copies.{all_copied, one_copied}
use Rattle.ar_verify.proofs.operands.copy_loops.Goals as goal

pub loop-around-preserved : goal.loop-around-preserved
loop-around-preserved g c =
    one_copied around_view c.args.loops.now c.loop-around.copies.items c.loop-around.around-index c.around-item.result c.in_ok-copy.field-0 c.try_push.new.list.items c.loop-around-test.true c.around-item.is
    c.in_ok-try_push.ensures c.in_ok-copy.ensures c.loop-around.invariant

pub returns : goal.returns
returns g c = all_copied around_view c.args.loops.now c.loop-around.copies.items c.loop-around.around-index c.loop-around-test.false c.loop-around.invariant

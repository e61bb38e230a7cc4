use Rattle.ar_verify.proofs.Depths.{counted_all, counts_further}
use Rattle.ar_verify.proofs.loops.depths.Goals as goal

pub loop-op-preserved : goal.loop-op-preserved
loop-op-preserved c =
    counts_further c.args.ops.now c.loop-op.around.items _ c.loop-op.op-index _ c.loop-op.depth c.depth_after-depth.result c.push.new.self.items c.loop-op-test.true c.depth_after-depth.ensures
    c.in_ok-push.ensures.items c.loop-op.invariant

pub returns : goal.returns
returns c = counted_all c.args.ops.now c.loop-op.around.items _ c.loop-op.op-index c.loop-op.depth c.loop-op-test.false c.loop-op.invariant.1

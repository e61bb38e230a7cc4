use Rattle.std.proofs.Common.{arith, ap, length, sym, ◌∙◌}
use Rattle.ar_tree.specs.Views.{expression_of}
use Rattle.ar_syntax.specs.Private.Frames.{frame_of, frames_of}
use Rattle.ar_syntax.proofs.Climbs.{ended-ends, ended-stays, length-frames_of}
use Rattle.ar_syntax.proofs.climb.climb.Goals as goal

pub loop-frame-preserved : goal.loop-frame-preserved
loop-frame-preserved c =
    rw c.in_ok-tree.ensures
    (sym (ended-ends c.args.reach (frame_of c.in-Some.frame) (frames_of c.pop_ended.new.stack.items) (expression_of c.loop-frame.tree.value) c.in-Some.ensures.1)
    ∙ rw c.in-Some.ensures.0 at c.loop-frame.invariant)

pub loop-frame-smaller : goal.loop-frame-smaller
loop-frame-smaller c =
    omega (arith, ap length c.in-Some.ensures.0, length-frames_of c.loop-frame.stack.items, length-frames_of c.pop_ended.new.stack.items)

pub returns : goal.returns
returns c =
    rw c.in_default.ensures.0
    (sym (ended-stays c.args.reach (frames_of c.loop-frame.stack.items) (expression_of c.loop-frame.tree.value) c.in_default.ensures.1) ∙ c.loop-frame.invariant)

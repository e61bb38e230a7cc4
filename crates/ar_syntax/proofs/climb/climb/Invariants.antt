use Rattle.std.proofs.Common.{◌≡◌, length}
use Rattle.ar_syntax.specs.Private.Frames.{phrase_ended, frames_of}
use Rattle.ar_tree.specs.Views.{expression_of}
use Rattle.ar_syntax.proofs.climb.climb.Given as goal

-- what is left to end
abbrev pub invariant-loop-frame : goal.invariant-loop-frame
invariant-loop-frame l = phrase_ended l.reach (frames_of l.stack.items) (expression_of l.tree.value) ≡ phrase_ended l.reach (frames_of l.fn.stack.items) (expression_of l.fn.tree.value)

abbrev pub decreases-loop-frame : goal.decreases-loop-frame
decreases-loop-frame l = length l.stack.items

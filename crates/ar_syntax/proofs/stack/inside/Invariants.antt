use Rattle.std.proofs.Common.{◌≡◌, take}
use Rattle.ar_syntax.specs.Machine.{in_predicate}
use Rattle.ar_syntax.specs.Private.Frames.{frames_of}
use Rattle.ar_syntax.proofs.stack.inside.Given as goal

-- what the frames so far say
abbrev pub invariant-loop-frame : goal.invariant-loop-frame
invariant-loop-frame l = l.inside ≡ in_predicate (frames_of (take l.frame-index l.stack))

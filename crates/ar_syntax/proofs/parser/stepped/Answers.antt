use Rattle.ar_syntax.specs.Private.Steps.{state_of}
use Rattle.ar_syntax.specs.Private.Frames.{frames_of}
use Rattle.ar_syntax.proofs.Openers.{stepped_refused}
use Rattle.ar_syntax.proofs.parser.stepped.Goals as goal

pub returns-in-Err : goal.returns-in-Err
returns-in-Err c =
    let inside = c.is_inside-inside.ensures in
    rw c.fault_by.ensures
    (stepped_refused (state_of (frames_of c.args.stack.now.items) c.args.state) c.args.token.now c.in-Err.refusal c.wants_operand-wants.result c.is_inside-inside.result (frames_of c.step.new.stack.items)
    c.in-Err.ensures (c.wants_operand-wants.ensures (frames_of c.args.stack.now.items)) (rw c.deref.ensures.value at inside))

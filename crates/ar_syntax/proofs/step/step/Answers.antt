use Rattle.ar_syntax.specs.Machine.{parser_step}
use Rattle.ar_syntax.specs.Private.Frames.{frames_of}
use Rattle.ar_syntax.proofs.step.step.Goals as goal

pub returns-in-WantName : goal.returns-in-WantName
unfolding parser_step
returns-in-WantName c = rw c.in-WantName.is (c.select.ensures (frames_of c.args.stack.now.items))

pub returns-in-WantGroup : goal.returns-in-WantGroup
unfolding parser_step
returns-in-WantGroup c = rw c.in-WantGroup.is (c.want_group.ensures (frames_of c.args.stack.now.items)).0

pub returns-in-HaveArgument : goal.returns-in-HaveArgument
unfolding parser_step
returns-in-HaveArgument c = rw c.in-HaveArgument.is (c.have_argument.ensures (frames_of c.args.stack.now.items))

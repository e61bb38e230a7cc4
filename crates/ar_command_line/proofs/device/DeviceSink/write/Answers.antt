use Rattle.std.proofs.Common.{rules, Err}
use Rattle.ar_command_line.proofs.device.DeviceSink.write.Goals as goal

pub returns-in-Ok-eq0-clause-handed : goal.returns-in-Ok-eq0-clause-handed
returns-in-Ok-eq0-clause-handed g c = record {
  answer = c.write_retrying.result;
  retried = rw c.answered.ensures.inner c.write_retrying.ensures.retried;
  outcome = Err c.from.result;
  results = record {
    nothing = λ zero some. search rules;
    same = λ empty. absurd (search (rules, empty));
  };
  returns = search rules;
}

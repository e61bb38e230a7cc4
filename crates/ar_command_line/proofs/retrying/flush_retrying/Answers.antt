use Rattle.std.proofs.Common.{arith}
use Rattle.std.proofs.lemmas.Grind.{common_steps}
use Rattle.ar_command_line.proofs.Retries.{given_up, answered, once_more, not_yet}
use Rattle.ar_command_line.proofs.retrying.flush_retrying.Goals as goal

pub loop-try-preserved : goal.loop-try-preserved
loop-try-preserved c = grind (arith, not_yet, once_more, answered, given_up) steps 2000000

pub returns-then-not-is_interrupted : goal.returns-then-not-is_interrupted
returns-then-not-is_interrupted c = grind (arith, common_steps) steps 2000000

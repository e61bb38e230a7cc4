use Rattle.std.proofs.Common.{arith}
use Rattle.ar_command.proofs.Naming.{from_first_metric, no_metric, metric_later, metric_here}
use Rattle.ar_command.proofs.explained.metric_named.Goals as goal

pub returns-then-eq : goal.returns-then-eq
returns-then-eq c = grind (arith, metric_here, metric_later, no_metric, from_first_metric) steps 2000000

pub loop-number-preserved : goal.loop-number-preserved
loop-number-preserved c = grind (arith, metric_here, metric_later, no_metric, from_first_metric) steps 2000000

pub returns : goal.returns
returns c = grind (arith, metric_here, metric_later, no_metric, from_first_metric) steps 2000000

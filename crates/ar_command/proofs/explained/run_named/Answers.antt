use Rattle.std.proofs.Common.{arith}
use Rattle.ar_command.proofs.Naming.{from_first_run, no_run, run_later, run_here}
use Rattle.ar_command.proofs.explained.run_named.Goals as goal

pub returns-then-eq : goal.returns-then-eq
returns-then-eq c = grind (arith, run_here, run_later, no_run, from_first_run) steps 2000000

pub loop-number-preserved : goal.loop-number-preserved
loop-number-preserved c = grind (arith, run_here, run_later, no_run, from_first_run) steps 2000000

pub returns : goal.returns
returns c = grind (arith, run_here, run_later, no_run, from_first_run) steps 2000000

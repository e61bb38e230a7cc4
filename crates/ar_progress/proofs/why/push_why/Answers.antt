use Rattle.std.proofs.Common.{arith}
use Rattle.std.proofs.lemmas.Grind.{elements}
use Rattle.ar_progress.proofs.why.push_why.Goals as goal

pub returns-in-AllComplete : goal.returns-in-AllComplete
returns-in-AllComplete c = grind (arith, elements) steps 2000000

pub returns-in-Dry : goal.returns-in-Dry
returns-in-Dry c = grind (arith, elements) steps 2000000

pub returns-in-MetricWas : goal.returns-in-MetricWas
returns-in-MetricWas c = grind (arith, elements) steps 2000000

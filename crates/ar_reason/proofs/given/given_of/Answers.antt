use Rattle.std.proofs.Common.{arith}
use Rattle.std.proofs.lemmas.Grind.{elements}
use Rattle.ar_reason.proofs.given.given_of.Goals as goal

pub returns-in-Measure : goal.returns-in-Measure
returns-in-Measure c = grind (arith, elements) steps 2000000

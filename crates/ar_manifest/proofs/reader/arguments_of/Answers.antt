use Rattle.std.proofs.Common.{arith}
use Rattle.std.proofs.lemmas.Grind.{common_steps}
use Rattle.ar_manifest.proofs.reader.arguments_of.Goals as goal

pub returns-in_ok-ok_or-in-Some-clause-none : goal.returns-in_ok-ok_or-in-Some-clause-none
returns-in_ok-ok_or-in-Some-clause-none c = grind (arith, common_steps)

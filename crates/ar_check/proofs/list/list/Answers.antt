use Rattle.std.proofs.Common.{arith}
use Rattle.std.proofs.lemmas.Grind.{common_steps}
use Rattle.ar_check.proofs.list.list.Goals as goal

pub returns-in_default-common_of : goal.returns-in_default-common_of
returns-in_default-common_of c = grind (arith, common_steps)

pub returns : goal.returns
returns c = grind (arith, common_steps)

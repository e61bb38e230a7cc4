use Rattle.std.proofs.Common.{arith}
use Rattle.std.proofs.lemmas.Grind.{common_steps}
use Rattle.ar_check.proofs.operators.contains.Goals as goal

pub returns-in_err-item : goal.returns-in_err-item
returns-in_err-item c = grind (arith, common_steps)

pub returns : goal.returns
returns c = grind (arith, common_steps)

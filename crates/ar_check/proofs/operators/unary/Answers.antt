use Rattle.std.proofs.Common.{arith}
use Rattle.std.proofs.lemmas.Grind.{common_steps}
use Rattle.ar_check.proofs.operators.unary.Goals as goal

pub returns-in-Not : goal.returns-in-Not
returns-in-Not c = grind (arith, common_steps)

pub returns-in-Not-2 : goal.returns-in-Not-2
returns-in-Not-2 c = grind (arith, common_steps)

pub returns-in-Some : goal.returns-in-Some
returns-in-Some c = grind (arith, common_steps)

pub returns-in-None : goal.returns-in-None
returns-in-None c = grind (arith, common_steps)

pub returns-in-Some-numbers : goal.returns-in-Some-numbers
returns-in-Some-numbers c = grind (arith, common_steps)

pub returns-in-None-numbers : goal.returns-in-None-numbers
returns-in-None-numbers c = grind (arith, common_steps)

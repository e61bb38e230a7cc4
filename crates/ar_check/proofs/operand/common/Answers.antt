use Rattle.std.proofs.Common.{arith}
use Rattle.std.proofs.lemmas.Grind.{common_steps}
use Rattle.ar_check.proofs.Operands.{common_of_nil, common_of_same}
use Rattle.ar_check.proofs.operand.common.Goals as goal

pub returns-in_default : goal.returns-in_default
returns-in_default c = grind (arith, common_of_nil, common_of_same)

pub returns-then-are_same_shapes : goal.returns-then-are_same_shapes
returns-then-are_same_shapes c = grind (arith, common_of_nil, common_of_same)

pub returns-in-Some : goal.returns-in-Some
returns-in-Some c = grind (arith, common_steps)

pub returns-in-None : goal.returns-in-None
returns-in-None c = grind (arith, common_steps)

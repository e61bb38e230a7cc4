use Rattle.std.proofs.Common.{arith}
use Rattle.ar_check.proofs.Turns.{converted_is}
use Rattle.ar_check.proofs.operand.converted_both.Goals as goal

pub returns-clause-left : goal.returns-clause-left
returns-clause-left c = grind (arith, converted_is)

pub returns-clause-right : goal.returns-clause-right
returns-clause-right c = grind (arith, converted_is)

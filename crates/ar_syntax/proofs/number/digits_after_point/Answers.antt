use Rattle.std.proofs.Common.{arith}
use Rattle.std.proofs.lemmas.Grind.{common_steps}
use Rattle.ar_syntax.proofs.number.digits_after_point.Goals as goal

pub returns-in-46-clause-front : goal.returns-in-46-clause-front
returns-in-46-clause-front c = grind (arith, common_steps)

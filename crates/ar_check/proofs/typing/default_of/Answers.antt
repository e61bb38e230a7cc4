use Rattle.std.proofs.Common.{arith}
use Rattle.ar_check.proofs.Turns.{converted_is}
use Rattle.ar_check.proofs.typing.default_of.Goals as goal

pub returns-in-Some : goal.returns-in-Some
returns-in-Some c = grind (arith, converted_is)

pub returns-in-None : goal.returns-in-None
returns-in-None c = grind (arith, converted_is)

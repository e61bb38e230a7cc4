use Rattle.std.proofs.Common.{arith}
use Rattle.ar_syntax.proofs.Fronts.{front_parts}
use Rattle.ar_syntax.proofs.number.digits.Goals as goal

pub returns : goal.returns
returns c = grind (arith, front_parts) steps 2000000

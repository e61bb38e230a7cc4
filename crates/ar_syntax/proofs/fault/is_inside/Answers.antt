use Rattle.std.proofs.Common.{arith}
use Rattle.ar_syntax.proofs.Openers.{length_of_map}
use Rattle.ar_syntax.proofs.fault.is_inside.Goals as goal

pub returns-else-inside : goal.returns-else-inside
returns-else-inside c = grind (arith, length_of_map) steps 2000000

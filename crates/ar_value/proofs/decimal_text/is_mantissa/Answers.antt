use Rattle.std.proofs.Common.{arith}
use Rattle.std.proofs.lemmas.Grind.{common_steps}
use Rattle.ar_value.proofs.decimal_text.is_mantissa.Goals as goal

pub returns-then-are_digits : goal.returns-then-are_digits
returns-then-are_digits c = grind (arith, common_steps) steps 2000000

pub returns-else-are_digits : goal.returns-else-are_digits
returns-else-are_digits c = grind (arith, common_steps) steps 2000000

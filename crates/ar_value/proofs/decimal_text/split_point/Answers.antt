use Rattle.std.proofs.Common.{arith}
use Rattle.std.proofs.lemmas.Grind.{common_steps}
use Rattle.ar_value.proofs.decimal_text.split_point.Goals as goal

pub returns-then-at-mantissa : goal.returns-then-at-mantissa
returns-then-at-mantissa c = grind (arith, common_steps) steps 2000000

pub returns-else-at-mantissa : goal.returns-else-at-mantissa
returns-else-at-mantissa c = grind (arith, common_steps) steps 2000000

use Rattle.std.proofs.Common.{arith}
use Rattle.std.proofs.lemmas.Grind.{common_steps}
use Rattle.ar_value.proofs.decimal_text.split_sign.Goals as goal

pub returns-in-Some-eq45 : goal.returns-in-Some-eq45
returns-in-Some-eq45 c = grind (arith, common_steps) steps 2000000

pub returns-in-Some-eq43 : goal.returns-in-Some-eq43
returns-in-Some-eq43 c = grind (arith, common_steps) steps 2000000

use Rattle.std.proofs.Common.{arith}
use Rattle.std.proofs.lemmas.Grind.{common_steps}
use Rattle.ar_syntax.proofs.number.begins_number.Goals as goal

pub returns-in-empty : goal.returns-in-empty
returns-in-empty c = grind (arith, common_steps) steps 2000000

pub returns-in-len1-up : goal.returns-in-len1-up
returns-in-len1-up c = grind (arith, common_steps) steps 2000000

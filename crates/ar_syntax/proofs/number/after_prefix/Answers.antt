use Rattle.std.proofs.Common.{arith}
use Rattle.std.proofs.lemmas.Grind.{common_steps}
use Rattle.ar_syntax.proofs.number.after_prefix.Goals as goal

pub returns-in-len2-up : goal.returns-in-len2-up
returns-in-len2-up c = grind (arith, common_steps) steps 2000000

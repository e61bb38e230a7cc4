use Rattle.std.proofs.Common.{arith}
use Rattle.std.proofs.lemmas.Grind.{common_steps}
use Rattle.ar_evaluation.proofs.lines.push_said.Goals as goal

pub returns-in_ok-push_str-in-Valued-2 : goal.returns-in_ok-push_str-in-Valued-2
returns-in_ok-push_str-in-Valued-2 c = grind (arith, common_steps) steps 2000000

pub returns-in_ok-push_str-in-Item : goal.returns-in_ok-push_str-in-Item
returns-in_ok-push_str-in-Item c = grind (arith, common_steps) steps 2000000

pub returns-in_ok-push_str-in-Failed-2 : goal.returns-in_ok-push_str-in-Failed-2
returns-in_ok-push_str-in-Failed-2 c = grind (arith, common_steps) steps 2000000

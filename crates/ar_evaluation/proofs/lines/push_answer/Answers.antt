use Rattle.std.proofs.Common.{arith}
use Rattle.std.proofs.lemmas.Grind.{common_steps}
use Rattle.ar_evaluation.proofs.lines.push_answer.Goals as goal

pub returns : goal.returns
returns c = grind (arith, common_steps) steps 2000000

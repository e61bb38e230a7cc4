use Rattle.std.proofs.Common.{arith}
use Rattle.std.proofs.lemmas.Grind.{common_steps}
use Rattle.ar_evaluation.proofs.Lists.{no_line_left, next_line}
use Rattle.ar_evaluation.proofs.lines.push_lines.Goals as goal

pub loop-line-preserved : goal.loop-line-preserved
loop-line-preserved c = grind (arith, next_line, no_line_left) steps 2000000

pub returns : goal.returns
returns c = grind (arith, common_steps) steps 2000000

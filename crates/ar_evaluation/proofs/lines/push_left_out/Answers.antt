use Rattle.std.proofs.Common.{arith}
use Rattle.std.proofs.lemmas.Grind.{elements}
use Rattle.ar_evaluation.proofs.lines.push_left_out.Goals as goal

pub returns : goal.returns
returns c = grind (arith, elements) steps 2000000

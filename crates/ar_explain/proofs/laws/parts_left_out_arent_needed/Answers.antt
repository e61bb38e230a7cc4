use Rattle.std.proofs.Common.{arith}
use Rattle.ar_explain.proofs.LeftOut.{left_out}
use Rattle.ar_explain.proofs.laws.parts_left_out_arent_needed.Goals as goal

pub returns : goal.returns
returns c = grind (arith, left_out) steps 2000000

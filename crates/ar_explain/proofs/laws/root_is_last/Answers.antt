use Rattle.std.proofs.Common.{arith}
use Rattle.ar_explain.proofs.Roots.{root_last}
use Rattle.ar_explain.proofs.laws.root_is_last.Goals as goal

pub returns : goal.returns
returns c = grind (arith, root_last) steps 2000000

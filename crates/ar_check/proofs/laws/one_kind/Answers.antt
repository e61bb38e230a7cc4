use Rattle.std.proofs.Common.{arith}
use Rattle.ar_check.proofs.KindTable.{one_kind}
use Rattle.ar_check.proofs.laws.one_kind.Goals as goal

pub returns : goal.returns
returns c = grind (arith, one_kind) steps 2000000

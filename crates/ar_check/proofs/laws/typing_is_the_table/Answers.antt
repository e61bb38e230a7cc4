use Rattle.std.proofs.Common.{arith}
use Rattle.ar_check.proofs.KindTable.{is_typed, has_kind}
use Rattle.ar_check.proofs.laws.typing_is_the_table.Goals as goal

pub returns : goal.returns
returns c = grind (arith, has_kind, is_typed) steps 2000000

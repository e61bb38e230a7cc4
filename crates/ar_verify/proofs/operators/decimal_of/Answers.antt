use Rattle.std.proofs.Common.{rules}
use Rattle.ar_verify.proofs.Widest.{both_decimal}
use Rattle.ar_verify.proofs.operators.decimal_of.Goals as goal

pub returns : goal.returns
returns g c = search (rules, both_decimal)

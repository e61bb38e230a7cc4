use Rattle.std.proofs.Common.{rules}
use Rattle.ar_verify.proofs.Widest.{both_numbered}
use Rattle.ar_verify.proofs.operators.number_of.Goals as goal

pub returns : goal.returns
returns g c = search (rules, both_numbered)

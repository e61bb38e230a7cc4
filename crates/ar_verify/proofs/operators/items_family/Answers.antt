use Rattle.std.proofs.Common.{rules}
use Rattle.ar_verify.proofs.Widest.{both_items_of_family}
use Rattle.ar_verify.proofs.operators.items_family.Goals as goal

pub returns : goal.returns
returns g c = search (rules, both_items_of_family)

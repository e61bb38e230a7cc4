use Rattle.std.proofs.Common.{rules}
use Rattle.ar_verify.proofs.Widest.{both_lists}
use Rattle.ar_verify.proofs.kind.is_list.Goals as goal

pub returns : goal.returns
returns g c = search (rules, both_lists)

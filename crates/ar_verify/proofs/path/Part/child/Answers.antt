use Rattle.std.proofs.Common.{rules}
use Rattle.ar_verify.proofs.Ways.{one_further}
use Rattle.ar_verify.proofs.path.Part.child.Goals as goal

pub returns : goal.returns
returns g c = search (rules, one_further)

use Rattle.std.proofs.Common.{rules}
use Rattle.ar_verify.proofs.Widest.{both_scalars}
use Rattle.ar_verify.proofs.kind.is_scalar.Goals as goal

pub returns-in-Shape : goal.returns-in-Shape
returns-in-Shape g c = search (rules, both_scalars)

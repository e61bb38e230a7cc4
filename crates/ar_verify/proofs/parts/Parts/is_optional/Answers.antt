use Rattle.std.proofs.Common.{rules}
use Rattle.ar_verify.proofs.Widest.{both_optional}
use Rattle.ar_verify.proofs.parts.Parts.is_optional.Goals as goal

pub returns : goal.returns
returns g c = search (rules, both_optional)

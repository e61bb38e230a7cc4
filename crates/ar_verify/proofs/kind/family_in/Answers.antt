use Rattle.std.proofs.Common.{rules}
use Rattle.ar_verify.proofs.Widest.{both_of_family, both_plain_of_family}
use Rattle.ar_verify.proofs.kind.family_in.Goals as goal

pub returns-in-Shape : goal.returns-in-Shape
returns-in-Shape g c = search (rules, both_of_family, both_plain_of_family)

pub returns-in-OrNil : goal.returns-in-OrNil
returns-in-OrNil g c = search (rules, both_of_family, both_plain_of_family)

use Rattle.std.proofs.Common.{rules}
use Rattle.ar_verify.proofs.Meets.{nil_next_to}
use Rattle.ar_verify.proofs.kind.merge.Goals as goal

pub returns-in-OrNil-Shape : goal.returns-in-OrNil-Shape
returns-in-OrNil-Shape g c = search (rules, nil_next_to)

use Rattle.std.proofs.Common.{rules}
use Rattle.ar_verify.proofs.Meets.{of_its_form}
use Rattle.ar_verify.proofs.parts.Parts.representative.Goals as goal

pub returns : goal.returns
returns g c = search (rules, of_its_form)

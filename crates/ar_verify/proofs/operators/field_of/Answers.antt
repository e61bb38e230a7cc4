use Rattle.std.proofs.Common.{rules}
use Rattle.ar_verify.proofs.Ways.{field_there, no_field}
use Rattle.ar_verify.proofs.operators.field_of.Goals as goal

pub returns-in-Some : goal.returns-in-Some
returns-in-Some g c = search (rules, field_there, no_field)

pub returns-in-None : goal.returns-in-None
returns-in-None g c = search (rules, field_there, no_field)

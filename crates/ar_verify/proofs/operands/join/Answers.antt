use Rattle.std.proofs.Common.{rules}
use Rattle.ar_verify.proofs.Joins.{merged_from_top}
use Rattle.ar_verify.proofs.operands.join.Goals as goal

pub returns-in-Some : goal.returns-in-Some
returns-in-Some g c = search (rules, merged_from_top)

pub returns-in-None : goal.returns-in-None
returns-in-None g c = search (rules, merged_from_top)

use Rattle.std.proofs.Common.{rules}
use Rattle.ar_verify.proofs.Table.{entry_is, taken_away}
use Rattle.ar_verify.proofs.arrivals.take.Goals as goal

pub returns-clause-left : goal.returns-clause-left
returns-clause-left g c = search (rules, entry_is, taken_away)

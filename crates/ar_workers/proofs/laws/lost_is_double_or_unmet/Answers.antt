use Rattle.std.proofs.Common.{rules}
use Rattle.ar_workers.proofs.Lost.{double_or_unmet}
use Rattle.ar_workers.proofs.laws.lost_is_double_or_unmet.Goals as goal

pub returns : goal.returns
returns c = search (rules, double_or_unmet)

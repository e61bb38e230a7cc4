use Rattle.std.proofs.Common.{rules}
use Rattle.ar_tested.proofs.Ends.{one_end}
use Rattle.ar_tested.proofs.laws.one_end.Goals as goal

pub returns : goal.returns
returns c = search (rules, one_end)

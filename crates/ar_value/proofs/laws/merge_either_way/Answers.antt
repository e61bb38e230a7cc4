use Rattle.std.proofs.Common.{rules}
use Rattle.ar_value.proofs.Merges.{merge_either_way}
use Rattle.ar_value.proofs.laws.merge_either_way.Goals as goal

pub returns : goal.returns
returns c = search (rules, merge_either_way)

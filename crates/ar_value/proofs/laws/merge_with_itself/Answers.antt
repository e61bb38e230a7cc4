use Rattle.std.proofs.Common.{rules}
use Rattle.ar_value.proofs.Merges.{merge_with_itself}
use Rattle.ar_value.proofs.laws.merge_with_itself.Goals as goal

pub returns : goal.returns
returns c = search (rules, merge_with_itself)

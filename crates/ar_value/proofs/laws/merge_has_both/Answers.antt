use Rattle.std.proofs.Common.{rules}
use Rattle.ar_value.proofs.Merges.{merge_has_both}
use Rattle.ar_value.proofs.laws.merge_has_both.Goals as goal

pub returns : goal.returns
returns c = search (rules, merge_has_both)

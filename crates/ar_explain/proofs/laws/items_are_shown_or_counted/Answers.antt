use Rattle.ar_explain.proofs.Gaps.{says_all}
use Rattle.ar_explain.proofs.laws.items_are_shown_or_counted.Goals as goal

pub returns : goal.returns
returns c = says_all

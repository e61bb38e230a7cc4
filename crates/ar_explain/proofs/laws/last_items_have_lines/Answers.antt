use Rattle.ar_explain.proofs.LastItems.{looks_last}
use Rattle.ar_explain.proofs.laws.last_items_have_lines.Goals as goal

pub returns : goal.returns
returns c = looks_last

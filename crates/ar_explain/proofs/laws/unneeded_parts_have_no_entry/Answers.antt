use Rattle.ar_explain.proofs.Unneeded.{unneeded_left_out}
use Rattle.ar_explain.proofs.laws.unneeded_parts_have_no_entry.Goals as goal

pub returns : goal.returns
returns c = unneeded_left_out

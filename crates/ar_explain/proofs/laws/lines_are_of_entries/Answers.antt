use Rattle.ar_explain.proofs.Sources.{lines_from}
use Rattle.ar_explain.proofs.laws.lines_are_of_entries.Goals as goal

pub returns : goal.returns
returns c = lines_from

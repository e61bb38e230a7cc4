use Rattle.ar_explain.proofs.OfParts.{entries_of_parts}
use Rattle.ar_explain.proofs.laws.entries_are_of_parts.Goals as goal

pub returns : goal.returns
returns c = entries_of_parts

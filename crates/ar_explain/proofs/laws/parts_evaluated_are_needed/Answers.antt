use Rattle.ar_explain.proofs.Needed.{needed}
use Rattle.ar_explain.proofs.laws.parts_evaluated_are_needed.Goals as goal

pub returns : goal.returns
returns c = needed

use Rattle.ar_explain.proofs.ItemLines.{items_are_of_bodies}
use Rattle.ar_explain.proofs.laws.items_shown_are_of_bodies.Goals as goal

pub returns : goal.returns
returns c = items_are_of_bodies

use Rattle.ar_progress.proofs.Changes.{changes_are_of_fronts}
use Rattle.ar_progress.proofs.laws.changes_are_of_fronts.Goals as goal

pub returns : goal.returns
returns c = changes_are_of_fronts

use Rattle.ar_progress.proofs.Counted.{counts_are_of_events}
use Rattle.ar_progress.proofs.laws.counts_are_of_events.Goals as goal

pub returns : goal.returns
returns c = counts_are_of_events

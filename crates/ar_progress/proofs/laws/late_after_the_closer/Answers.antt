use Rattle.ar_progress.proofs.Lateness.{late_after_the_closer}
use Rattle.ar_progress.proofs.laws.late_after_the_closer.Goals as goal

pub returns : goal.returns
returns c = late_after_the_closer

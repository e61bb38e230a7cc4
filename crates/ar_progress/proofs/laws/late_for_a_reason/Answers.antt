use Rattle.ar_progress.proofs.Completed.{late_for_a_reason}
use Rattle.ar_progress.proofs.laws.late_for_a_reason.Goals as goal

pub returns : goal.returns
returns c = late_for_a_reason

use Rattle.ar_progress.proofs.Completed.{late_after_the_completer}
use Rattle.ar_progress.proofs.laws.late_after_the_completer.Goals as goal

pub returns : goal.returns
returns c = late_after_the_completer

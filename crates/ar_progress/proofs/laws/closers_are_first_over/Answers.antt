use Rattle.ar_progress.proofs.Exceeding.{closers_are_first_over}
use Rattle.ar_progress.proofs.laws.closers_are_first_over.Goals as goal

pub returns : goal.returns
returns c = closers_are_first_over

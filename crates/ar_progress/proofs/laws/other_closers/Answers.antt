use Rattle.ar_progress.proofs.Closers.{closed_by_a_stop, closed_by_the_last}
use Rattle.ar_progress.proofs.laws.other_closers.Goals as goal

pub returns-clause-stop : goal.returns-clause-stop
returns-clause-stop c = closed_by_a_stop

pub returns-clause-last : goal.returns-clause-last
returns-clause-last c = closed_by_the_last

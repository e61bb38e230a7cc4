use Rattle.ar_limits.proofs.LawLemmas.{closed_metrics_are_complete as law}
use Rattle.ar_limits.proofs.laws.closed_metrics_are_complete.Goals as goal

pub returns : goal.returns
returns c = law

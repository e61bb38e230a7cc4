use Rattle.ar_limits.proofs.LawLemmas.{one_metric_phase as law}
use Rattle.ar_limits.proofs.laws.at_most_one_metric_phase.Goals as goal

pub returns : goal.returns
returns c = law

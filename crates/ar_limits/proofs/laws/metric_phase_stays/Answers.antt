use Rattle.ar_limits.proofs.LawLemmas.{metric_phase_stays as law}
use Rattle.ar_limits.proofs.laws.metric_phase_stays.Goals as goal

pub returns : goal.returns
returns c = law

use Rattle.ar_limits.proofs.LawLemmas.{run_phase_stays as law}
use Rattle.ar_limits.proofs.laws.run_phase_stays.Goals as goal

pub returns : goal.returns
returns c = law

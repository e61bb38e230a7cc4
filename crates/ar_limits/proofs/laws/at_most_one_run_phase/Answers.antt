use Rattle.ar_limits.proofs.OnePhaseLemmas.{one_run_phase as law}
use Rattle.ar_limits.proofs.laws.at_most_one_run_phase.Goals as goal

pub returns : goal.returns
returns c = law

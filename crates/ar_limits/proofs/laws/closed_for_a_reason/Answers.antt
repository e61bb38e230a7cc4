use Rattle.ar_limits.proofs.OnePhaseLemmas.{closed_for_a_reason as law}
use Rattle.ar_limits.proofs.laws.closed_for_a_reason.Goals as goal

pub returns : goal.returns
returns c = law

use Rattle.ar_limits.proofs.RunLemmas.{effects-push as law}
use Rattle.ar_limits.proofs.laws.effects_in_order.Goals as goal

pub returns : goal.returns
returns c = law

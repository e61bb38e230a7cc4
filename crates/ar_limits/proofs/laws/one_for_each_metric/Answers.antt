use Rattle.ar_limits.proofs.LawLemmas.{one_for_each_metric as law}
use Rattle.ar_limits.proofs.laws.one_for_each_metric.Goals as goal

pub returns : goal.returns
returns c = law

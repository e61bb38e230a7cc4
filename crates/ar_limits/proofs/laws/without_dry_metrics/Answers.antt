use Rattle.ar_limits.proofs.DryLemmas.{without_dry_metrics as law}
use Rattle.ar_limits.proofs.laws.without_dry_metrics.Goals as goal

pub returns : goal.returns
returns c = law

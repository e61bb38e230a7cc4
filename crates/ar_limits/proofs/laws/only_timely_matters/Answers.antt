use Rattle.ar_limits.proofs.LawLemmas.{only_timely_matters as law}
use Rattle.ar_limits.proofs.laws.only_timely_matters.Goals as goal

pub returns : goal.returns
returns c = law

use Rattle.ar_limits.proofs.LawLemmas.{late_changes_nothing as law}
use Rattle.ar_limits.proofs.laws.late_changes_nothing.Goals as goal

pub returns : goal.returns
returns c = law

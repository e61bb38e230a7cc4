use Rattle.ar_limits.proofs.DryLemmas.{dry_marks_decide_nothing as law}
use Rattle.ar_limits.proofs.laws.dry_marks_decide_nothing.Goals as goal

pub returns : goal.returns
returns c = law

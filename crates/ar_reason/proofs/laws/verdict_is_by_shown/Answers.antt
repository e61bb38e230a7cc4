use Rattle.ar_reason.proofs.Shown.{verdict_is_by_shown}
use Rattle.ar_reason.proofs.laws.verdict_is_by_shown.Goals as goal

pub returns : goal.returns
returns c = verdict_is_by_shown

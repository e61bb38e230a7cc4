use Rattle.ar_reason.proofs.Shown.{misfit_is_of_verdict}
use Rattle.ar_reason.proofs.laws.misfit_is_of_verdict.Goals as goal

pub returns : goal.returns
returns c = misfit_is_of_verdict

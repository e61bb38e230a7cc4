use Rattle.ar_misfit.proofs.Faults.{misfit_refused}
use Rattle.ar_misfit.proofs.laws.misfits_are_faults.Goals as goal

pub returns-clause-refused : goal.returns-clause-refused
returns-clause-refused c = λ shape d found is. misfit_refused shape d found is

use Rattle.ar_manifest.proofs.Keeping.{bound_shortened}
use Rattle.ar_manifest.proofs.binder.shortened.Goals as goal

pub returns-clause-exact : goal.returns-clause-exact
returns-clause-exact c = rw (← bound_shortened c.args.template.now c.args.own.now, ← c.as_slice.ensures) c.metrics.ensures.exact

pub returns-clause-first : goal.returns-clause-first
returns-clause-first c = rw (← c.as_slice.ensures) c.metrics.ensures.first

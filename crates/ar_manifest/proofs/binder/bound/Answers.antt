use Rattle.ar_manifest.proofs.Keeping.{bound_whole}
use Rattle.ar_manifest.proofs.binder.bound.Goals as goal

pub returns-clause-exact : goal.returns-clause-exact
returns-clause-exact c = rw (← bound_whole c.args.template.now c.args.own.now, ← c.as_slice.ensures) c.metrics.ensures.exact

pub returns-clause-first : goal.returns-clause-first
returns-clause-first c = rw (← c.as_slice.ensures) c.metrics.ensures.first

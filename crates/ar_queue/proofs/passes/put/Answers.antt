use Rattle.std.proofs.Common.{subst, sym, length}
use Rattle.ar_queue.specs.Rule.{CanPut}
use Rattle.ar_queue.specs.declared.queue.View.{View}
use Rattle.ar_queue.proofs.Steps.{puts}
use Rattle.ar_queue.proofs.passes.put.Goals as goal

pub try_push_as-requires-clause-rule : goal.try_push_as-requires-clause-rule
try_push_as-requires-clause-rule g c = puts _ _ _ _ _ (subst (λ (v : View). CanPut (length g.M.BundleName.bundle.entries) v c.args.item) (sym c.loop.invariant.1) c.requires.can)

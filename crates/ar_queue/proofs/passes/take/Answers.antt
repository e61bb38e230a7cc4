use Rattle.std.proofs.Common.{subst, sym}
use Rattle.ar_queue.specs.Rule.{CanTake}
use Rattle.ar_queue.proofs.Steps.{takes}
use Rattle.ar_queue.proofs.passes.take.Goals as goal

pub try_pop_as-requires-clause-rule : goal.try_pop_as-requires-clause-rule
try_pop_as-requires-clause-rule g c = takes _ _ _ (subst CanTake (sym c.loop.invariant.1) c.requires.can)

use Rattle.ar_queue.proofs.Steps.{learns}
use Rattle.ar_queue.proofs.passes.learn.Goals as goal

pub learn_as-requires-clause-rule : goal.learn_as-requires-clause-rule
learn_as-requires-clause-rule g c = learns _ _ _ c.requires.done

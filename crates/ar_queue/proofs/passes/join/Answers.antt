use Rattle.ar_queue.proofs.Steps.{joins}
use Rattle.ar_queue.proofs.passes.join.Goals as goal

pub absorb-requires-clause-rule : goal.absorb-requires-clause-rule
absorb-requires-clause-rule g c = joins _ _ _ _ _ c.requires.feeds.0 c.requires.feeds.1 c.requires.worker.0 c.requires.worker.1

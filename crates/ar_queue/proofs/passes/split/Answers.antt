use Rattle.ar_queue.proofs.Steps.{splits}
use Rattle.ar_queue.proofs.passes.split.Goals as goal

pub another-requires-clause-rule : goal.another-requires-clause-rule
another-requires-clause-rule g c = splits _ _ _ c.requires.feeds

use Rattle.std.specs.Prelude.{length}
use Rattle.ar_queue.proofs.Steps.{opened}
use Rattle.ar_queue.proofs.passes.open.Goals as goal

pub ruled-requires-clause-rule : goal.ruled-requires-clause-rule
ruled-requires-clause-rule g c = opened (length g.M.BundleName.bundle.entries)

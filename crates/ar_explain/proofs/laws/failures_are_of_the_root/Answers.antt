use Rattle.ar_explain.proofs.Failures.{failures_of_root}
use Rattle.ar_explain.proofs.laws.failures_are_of_the_root.Goals as goal

pub returns : goal.returns
returns c = failures_of_root

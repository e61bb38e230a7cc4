use Rattle.ar_safety.proofs.OneVerdict.{some_verdict}
use Rattle.ar_safety.proofs.laws.some_verdict.Goals as goal

pub returns : goal.returns
returns c = some_verdict

use Rattle.std.proofs.Common.{arith}
use Rattle.ar_syntax.proofs.Climbs.{pops}
use Rattle.ar_syntax.proofs.step.wait_at.Goals as goal

pub returns : goal.returns
returns c = grind (arith, pops) steps 2000000

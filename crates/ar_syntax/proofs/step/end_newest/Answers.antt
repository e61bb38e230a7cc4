use Rattle.std.proofs.Common.{arith}
use Rattle.ar_syntax.proofs.Climbs.{pops}
use Rattle.ar_syntax.proofs.step.end_newest.Goals as goal

pub returns-in-Some : goal.returns-in-Some
returns-in-Some c = grind (arith, pops) steps 2000000

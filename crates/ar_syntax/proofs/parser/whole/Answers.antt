use Rattle.std.proofs.Common.{arith}
use Rattle.ar_syntax.proofs.Climbs.{pops}
use Rattle.ar_syntax.proofs.Openers.{no_whole}
use Rattle.ar_syntax.proofs.parser.whole.Goals as goal

pub returns-in-empty : goal.returns-in-empty
returns-in-empty c = grind (arith, no_whole, pops) steps 2000000

pub returns-in_default : goal.returns-in_default
returns-in_default c = grind (arith, no_whole, pops) steps 2000000

use Rattle.std.proofs.Common.{rules}
use Rattle.ar_syntax.proofs.Climbs.{pops}
use Rattle.ar_syntax.proofs.step.have_indexed.Goals as goal

pub returns : goal.returns
returns c = search (rules, pops)

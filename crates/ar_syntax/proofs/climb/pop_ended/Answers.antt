use Rattle.std.proofs.Common.{rules}
use Rattle.ar_syntax.proofs.Climbs.{pops}
use Rattle.ar_syntax.proofs.climb.pop_ended.Goals as goal

pub returns-then-newest_ends : goal.returns-then-newest_ends
returns-then-newest_ends c = search (rules, pops)

use Rattle.std.proofs.Common.{rules}
use Rattle.ar_verify.proofs.Meets.{met, clashed}
use Rattle.ar_verify.proofs.join.meet.Goals as goal

pub returns-in_ok-together : goal.returns-in_ok-together
returns-in_ok-together g c = search (rules, met, clashed)

pub returns-else-are_alike : goal.returns-else-are_alike
returns-else-are_alike g c = search (rules, met, clashed)

use Rattle.std.proofs.Common.{rules}
use Rattle.ar_syntax.proofs.Climbs.{pops}
use Rattle.ar_syntax.proofs.Openers.{length_of_map}
use Rattle.ar_syntax.proofs.step.argue.Goals as goal

pub returns-then-not-is_body : goal.returns-then-not-is_body
returns-then-not-is_body c = search (rules, pops, length_of_map)

pub returns-then-is_brace : goal.returns-then-is_brace
returns-then-is_brace c = search (rules, pops, length_of_map)

pub returns : goal.returns
returns c = search (rules, pops, length_of_map)

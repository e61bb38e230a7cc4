use Rattle.std.proofs.Common.{arith, rules}
use Rattle.std.proofs.lemmas.Grind.{common_steps}
use Rattle.ar_code.proofs.Entries.{next_line}
use Rattle.ar_code.proofs.listings.listing.Goals as goal

pub loop-index-init : goal.loop-index-init
loop-index-init c = search rules

pub loop-index-preserved : goal.loop-index-preserved
loop-index-preserved c = search (rules, next_line)

pub returns : goal.returns
returns c = grind (arith, common_steps)

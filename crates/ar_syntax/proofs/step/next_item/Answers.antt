use Rattle.std.proofs.Common.{arith}
use Rattle.std.proofs.lemmas.Grind.{common_steps}
use Rattle.ar_syntax.proofs.Openers.{no_item_left, item_left}
use Rattle.ar_syntax.proofs.Climbs.{pops}
use Rattle.ar_syntax.proofs.step.next_item.Goals as goal

pub returns-else-len-lt-MOST_LITERAL_ITEMS : goal.returns-else-len-lt-MOST_LITERAL_ITEMS
returns-else-len-lt-MOST_LITERAL_ITEMS c = grind (arith, pops, item_left, no_item_left) steps 2000000

pub returns-then-len-lt-MOST_LITERAL_ITEMS : goal.returns-then-len-lt-MOST_LITERAL_ITEMS
returns-then-len-lt-MOST_LITERAL_ITEMS c = grind (arith, common_steps) steps 2000000

use Rattle.std.proofs.Common.{arith}
use Rattle.std.proofs.lemmas.Grind.{common_steps}
use Rattle.ar_syntax.proofs.Quotes.{text_ends}
use Rattle.ar_syntax.proofs.quoted.text_end.Goals as goal

pub loop-at-preserved : goal.loop-at-preserved
loop-at-preserved c = grind (arith, text_ends) steps 2000000

pub returns : goal.returns
returns c = grind (arith, text_ends) steps 2000000

pub returns-then-byte-quote : goal.returns-then-byte-quote
returns-then-byte-quote c = grind (arith, common_steps) steps 2000000

use Rattle.std.proofs.Common.{rules, arith}
use Rattle.std.proofs.lemmas.Grind.{common_steps}
use Rattle.ar_syntax.proofs.Quotes.{text_values}
use Rattle.ar_syntax.proofs.quoted.unescaped_bytes.Goals as goal

pub returns-in_err-ok_or : goal.returns-in_err-ok_or
returns-in_err-ok_or c = search (rules, text_values)

pub loop-index-preserved : goal.loop-index-preserved
loop-index-preserved c = grind (arith, common_steps)

pub returns : goal.returns
returns c = search (rules, text_values)

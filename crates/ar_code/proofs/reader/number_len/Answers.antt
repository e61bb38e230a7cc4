use Rattle.std.proofs.Common.{arith}
use Rattle.std.proofs.lemmas.Grind.{common_steps}
use Rattle.ar_code.proofs.reader.number_len.Goals as goal

pub returns-then-byte-lt128-clause-cut : goal.returns-then-byte-lt128-clause-cut
returns-then-byte-lt128-clause-cut c = grind (arith, common_steps)

pub loop-before-preserved : goal.loop-before-preserved
loop-before-preserved c = grind (arith, common_steps)

pub returns-clause-cut : goal.returns-clause-cut
returns-clause-cut c = grind (arith, common_steps)

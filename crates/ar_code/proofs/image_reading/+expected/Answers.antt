use Rattle.std.proofs.Common.{arith}
use Rattle.std.proofs.lemmas.Grind.{common_steps}
use Rattle.ar_code.proofs.image_reading.+expected.Goals as goal

pub returns-in_default-clause-exact : goal.returns-in_default-clause-exact
returns-in_default-clause-exact t c = grind (arith, common_steps)

pub returns-then-byte-first-clause-exact : goal.returns-then-byte-first-clause-exact
returns-then-byte-first-clause-exact t c = grind (arith, common_steps)

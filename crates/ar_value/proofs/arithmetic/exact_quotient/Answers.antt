use Rattle.std.proofs.Common.{arith}
use Rattle.std.proofs.lemmas.Grind.{common_steps}
use Rattle.ar_value.proofs.arithmetic.exact_quotient.Goals as goal

pub nonzero_div-result : goal.nonzero_div-result
nonzero_div-result c = grind (arith, common_steps)

pub returns : goal.returns
returns c = grind (arith, common_steps)

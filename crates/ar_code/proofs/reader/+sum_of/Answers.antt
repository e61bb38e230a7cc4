use Rattle.std.proofs.Common.{arith}
use Rattle.std.proofs.lemmas.Grind.{common_steps}
use Rattle.ar_code.proofs.reader.+sum_of.Goals as goal

pub returns-in_err-sum_of-in-len1-up-clause-none :
    goal.returns-in_err-sum_of-in-len1-up-clause-none
returns-in_err-sum_of-in-len1-up-clause-none t c = grind (arith, common_steps)

pub returns-in_err-checked_mul-in-len1-up-clause-none :
    goal.returns-in_err-checked_mul-in-len1-up-clause-none
returns-in_err-checked_mul-in-len1-up-clause-none t c = grind (arith, common_steps)

pub returns-in-empty-clause-some : goal.returns-in-empty-clause-some
returns-in-empty-clause-some t c = grind (arith, common_steps)

pub returns-in_ok-checked_mul-in-len1-up-clause-some :
    goal.returns-in_ok-checked_mul-in-len1-up-clause-some
returns-in_ok-checked_mul-in-len1-up-clause-some t c = grind (arith, common_steps)

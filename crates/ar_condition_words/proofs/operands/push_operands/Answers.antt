use Rattle.std.proofs.Common.{arith}
use Rattle.std.proofs.lemmas.Grind.{common_steps}
use Rattle.ar_condition_words.proofs.operands.push_operands.Goals as goal

pub returns-in_ok-push_str-in-Before : goal.returns-in_ok-push_str-in-Before
returns-in_ok-push_str-in-Before c = grind (arith, common_steps) steps 2000000

pub returns-in-One : goal.returns-in-One
returns-in-One c = grind (arith, common_steps) steps 2000000

pub returns-in_ok-push_str-in-Two-2 : goal.returns-in_ok-push_str-in-Two-2
returns-in_ok-push_str-in-Two-2 c = grind (arith, common_steps) steps 2000000

use Rattle.std.proofs.Common.{arith}
use Rattle.std.proofs.lemmas.Grind.{common_steps}
use Rattle.ar_usage.proofs.words.option_value.Goals as goal

pub returns-in_err-first : goal.returns-in_err-first
returns-in_err-first c = grind (arith, common_steps) steps 2000000

pub returns-in_ok-first : goal.returns-in_ok-first
returns-in_ok-first c = grind (arith, common_steps) steps 2000000

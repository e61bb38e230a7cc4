use Rattle.std.proofs.Common.{arith}
use Rattle.std.proofs.lemmas.Grind.{elements, common_steps}
use Rattle.ar_facts.proofs.names.put_verdict.Goals as goal

pub returns-in_ok-push_str-in-Error : goal.returns-in_ok-push_str-in-Error
returns-in_ok-push_str-in-Error c = grind (arith, common_steps)

pub returns-in-Inconclusive : goal.returns-in-Inconclusive
returns-in-Inconclusive c = grind (arith, elements) steps 2000000

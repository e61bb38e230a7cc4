use Rattle.std.proofs.Common.{arith}
use Rattle.std.proofs.lemmas.Grind.{common_steps}
use Rattle.ar_facts.proofs.text.put_finding.Goals as goal

pub returns-in_ok-push_str-in-Measure-Judged : goal.returns-in_ok-push_str-in-Measure-Judged
returns-in_ok-push_str-in-Measure-Judged c = grind (arith, common_steps) steps 2000000

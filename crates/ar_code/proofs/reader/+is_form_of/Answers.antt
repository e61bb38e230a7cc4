use Rattle.std.proofs.Common.{arith}
use Rattle.std.proofs.lemmas.Grind.{common_steps}
use Rattle.ar_code.proofs.reader.+is_form_of.Goals as goal

pub returns-then-from-n-3 : goal.returns-then-from-n-3
returns-then-from-n-3 t c = grind (arith, common_steps)

use Rattle.std.proofs.Common.{arith}
use Rattle.std.proofs.lemmas.Grind.{common_steps}
use Rattle.ar_syntax.proofs.step.is_empty_call.Goals as goal

pub returns-in-Ends-EndGroup : goal.returns-in-Ends-EndGroup
returns-in-Ends-EndGroup c = grind (arith, common_steps)

pub returns-else-is_empty : goal.returns-else-is_empty
returns-else-is_empty c = grind (arith, common_steps)

use Rattle.std.proofs.Common.{arith}
use Rattle.ar_check.proofs.Sound.{is_boolean_or_fault}
use Rattle.ar_check.proofs.laws.checked_conditions_have_a_meaning.Goals as goal

pub returns : goal.returns
returns c = grind (arith, is_boolean_or_fault) steps 2000000

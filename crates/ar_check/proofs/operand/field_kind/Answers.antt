use Rattle.std.proofs.Common.{arith}
use Rattle.ar_check.proofs.Freely.{gives_freely}
use Rattle.ar_check.proofs.operand.field_kind.Goals as goal

pub returns-in_err-field_in-in-Declared : goal.returns-in_err-field_in-in-Declared
returns-in_err-field_in-in-Declared c = grind (arith, gives_freely)

pub returns-in_err-field_in-in-Made : goal.returns-in_err-field_in-in-Made
returns-in_err-field_in-in-Made c = grind (arith, gives_freely)

pub returns-in_ok-field_in-in-Declared : goal.returns-in_ok-field_in-in-Declared
returns-in_ok-field_in-in-Declared c = grind (arith, gives_freely)

pub returns-in_ok-copy-in-Made : goal.returns-in_ok-copy-in-Made
returns-in_ok-copy-in-Made c = grind (arith, gives_freely)

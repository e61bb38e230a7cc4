use Rattle.std.proofs.Common.{arith}
use Rattle.ar_check.proofs.Freely.{gives_freely}
use Rattle.ar_check.proofs.operand.item_kind.Goals as goal

pub returns-in_err-item_in-in-Declared : goal.returns-in_err-item_in-in-Declared
returns-in_err-item_in-in-Declared c = grind (arith, gives_freely)

pub returns-in_err-item_in-in-Made : goal.returns-in_err-item_in-in-Made
returns-in_err-item_in-in-Made c = grind (arith, gives_freely)

pub returns-in_ok-item_in-in-Declared : goal.returns-in_ok-item_in-in-Declared
returns-in_ok-item_in-in-Declared c = grind (arith, gives_freely)

pub returns-in_ok-copy-in-Made : goal.returns-in_ok-copy-in-Made
returns-in_ok-copy-in-Made c = grind (arith, gives_freely)

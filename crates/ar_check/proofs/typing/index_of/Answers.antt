use Rattle.std.proofs.Common.{arith}
use Rattle.std.proofs.lemmas.Grind.{common_steps}
use Rattle.ar_check.proofs.Freely.{gives_freely}
use Rattle.ar_check.proofs.typing.index_of.Goals as goal

pub returns-in_err-kind : goal.returns-in_err-kind
returns-in_err-kind c = grind (arith, common_steps, gives_freely)

pub returns : goal.returns
returns c = grind (arith, common_steps, gives_freely)

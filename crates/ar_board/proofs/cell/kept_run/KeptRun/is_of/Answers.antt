use Rattle.std.proofs.Common.{arith}
use Rattle.std.proofs.lemmas.Grind.{elements}
use Rattle.ar_board.proofs.cell.kept_run.KeptRun.is_of.Goals as goal

pub returns-then-place-receipt : goal.returns-then-place-receipt
returns-then-place-receipt c = grind (arith, elements) steps 2000000

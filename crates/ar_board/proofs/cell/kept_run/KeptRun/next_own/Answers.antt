use Rattle.std.proofs.lemmas.Grind.{common_steps}
use Rattle.std.proofs.Common.{arith, rules}
use Rattle.ar_board.proofs.Shows.{next_skip, next_here, next_end}
use Rattle.ar_board.proofs.cell.kept_run.KeptRun.next_own.Goals as goal

pub returns-then-index-worker : goal.returns-then-index-worker
returns-then-index-worker c = search (rules, next_skip, next_here, next_end)

pub loop-place-preserved : goal.loop-place-preserved
loop-place-preserved c = search (rules, next_skip, next_here, next_end)

pub returns : goal.returns
returns c = grind (arith, common_steps) steps 2000000

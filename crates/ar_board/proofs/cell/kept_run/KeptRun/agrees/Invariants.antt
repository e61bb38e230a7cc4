use Rattle.ar_board.proofs.Shows.{AgreeFrom}
use Rattle.ar_board.proofs.cell.kept_run.KeptRun.agrees.Given as goal

-- what is left agrees where all does
abbrev pub invariant-loop-receipt : goal.invariant-loop-receipt
invariant-loop-receipt l = AgreeFrom l.run l.worker l.self.run.entries.items l.self.authors.items l.receipts l.from l.receipt-index

use Rattle.ar_board.specs.Private.KeptRuns.{AreOpened}
use Rattle.ar_board.proofs.cell.open_runs.Given as goal

-- the runs so far
abbrev pub invariant-loop-part : goal.invariant-loop-part
invariant-loop-part l = AreOpened l.bundle l.workers l.lock l.part-index l.runs.items

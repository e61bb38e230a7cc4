use Rattle.std.proofs.Common.{◌≡◌}
use Rattle.ar_board.specs.Private.KeptRuns.{own_from}
use Rattle.ar_board.proofs.cell.kept_run.KeptRun.next_own.Given as goal

-- none of the entries so far is the worker's
abbrev pub invariant-loop-place : goal.invariant-loop-place
invariant-loop-place l = own_from l.worker l.self.run.entries.items l.self.authors.items l.from ≡ own_from l.worker l.self.run.entries.items l.self.authors.items l.place

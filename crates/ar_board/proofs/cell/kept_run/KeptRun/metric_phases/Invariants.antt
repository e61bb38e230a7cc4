use Rattle.std.proofs.Common.{◌≡◌, take}
use Rattle.ar_board.proofs.cell.kept_run.KeptRun.metric_phases.Given as goal

-- the phases so far
abbrev pub invariant-loop-metric : goal.invariant-loop-metric
invariant-loop-metric l = l.phases.items ≡ take l.metric l.self.run.state.phases

use Rattle.std.proofs.Common.{arith}
use Rattle.ar_board.proofs.Shows.{phases_all, phases_next}
use Rattle.ar_board.proofs.cell.kept_run.KeptRun.metric_phases.Goals as goal

pub loop-metric-preserved : goal.loop-metric-preserved
loop-metric-preserved c =
    rw c.in_ok-push.ensures.items (phases_next c.args.self.now.run.state.phases c.loop-metric.phases.items c.loop-metric.metric c.metric_phase.result c.loop-metric.invariant c.metric_phase.ensures.shown)

pub returns : goal.returns
returns c =
    phases_all c.args.self.now.run.state.phases c.loop-metric.phases.items c.loop-metric.metric c.loop-metric.invariant (omega (arith, c.requires, c.metrics-metrics.ensures, c.loop-metric-test.false))

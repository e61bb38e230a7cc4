use Rattle.std.proofs.Common.{rules, string_bytes}
use Rattle.ar_progress.proofs.Waits.{next_wait}
use Rattle.ar_progress.proofs.waiting.run_waits_for.Goals as goal

pub loop-number-preserved : goal.loop-number-preserved
loop-number-preserved c =
    let next = next_wait c.args.metrics.now c.args.limits.now c.args.state.now.phases c.args.state.now.counts c.loop-number.number c.index-metrics-number.result c.metric_phase-phase.result c.counts-counts.result (string_bytes c.loop-number.words) (string_bytes c.push_waiting_metric.new.out) in
    search (rules, next)

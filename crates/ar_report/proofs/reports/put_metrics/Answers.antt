use Rattle.std.proofs.Common.{rules, string_bytes}
use Rattle.ar_facts.proofs.Lines.{next_metric}
use Rattle.ar_report.proofs.reports.put_metrics.Goals as goal

pub loop-number-preserved : goal.loop-number-preserved
loop-number-preserved c =
    let next = next_metric c.args.metrics.now c.args.limits.now c.args.state.now.phases c.args.state.now.counts c.loop-number.number c.index-metrics-number.result c.metric_phase.result c.counts.result (string_bytes c.loop-number.out) in
    search (rules, next)

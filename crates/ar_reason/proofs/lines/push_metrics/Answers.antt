use Rattle.std.proofs.lemmas.Grind.{common_steps}
use Rattle.std.proofs.Common.{arith, rules, string_bytes}
use Rattle.ar_reason.proofs.Metrics.{next_metric}
use Rattle.ar_reason.proofs.lines.push_metrics.Goals as goal

pub loop-number-preserved : goal.loop-number-preserved
loop-number-preserved c =
    let next = next_metric c.args.metrics.now c.args.limits.now c.args.state.now.phases c.args.state.now.counts c.loop-number.number c.index-metrics-number.result c.metric_phase-phase.result c.counts-counts.result c.args.closer (string_bytes c.loop-number.out) in
    search (rules, next)

pub returns : goal.returns
returns c = grind (arith, common_steps) steps 2000000

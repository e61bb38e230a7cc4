use Rattle.std.proofs.Common.{arith, rules}
use Rattle.ar_object.proofs.Texts.{all_remain}
use Rattle.ar_reason.proofs.Metrics.{next_awaited, no_awaited_left}
use Rattle.ar_reason.proofs.data.write_all_awaited.Goals as goal

pub loop-number-init : goal.loop-number-init
loop-number-init c = all_remain _ _

pub loop-number-preserved : goal.loop-number-preserved
loop-number-preserved c =
    let next = next_awaited c.args.metrics.now c.args.limits.now c.args.state.now.phases c.args.state.now.counts c.loop-number.number c.index-metrics-number.result c.metric_phase-phase.result c.counts-counts.result in
    search (rules, next)

pub returns : goal.returns
returns c =
    let l = c.loop-number in
    no_awaited_left c.args.metrics.now c.args.limits.now c.args.state.now.phases c.args.state.now.counts l.number _ _ _ (omega arith) l.invariant

use Rattle.std.proofs.Common.{arith, rules}
use Rattle.ar_object.proofs.Texts.{all_remain, list_member}
use Rattle.ar_reason.proofs.Metrics.{next_waiting, no_waiting_left}
use Rattle.ar_reason.proofs.data.put_metrics.Goals as goal

pub loop-number-init : goal.loop-number-init
loop-number-init c = all_remain _ _

pub loop-number-preserved : goal.loop-number-preserved
loop-number-preserved c =
    let next = next_waiting c.args.metrics.now c.args.limits.now c.args.state.now.phases c.args.state.now.counts c.loop-number.number c.index-metrics-number.result c.metric_phase-phase.result c.counts-counts.result c.args.closer in
    search (rules, next)

pub returns : goal.returns
returns c =
    let l = c.loop-number in
    list_member c.begin_list.ensures (no_waiting_left c.args.metrics.now c.args.limits.now c.args.state.now.phases c.args.state.now.counts l.number c.args.closer _ _ _ (omega arith) l.invariant) c.end_list.ensures

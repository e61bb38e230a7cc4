-- The settled metric joins those before it.
use Rattle.std.proofs.Common.{arith}
use Rattle.std.proofs.lemmas.List.{get_or_default}
use Rattle.std.proofs.lemmas.List.Edits.{map_over_more}
use Rattle.ar_limits.specs.Private.MetricStep.{after_closing}
use Rattle.ar_limits.proofs.progress.Progress.close.Goals as goal

pub loop-metric-preserved : goal.loop-metric-preserved
loop-metric-preserved c =
    rw c.settle.ensures
    (map_over_more after_closing c.deref_mut-metric-items.result.now c.loop-metric.metric-items c.loop-metric.metric-index _ c.loop-metric-test.true c.loop-metric.invariant
    (get_or_default c.loop-metric.metric-items c.loop-metric.metric-index _ _ (omega arith)))

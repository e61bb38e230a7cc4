-- The metrics up to the index are settled, and the others are as they were.
use Rattle.std.proofs.Common.{◌≡◌, map, take, drop, ◌++◌}
use Rattle.ar_limits.specs.Private.MetricStep.{after_closing}
use Rattle.ar_limits.proofs.progress.Progress.close.Given as goal

abbrev pub invariant-loop-metric : goal.invariant-loop-metric
invariant-loop-metric l = l.metric-items ≡ map after_closing (take l.metric-index l.initial.metric-items) ++ drop l.metric-index l.initial.metric-items

use Rattle.std.proofs.Common.{◌≡◌, map, take}
use Rattle.ar_document.proofs.opening.measurers_of.Given as goal

-- the measurers so far
abbrev pub invariant-loop-metric : goal.invariant-loop-metric
invariant-loop-metric l = l.measurers.items ≡ map (λ metric. metric.shape) (take l.metric-index l.metrics)

use Rattle.std.proofs.Common.{◌≡◌, map, take}
use Rattle.ar_limits.specs.Private.MetricStep.{opening}
use Rattle.ar_limits.proofs.progress.opening_metrics.Given as goal

abbrev pub invariant-loop-own : goal.invariant-loop-own
invariant-loop-own l = l.metrics.items ≡ map opening (take l.own-index l.limits)

use Rattle.std.proofs.Common.{◌≡◌, ◌++◌, drop}
use Rattle.ar_warning.specs.Each.{each_from}
use Rattle.ar_warning.specs.Measurements.{metric_misfits}
use Rattle.ar_warning.proofs.measurements.push_misfits.Given as goal

-- the warnings so far, with those of the metrics that are left after them, are all warnings
abbrev pub invariant-loop-number : goal.invariant-loop-number
invariant-loop-number l = l.out.items ++ each_from (metric_misfits l.bundle.entries) l.number (drop l.number l.metrics) ≡ l.initial.out.items ++ each_from (metric_misfits l.bundle.entries) 0 l.metrics

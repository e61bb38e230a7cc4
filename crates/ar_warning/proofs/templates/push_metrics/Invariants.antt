use Rattle.std.proofs.Common.{◌≡◌, ◌++◌, drop}
use Rattle.serde_json.specs.View.{view}
use Rattle.ar_warning.specs.Each.{each_from}
use Rattle.ar_warning.specs.Templates.{metric_warnings}
use Rattle.ar_warning.proofs.templates.push_metrics.Given as goal

-- the warnings so far, with those of the metrics that are left after them, are all warnings
abbrev pub invariant-loop-number : goal.invariant-loop-number
invariant-loop-number l = l.out.items ++ each_from (λ number metric. metric_warnings number (view metric)) l.number (drop l.number l.metrics) ≡ l.initial.out.items ++ each_from (λ number metric. metric_warnings number (view metric)) 0 l.metrics

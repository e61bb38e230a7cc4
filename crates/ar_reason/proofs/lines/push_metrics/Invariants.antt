use Rattle.std.proofs.Common.{◌≡◌, ◌++◌, drop, flat_map, string_bytes}
use Rattle.ar_facts.specs.Facts.{facts_of_metrics}
use Rattle.ar_reason.specs.ReasonText.{metric_lines}
use Rattle.ar_reason.proofs.lines.push_metrics.Given as goal

-- the lines so far come before those of the metrics that are left
abbrev pub invariant-loop-number : goal.invariant-loop-number
invariant-loop-number l = string_bytes l.out ++ flat_map (metric_lines l.closer) (facts_of_metrics (drop l.number l.metrics) (drop l.number l.limits) (drop l.number l.state.phases) (drop l.number l.state.counts)) ≡ string_bytes l.initial.out ++ flat_map (metric_lines l.closer) (facts_of_metrics l.metrics l.limits l.state.phases l.state.counts)

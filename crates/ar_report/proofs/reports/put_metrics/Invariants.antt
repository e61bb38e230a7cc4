use Rattle.std.proofs.Common.{◌≡◌, ◌++◌, drop, flat_map, string_bytes}
use Rattle.ar_facts.specs.Facts.{facts_of_metrics}
use Rattle.ar_facts.specs.Report.{metric_line}
use Rattle.ar_report.proofs.reports.put_metrics.Given as goal

-- the lines so far come before those of the metrics that are left
abbrev pub invariant-loop-number : goal.invariant-loop-number
invariant-loop-number l = string_bytes l.out ++ flat_map metric_line (facts_of_metrics (drop l.number l.metrics) (drop l.number l.limits) (drop l.number l.state.phases) (drop l.number l.state.counts)) ≡ string_bytes l.initial.out ++ flat_map metric_line (facts_of_metrics l.metrics l.limits l.state.phases l.state.counts)

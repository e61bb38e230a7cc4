use Rattle.std.proofs.Common.{◌≡◌, ◌++◌, drop}
use Rattle.ar_facts.specs.Facts.{facts_of_judges}
use Rattle.ar_report.specs.Private.Shown.{conditions_seen}
use Rattle.ar_report.proofs.conditions.push_judges.Given as goal

-- the conditions so far come before those of the metrics that are left
abbrev pub invariant-loop-number : goal.invariant-loop-number
invariant-loop-number l = conditions_seen l.out.items ++ facts_of_judges l.run.name (drop l.number l.metrics) (drop l.number l.judges) ≡ conditions_seen l.initial.out.items ++ facts_of_judges l.run.name l.metrics l.judges

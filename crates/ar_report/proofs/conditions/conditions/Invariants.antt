use Rattle.std.proofs.Common.{◌≡◌, ◌++◌, drop}
use Rattle.ar_facts.specs.Facts.{check_facts, facts_of_conditions}
use Rattle.ar_report.specs.Private.Shown.{conditions_seen}
use Rattle.ar_report.proofs.conditions.conditions.Given as goal

-- the conditions so far come before those of the runs that are left
abbrev pub invariant-loop-run : goal.invariant-loop-run
invariant-loop-run l = conditions_seen l.found.items ++ facts_of_conditions l.bundle.metrics (drop l.run-index l.bundle.runs) ≡ check_facts l.bundle

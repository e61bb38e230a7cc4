use Rattle.std.proofs.Common.{◌≡◌, ◌++◌, drop, flat_map, map, string_bytes}
use Rattle.ar_bundle.specs.Lawful.{numbers_of}
use Rattle.ar_facts.specs.Facts.{facts_of_runs, report_facts}
use Rattle.ar_facts.specs.Report.{report_text, run_text}
use Rattle.ar_report.proofs.reports.report_with.Given as goal

-- the lines so far come before those of the runs that are left
abbrev pub invariant-loop-number : goal.invariant-loop-number
invariant-loop-number l = string_bytes l.out ++ flat_map run_text (facts_of_runs l.bundle (drop l.number l.bundle.runs) (map numbers_of (drop l.number l.histories))) ≡ report_text (report_facts l.bundle (map numbers_of l.histories))

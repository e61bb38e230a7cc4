use Rattle.std.proofs.Common.{drop, map}
use Rattle.ar_bundle.specs.Lawful.{numbers_of}
use Rattle.ar_object.proofs.Texts.{Remains}
use Rattle.ar_facts.specs.Facts.{facts_of_runs, report_facts}
use Rattle.ar_facts.specs.ReportData.{run_data}
use Rattle.ar_report.proofs.json.put_runs.Given as goal

-- the runs that are left are still to be written
abbrev pub invariant-loop-number : goal.invariant-loop-number
invariant-loop-number l =
    Remains (map run_data (facts_of_runs l.bundle (drop l.number l.bundle.runs) (map numbers_of (drop l.number l.histories)))) (map run_data (report_facts l.bundle (map numbers_of l.histories)))
    l.initial.json.written l.json.written

use Rattle.std.proofs.Common.{drop, map}
use Rattle.serde_json.specs.View.{view}
use Rattle.ar_object.proofs.Texts.{Remains}
use Rattle.ar_reason.specs.Reason.{reasons_from, reasons_of}
use Rattle.ar_reason.specs.ReasonData.{run_reasons_data}
use Rattle.ar_reason.proofs.data.put_runs.Given as goal

-- the runs that are left are still to be written
abbrev pub invariant-loop-number : goal.invariant-loop-number
invariant-loop-number l =
    Remains (map run_reasons_data (reasons_from (view l.document) l.bundle l.chosen l.number (drop l.number l.bundle.runs) (drop l.number l.histories))) (map run_reasons_data (reasons_of (view l.document) l.bundle l.chosen l.histories))
    l.initial.json.written l.json.written

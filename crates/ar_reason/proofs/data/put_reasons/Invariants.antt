use Rattle.std.proofs.Common.{drop, map}
use Rattle.serde_json.specs.View.{view}
use Rattle.ar_object.proofs.Texts.{Remains}
use Rattle.ar_reason.specs.Reason.{reason_of}
use Rattle.ar_reason.specs.ReasonData.{reason_data}
use Rattle.ar_reason.proofs.data.put_reasons.Given as goal

-- the events of the steps that are left are still to be written
abbrev pub invariant-loop-step : goal.invariant-loop-step
invariant-loop-step l =
    Remains (map reason_data (map (reason_of (view l.document) l.bundle) (drop l.step-index l.steps))) (map reason_data (map (reason_of (view l.document) l.bundle) l.steps)) l.initial.json.written l.json.written

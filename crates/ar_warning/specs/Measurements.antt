-- Warnings of measurements: of each metric, the first whose value is refused for its kind.
use Rattle.std.specs.Prelude.{ℕ, ◌==◌, if◌then◌else◌, List, [], ◌∷◌, ◌++◌, codes, decimal, take, Option, Some, None}
use Rattle.std.specs.Option.{option_map_or}
use Rattle.ar_value.specs.Terms.{Text}
use Rattle.ar_bundle.specs.Bundle.{Bundle}
use Rattle.ar_bundle.specs.declared.bundle.EventPart.{EventPart}
use Rattle.ar_bundle.specs.declared.bundle.MetricPart.{MetricPart}
use Rattle.ar_bundle.specs.declared.bundle.What.{What}
use Rattle.ar_bundle.specs.declared.bundle.What.TheVariants.{Measure, Stop}
use Rattle.ar_diagnostic.specs.Diagnostic.{expecting}
use Rattle.ar_diagnostic.specs.declared.diagnostic.Diagnostic.{Diagnostic}
use Rattle.ar_diagnostic.specs.declared.place.EntryPart.TheVariants as entry
use Rattle.ar_diagnostic.specs.declared.place.Place.TheVariants as places
use Rattle.ar_json.specs.Refusals.{shape_fault_name}
use Rattle.ar_json.specs.declared.value_reading.ShapeFault.{ShapeFault}
use Rattle.ar_json.specs.declared.value_reading.ShapeFault.TheVariants.{FloatNumber, WrongKind}
use Rattle.ar_judge.specs.declared.sample.Sample.{Sample}
use Rattle.ar_judge.specs.declared.sample.Sample.TheVariants.{Misfit}
use Rattle.ar_quote.specs.Shown.{quoted}
use Rattle.ar_warning.specs.Each.{each_from}
use Rattle.ar_warning.specs.Misfits.{misfit_expected}

-- the faults that are warned of: a number that isn't taken, and a value of another kind than its shape
abbrev pub warned_fault : Sample → Option ShapeFault
warned_fault (Misfit FloatNumber) = Some FloatNumber
warned_fault (Misfit WrongKind) = Some WrongKind
warned_fault sample = None

-- that of an event, if it measures the metric with this number
abbrev pub fault_of_metric : (metric : ℕ) → What → Option ShapeFault
fault_of_metric metric (Measure measured sample) = if measured == metric then warned_fault sample else None
fault_of_metric metric Stop = None

abbrev pub misfit_found : (metric : Text) → ShapeFault → Text
misfit_found metric fault = shape_fault_name fault ++ (codes ", the first such error of metric " ++ quoted metric)

abbrev pub misfit_warning : (metric : Text) → (number : ℕ) → ShapeFault → Diagnostic
misfit_warning metric number fault =
    record (expecting (places.EntryMember number entry.Value) (shape_fault_name fault) (misfit_expected fault)) {
      found = Some (misfit_found metric fault);
      hint = Some (codes "`explain --event " ++ (decimal number ++ codes "` shows where"));
    }

-- the warning of the event with this number, if it has such a fault of a metric
abbrev pub event_misfit : (metric : ℕ) → (name : Text) → (number : ℕ) → EventPart → List Diagnostic
event_misfit metric name number event =
    option_map_or (λ fault. misfit_warning name number fault ∷ []) (fault_of_metric metric event.what) []

-- of each metric, the first
abbrev pub metric_misfits : List EventPart → (metric : ℕ) → MetricPart → List Diagnostic
metric_misfits events number metric = take 1 (each_from (event_misfit number metric.name) 0 events)

-- of the metrics in their order
abbrev pub misfit_warnings : Bundle → List Diagnostic
misfit_warnings bundle = each_from (metric_misfits bundle.entries) 0 bundle.metrics

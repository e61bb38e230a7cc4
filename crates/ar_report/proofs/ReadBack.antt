-- Who reads the object of a report finds the facts that it was made of.
use Rattle.std.proofs.Common.{◌≡◌, List, [], ◌∷◌, map, Option, Some, None, Ok, refl, ap, ◌∙◌}
use Rattle.serde_json.specs.Data.{Data}
use Rattle.serde_json.specs.View.{items_of}
use Rattle.ar_value.specs.declared.fault.Fault.{Fault}
use Rattle.ar_value.specs.declared.fault.Fault.TheVariants as faults
use Rattle.ar_json.specs.declared.value_reading.ShapeFault.{ShapeFault}
use Rattle.ar_json.specs.declared.value_reading.ShapeFault.TheVariants as misfits
use Rattle.ar_judge.specs.declared.verdict.Cause.TheVariants as causes
use Rattle.ar_judge.specs.declared.verdict.Verdict.{Verdict}
use Rattle.ar_judge.specs.declared.verdict.Verdict.TheVariants as verdicts
use Rattle.ar_limits.specs.declared.event.Effect.{Effect}
use Rattle.ar_limits.specs.declared.event.Effect.TheVariants as effects
use Rattle.ar_limits.specs.declared.limits.Limits.{Limits}
use Rattle.ar_limits.specs.declared.phase.Phase.{Phase}
use Rattle.ar_limits.specs.declared.phase.Phase.TheVariants as phases
use Rattle.ar_bundle.specs.Event.{EventNumber}
use Rattle.ar_facts.specs.Facts.{EventFacts, FindingFacts, MetricFacts, RunFacts, judged, stopped}
use Rattle.ar_facts.specs.ReportData.{event_data, finding_data, limits_data, metric_data, report_data, run_data}
use Rattle.ar_facts.specs.ReportReader.{Reading, effect_in, each_in, event_in, finding_in, limits_in, metric_in, phase_in, report_in, run_in, verdict_in}
use Rattle.ar_facts.specs.Names.{phase_name}
use Rattle.serde_json.specs.Data as json

pub each_read : {A : Type 0} (read : Data → Reading A) (data_of : A → Data) → ((x : A) → read (data_of x) ≡ Ok x) → (xs : List A) → each_in read (items_of (map data_of xs)) ≡ Ok xs
each_read read data_of reads [] = refl
each_read read data_of reads (x ∷ xs) = rw (reads x, each_read read data_of reads xs) refl

pub phase_read : (phase : Phase) → phase_in (json.string (phase_name phase)) ≡ Ok phase
phase_read phases.Pending = refl
phase_read phases.Running = refl
phase_read phases.Successful = refl
phase_read phases.Failed = refl
phase_read phases.Error = refl
phase_read phases.Inconclusive = refl

limits_read : (limits : Limits) → limits_in limits.dry (limits_data limits) ≡ Ok limits
limits_read limits = by limits.count refl where
  by : (count : Option _) → limits.count ≡ count → limits_in limits.dry (limits_data limits) ≡ Ok limits
  by (Some n) is = rw is refl
  by None is = rw is refl

pub metric_read : (metric : MetricFacts) → metric_in (metric_data metric) ≡ Ok metric
metric_read metric = rw (limits_read metric.limits, phase_read metric.phase) refl

-- ---- events

finding_read : (at : EventNumber) (effect : Effect) (finding : FindingFacts) → finding_in (finding_data at effect finding) ≡ Ok finding
finding_read at effect stopped = refl
finding_read at effect (judged metric verdicts.Successful) = refl
finding_read at effect (judged metric verdicts.Failed) = refl
finding_read at effect (judged metric verdicts.Inconclusive) = refl
finding_read at effect (judged metric (verdicts.Error causes.Provider)) = refl
finding_read at effect (judged metric (verdicts.Error (causes.Shape misfits.WrongKind))) = refl
finding_read at effect (judged metric (verdicts.Error (causes.Shape misfits.FloatNumber))) = refl
finding_read at effect (judged metric (verdicts.Error (causes.Shape misfits.NotFinite))) = refl
finding_read at effect (judged metric (verdicts.Error (causes.Shape misfits.BadDecimal))) = refl
finding_read at effect (judged metric (verdicts.Error (causes.Shape misfits.OutOfRange))) = refl
finding_read at effect (judged metric (verdicts.Error (causes.Shape misfits.ListTooLong))) = refl
finding_read at effect (judged metric (verdicts.Error (causes.Shape misfits.MissingField))) = refl
finding_read at effect (judged metric (verdicts.Error (causes.Shape misfits.OutOfMemory))) = refl
finding_read at effect (judged metric (verdicts.Error (causes.Success faults.IndexOutOfRange))) = refl
finding_read at effect (judged metric (verdicts.Error (causes.Success faults.NilOperand))) = refl
finding_read at effect (judged metric (verdicts.Error (causes.Success faults.Overflow))) = refl
finding_read at effect (judged metric (verdicts.Error (causes.Success faults.DivisionByZero))) = refl
finding_read at effect (judged metric (verdicts.Error (causes.Failure faults.IndexOutOfRange))) = refl
finding_read at effect (judged metric (verdicts.Error (causes.Failure faults.NilOperand))) = refl
finding_read at effect (judged metric (verdicts.Error (causes.Failure faults.Overflow))) = refl
finding_read at effect (judged metric (verdicts.Error (causes.Failure faults.DivisionByZero))) = refl

effect_read : (at : EventNumber) (effect : Effect) (finding : FindingFacts) → effect_in (finding_data at effect finding) ≡ Ok effect
effect_read at effects.Applied stopped = refl
effect_read at effects.Late stopped = refl
effect_read at (effects.Closed phase) stopped = rw (phase_read phase) refl
effect_read at effects.Applied (judged metric verdict) = refl
effect_read at effects.Late (judged metric verdict) = refl
effect_read at (effects.Closed phase) (judged metric verdict) = rw (phase_read phase) refl

with_number : (at : EventNumber) (effect : Effect) (finding : FindingFacts) → event_in (finding_data at effect finding) ≡ Ok (record { number = at; finding = finding; effect = effect })
with_number at effect stopped = rw (effect_read at effect stopped) refl
with_number at effect (judged metric verdict) = rw (finding_read at effect (judged metric verdict), effect_read at effect (judged metric verdict)) refl

pub event_read : (event : EventFacts) → event_in (event_data event) ≡ Ok event
event_read event = with_number event.number event.effect event.finding

-- ---- runs

run_read : (run : RunFacts) → run_in (run_data run) ≡ Ok run
run_read run = rw (phase_read run.phase, each_read metric_in metric_data metric_read run.metrics, each_read event_in event_data event_read run.events) refl

pub report_read : (runs : List RunFacts) → report_in (report_data runs) ≡ Ok runs
report_read runs = each_read run_in run_data run_read runs

-- Reasons as JSON (RFC 8259): one object. Its members are in the byte order of their names.
use Rattle.ar_evaluation.specs.EvaluatedData.{evaluated_data}
use Rattle.std.specs.Prelude.{ℕ, ◌-◌, ◌^◌, min, if◌then◌else◌, List, [], ◌∷◌, ◌++◌, codes, decimal, flat_map, map, Option, Some, None}
use Rattle.std.specs.Option.{option_map_or}
use Rattle.serde_json.specs.Data.{Data, boolean, member, no_members, null, object, string}
use Rattle.ar_value.specs.Terms.{Text}
use Rattle.ar_bundle.specs.Event.{EventNumber}
use Rattle.ar_limits.specs.Metric.{is_complete}
use Rattle.ar_limits.specs.declared.phase.Phase.{Phase}
use Rattle.ar_facts.specs.Facts.{MetricFacts}
use Rattle.ar_facts.specs.Names.{phase_name}
use Rattle.ar_facts.specs.ReportData.{counts_data, event_data, limits_data, metric_data}
use Rattle.ar_misfit.specs.MisfitData.{misfit_data}
use Rattle.ar_object.specs.Object.{array_of, count_data, count_or_null, text_or_null}
use Rattle.ar_progress.specs.Excess.{limit_name}
use Rattle.ar_progress.specs.Settled.{settled_by}
use Rattle.ar_progress.specs.Waiting.{progress_of, waits_for}
use Rattle.ar_progress.specs.declared.excess.Excess.{Excess}
use Rattle.ar_progress.specs.declared.settled.Settled.{Settled}
use Rattle.ar_progress.specs.declared.steps.Change.{Change}
use Rattle.ar_progress.specs.declared.waiting.Progress.{Progress}
use Rattle.ar_progress.specs.declared.why.Why.{Why}
use Rattle.ar_progress.specs.declared.why.Why.TheVariants as whys
use Rattle.ar_exact.specs.Exact.{exact_of}
use Rattle.ar_exact.specs.Flat.{flat_data}
use Rattle.ar_show.specs.Values.{shown_value}
use Rattle.ar_reason.specs.Reason.{Given, Reason, RunReasons, gave_error, gave_misfit, gave_value}

-- ---- an event

-- the value, where JSON has it exactly
abbrev pub given_value : Given → Data
given_value (gave_value value) = flat_data (exact_of value)
given_value given = null

-- the value as lines show it
abbrev pub given_shown : Given → Data
given_shown (gave_value value) = string (shown_value value)
given_shown given = null

abbrev pub given_error : Given → Data
given_error (gave_error text) = string text
given_error given = null

-- the pointer to the value of a measurement
abbrev pub value_pointer : EventNumber → Text
value_pointer number = codes "/measurements/" ++ (decimal number ++ codes "/value")

abbrev pub given_misfit : EventNumber → Given → Data
given_misfit number (gave_misfit misfit) = misfit_data (value_pointer number) misfit
given_misfit number given = null

abbrev pub change_data : Change → Data
change_data change = object
    (member (codes "after") (counts_data change.after.counts)
    (member (codes "before") (counts_data change.before.counts)
    (member (codes "limits") (limits_data change.limits) no_members)))

-- why an event closed its run, didn't, or came late: a kind with its numbers, null where the kind has none
abbrev pub why_members : (count event : Option ℕ) → (kind : Text) → (limit phase : Option Text) → (value : Option ℕ)
    → Data
why_members count event kind limit phase value = object
    (member (codes "count") (count_or_null count)
    (member (codes "event") (count_or_null event)
    (member (codes "kind") (string kind)
    (member (codes "limit") (text_or_null limit)
    (member (codes "phase") (text_or_null phase)
    (member (codes "value") (count_or_null value) no_members))))))

-- the count `count` exceeded the limit, which allows `value`
abbrev pub excess_data : Phase → Excess → Data
excess_data phase excess = why_members (Some excess.count) None (codes "limit")
    (Some (limit_name excess.limit)) (Some (phase_name phase)) (Some excess.value)

abbrev pub why_data : Why → Data
why_data whys.Stopped = why_members None None (codes "stop") None None None
why_data (whys.Exceeded phase excess) = excess_data phase excess
why_data whys.AllComplete = why_members None None (codes "complete") None None None
why_data (whys.Dry phase) = why_members None None (codes "dry") None (Some (phase_name phase)) None
why_data (whys.AfterClose number) = why_members None (Some number) (codes "runClosed") None None None
why_data (whys.MetricWas phase since) =
    why_members None since (codes "metricComplete") None (Some (phase_name phase)) None

abbrev pub reason_members : (conditions : List Data)
    → (counts error event misfit no_condition reason shown value : Data) → Data
reason_members conditions counts error event misfit no_condition reason shown value = object
    (member (codes "conditions") (array_of conditions)
    (member (codes "counts") counts
    (member (codes "error") error
    (member (codes "event") event
    (member (codes "misfit") misfit
    (member (codes "noCondition") no_condition
    (member (codes "reason") reason
    (member (codes "shown") shown
    (member (codes "value") value no_members)))))))))

abbrev pub reason_data : Reason → Data
reason_data reason =
    reason_members (map evaluated_data reason.conditions) (option_map_or change_data reason.change null)
    (given_error reason.given) (event_data reason.event) (given_misfit reason.event.number reason.given)
    (boolean reason.no_condition) (option_map_or why_data reason.why null) (given_shown reason.given)
    (given_value reason.given)

-- ---- a run

-- of more than 64 bits, the greatest number that these have
abbrev pub measured_data : (measured : ℕ) → Data
measured_data measured = count_data (min measured (2 ^ 64 - 1))

abbrev pub progress_data : Progress → Data
progress_data progress = object
    (member (codes "count") (count_or_null progress.count)
    (member (codes "measured") (measured_data progress.measured) no_members))

abbrev pub settled_data : Settled → Data
settled_data settled = object
    (member (codes "count") (count_or_null settled.count)
    (member (codes "event") (count_data settled.closer)
    (member (codes "measured") (measured_data settled.measured) no_members)))

-- `closer`: the event that closed the run, if one did
abbrev pub waiting_data : (closer : Option EventNumber) → MetricFacts → Data
waiting_data closer metric = object
    (member (codes "metric") (metric_data metric)
    (member (codes "settled") (option_map_or settled_data (settled_by closer metric.limits metric.counts) null)
    (member (codes "waitsFor") (option_map_or progress_data (waits_for metric.phase metric.limits metric.counts) null)
    no_members)))

-- a metric that a run waits for
abbrev pub awaited_data : (name : Text) → Progress → Data
awaited_data name progress = object
    (member (codes "count") (count_or_null progress.count)
    (member (codes "measured") (measured_data progress.measured)
    (member (codes "metric") (string name) no_members)))

abbrev pub awaited : MetricFacts → List Data
awaited metric =
    if is_complete metric.phase then []
    else awaited_data metric.name (progress_of metric.limits metric.counts) ∷ []

-- nothing where the run is closed
abbrev pub run_waits_data : Phase → List MetricFacts → Data
run_waits_data phase metrics = if is_complete phase then null else array_of (flat_map awaited metrics)

abbrev pub run_members : (name : Text) → Phase → (metrics events : List Data) → (waits : Data) → Data
run_members name phase metrics events waits = object
    (member (codes "events") (array_of events)
    (member (codes "metrics") (array_of metrics)
    (member (codes "name") (string name)
    (member (codes "phase") (string (phase_name phase))
    (member (codes "waitsFor") waits no_members)))))

abbrev pub run_reasons_data : RunReasons → Data
run_reasons_data run =
    run_members run.name run.phase (map (waiting_data run.closer) run.metrics) (map reason_data run.reasons)
    (run_waits_data run.phase run.metrics)

abbrev pub reasons_data : List RunReasons → Data
reasons_data runs = object
    (member (codes "runs") (array_of (map run_reasons_data runs))
    (member (codes "version") (count_data 2) no_members))

-- No object of reasons is deep.
use Rattle.std.proofs.Common.{◌≤◌, ◌++◌, ℕ, Bool, true, false, if◌then◌else◌, List, [], ◌∷◌, Option, Some, None, arith}
use Rattle.std.specs.Prelude.{codes, flat_map}
use Rattle.std.specs.Option.{option_map_or}
use Rattle.std.proofs.Math.Nat.{max-le}
use Rattle.serde_json.specs.Data.{Data, depth, items_depth, null}
use Rattle.serde_json.specs.Read.{max_depth}
use Rattle.serde_json.specs.View.{items_of}
use Rattle.ar_exact.specs.Exact.{exact_of}
use Rattle.ar_facts.proofs.Objects.{finding_flat, metric_flat}
use Rattle.ar_object.proofs.Values.{above, count_flat, none_deep, one_deep}
use Rattle.ar_object.specs.Object.{array_of}
use Rattle.ar_facts.specs.Facts.{MetricFacts}
use Rattle.ar_facts.specs.Names.{phase_name}
use Rattle.ar_facts.specs.ReportData.{event_data, metric_data}
use Rattle.ar_limits.specs.Metric.{is_complete}
use Rattle.ar_limits.specs.declared.phase.Phase.{Phase}
use Rattle.ar_misfit.specs.Misfit.{Step, index, named}
use Rattle.ar_misfit.specs.MisfitData.{step_data}
use Rattle.ar_misfit.specs.MisfitText.{advice}
use Rattle.ar_progress.specs.Excess.{limit_name}
use Rattle.ar_progress.specs.Settled.{settled_by}
use Rattle.ar_progress.specs.Waiting.{progress_of, waits_for}
use Rattle.ar_progress.specs.declared.settled.Settled.{Settled}
use Rattle.ar_progress.specs.declared.steps.Change.{Change}
use Rattle.ar_progress.specs.declared.waiting.Progress.{Progress}
use Rattle.ar_progress.specs.declared.why.Why.{Why}
use Rattle.ar_progress.specs.declared.why.Why.TheVariants as whys
use Rattle.ar_reason.specs.Reason.{Given, Reason, RunReasons, gave_error, gave_misfit, gave_nothing, gave_value}
use Rattle.ar_evaluation.specs.EvaluatedData.{evaluated_data}
use Rattle.ar_reason.specs.ReasonData.{awaited, awaited_data, change_data, given_error, given_misfit, given_shown, given_value, progress_data, reason_data, reasons_data, run_reasons_data, run_waits_data, settled_data, waiting_data, why_data, why_members}
use Rattle.ar_evaluation.proofs.Objects.{text_small, count_small, zero_small, three_deep, five_deep, six_deep, nine_deep, exact_small, evaluated_flat}

-- ---- an event

change_flat : (change : Option Change) → depth (option_map_or change_data change null) ≤ 12
change_flat (Some change) = rw (count_flat change.limits.count) (omega arith)
change_flat None = omega arith

finding_small : (reason : Reason) → depth (event_data reason.event) ≤ 12
finding_small reason = let is = finding_flat reason.event reason.event.finding in omega arith

error_small : (given : Given) → depth (given_error given) ≤ 12
error_small gave_nothing = omega arith
error_small (gave_error text) = omega arith
error_small (gave_value value) = omega arith
error_small (gave_misfit misfit) = omega arith

shown_small : (given : Given) → depth (given_shown given) ≤ 12
shown_small gave_nothing = omega arith
shown_small (gave_error text) = omega arith
shown_small (gave_value value) = omega arith
shown_small (gave_misfit misfit) = omega arith

given_small : (given : Given) → depth (given_value given) ≤ 12
given_small gave_nothing = omega arith
given_small (gave_error text) = omega arith
given_small (gave_value value) = exact_small (exact_of value) 12 (omega arith)
given_small (gave_misfit misfit) = omega arith

step_flat : (step : Step) → depth (step_data step) ≤ 10
step_flat (index n) = omega arith
step_flat (named name) = omega arith

misfit_small : (number : ℕ) (given : Given) → depth (given_misfit number given) ≤ 12
misfit_small number gave_nothing = omega arith
misfit_small number (gave_error text) = omega arith
misfit_small number (gave_value value) = omega arith
misfit_small number (gave_misfit misfit) =
    six_deep 0 0 0 _ _ 0 11 (zero_small 11) (zero_small 11) (zero_small 11) (text_small (advice misfit.fault misfit.expected misfit.found) 11) (above (none_deep step_data 10 step_flat misfit.path)) (zero_small 11)

members_small : (count event value : Option ℕ) (kind : List ℕ) (limit phase : Option (List ℕ)) → depth (why_members count event kind limit phase value) ≤ 12
members_small count event value kind limit phase =
    six_deep _ _ 0 _ _ _ 11 (count_small count 11) (count_small event 11) (zero_small 11) (text_small limit 11) (text_small phase 11) (count_small value 11)

why_small : (why : Option Why) → depth (option_map_or why_data why null) ≤ 12
why_small None = omega arith
why_small (Some whys.Stopped) = members_small None None None (codes "stop") None None
why_small (Some (whys.Exceeded phase excess)) =
    members_small (Some excess.count) None (Some excess.value) (codes "limit") (Some (limit_name excess.limit)) (Some (phase_name phase))
why_small (Some whys.AllComplete) = members_small None None None (codes "complete") None None
why_small (Some (whys.Dry phase)) = members_small None None None (codes "dry") None (Some (phase_name phase))
why_small (Some (whys.AfterClose number)) = members_small None (Some number) None (codes "runClosed") None None
why_small (Some (whys.MetricWas phase since)) = members_small None since None (codes "metricComplete") None (Some (phase_name phase))

reason_flat : (reason : Reason) → depth (reason_data reason) ≤ 13
reason_flat reason =
    nine_deep _ _ _ _ _ 0 _ _ _ 12 (above (none_deep evaluated_data 11 evaluated_flat reason.conditions)) (change_flat reason.change) (error_small reason.given) (finding_small reason) (misfit_small reason.event.number reason.given) (zero_small 12) (why_small reason.why) (shown_small reason.given) (given_small reason.given)

-- ---- a run

progress_small : (progress : Option Progress) → depth (option_map_or progress_data progress null) ≤ 2
progress_small None = omega arith
progress_small (Some progress) = let is = count_flat progress.count in omega arith

settled_small : (settled : Option Settled) → depth (option_map_or settled_data settled null) ≤ 2
settled_small None = omega arith
settled_small (Some settled) = three_deep _ 0 0 1 (count_small settled.count 1) (zero_small 1) (zero_small 1)

metric_small : (metric : MetricFacts) → depth (metric_data metric) ≤ 2
metric_small metric = let is = metric_flat metric in omega arith

waiting_flat : (closer : Option ℕ) (metric : MetricFacts) → depth (waiting_data closer metric) ≤ 3
waiting_flat closer metric =
    three_deep _ _ _ 2 (metric_small metric) (settled_small (settled_by closer metric.limits metric.counts)) (progress_small (waits_for metric.phase metric.limits metric.counts))

one_awaited : (metric : MetricFacts) (later : List Data) → items_depth (items_of later) ≤ 13 → items_depth (items_of (awaited metric ++ later)) ≤ 13
one_awaited metric later small = by (is_complete metric.phase) where
  by : (complete : Bool) → items_depth (items_of ((if complete then [] else awaited_data metric.name (progress_of metric.limits metric.counts) ∷ []) ++ later)) ≤ 13
  by true = small
  by false = max-le (three_deep _ 0 0 12 (count_small metric.limits.count 12) (zero_small 12) (zero_small 12)) small

awaited_flat : (metrics : List MetricFacts) → items_depth (items_of (flat_map awaited metrics)) ≤ 13
awaited_flat [] = omega arith
awaited_flat (metric ∷ metrics) = one_awaited metric (flat_map awaited metrics) (awaited_flat metrics)

waits_small : (phase : Phase) (metrics : List MetricFacts) → depth (run_waits_data phase metrics) ≤ 14
waits_small phase metrics = by (is_complete phase) where
  by : (closed : Bool) → depth (if closed then null else array_of (flat_map awaited metrics)) ≤ 14
  by true = omega arith
  by false = above (awaited_flat metrics)

run_flat : (run : RunReasons) → depth (run_reasons_data run) ≤ 15
run_flat run =
    let events = above (none_deep reason_data 13 reason_flat run.reasons) in
    let metrics = above (none_deep (waiting_data run.closer) 13 (λ metric. let is = waiting_flat run.closer metric in omega arith) run.metrics) in
    five_deep _ _ 0 0 _ 14 events metrics (zero_small 14) (zero_small 14) (waits_small run.phase run.metrics)

more : {a : ℕ} → a ≤ 17 → a ≤ max_depth
more less = omega arith

pub reasons_flat : (runs : List RunReasons) → depth (reasons_data runs) ≤ max_depth
reasons_flat runs = more (one_deep _ 16 (above (none_deep run_reasons_data 15 run_flat runs)))

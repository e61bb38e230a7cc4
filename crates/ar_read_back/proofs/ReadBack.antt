-- Who reads the object of an explanation finds what it states.
use Rattle.std.proofs.Common.{◌≡◌, ℕ, ◌++◌, Bool, true, false, if◌then◌else◌, List, [], ◌∷◌, map, Option, Some, None, Ok, refl}
use Rattle.std.specs.Prelude.{flat_map, option_map}
use Rattle.std.specs.Option.{option_map_or}
use Rattle.serde_json.specs.Data.{Data}
use Rattle.serde_json.specs.Data as json
use Rattle.serde_json.specs.View.{items_of}
use Rattle.ar_value.specs.Operators.{Failure, faulted, ill_kinded}
use Rattle.ar_value.specs.Terms.{Text}
use Rattle.ar_value.specs.declared.fault.Fault.TheVariants as faults
use Rattle.ar_json.specs.Refusals.{shape_fault_name}
use Rattle.ar_json.specs.declared.value_reading.ShapeFault.{ShapeFault}
use Rattle.ar_json.specs.declared.value_reading.ShapeFault.TheVariants as misfits
use Rattle.ar_object.specs.Object.{count_data, count_or_null, text_or_null}
use Rattle.ar_limits.specs.Metric.{is_complete}
use Rattle.ar_limits.specs.declared.limits.Limits.{Limits}
use Rattle.ar_limits.specs.declared.phase.Phase.{Phase}
use Rattle.ar_bundle.specs.Event.{EventNumber}
use Rattle.ar_facts.specs.Facts.{MetricFacts}
use Rattle.ar_facts.specs.ReportData.{event_data, limits_data}
use Rattle.ar_facts.specs.ReportReader.{Reading, all_in, count_in, each_in, misfit_in, string_in, unless_null}
use Rattle.ar_report.proofs.ReadBack.{each_read, event_read, metric_read, phase_read}
use Rattle.ar_progress.specs.Settled.{settled_by}
use Rattle.ar_progress.specs.Waiting.{waits_for}
use Rattle.ar_progress.specs.declared.excess.LimitName.TheVariants as limits
use Rattle.ar_progress.specs.Excess.{limit_name}
use Rattle.ar_progress.specs.declared.excess.LimitName.{LimitName}
use Rattle.ar_progress.specs.declared.settled.Settled.{Settled}
use Rattle.ar_progress.specs.declared.steps.Change.{Change}
use Rattle.ar_progress.specs.declared.waiting.Progress.{Progress}
use Rattle.ar_progress.specs.declared.why.Why.{Why}
use Rattle.ar_progress.specs.declared.why.Why.TheVariants as whys
use Rattle.ar_apart.specs.Apart.{Apart}
use Rattle.ar_misfit.specs.Misfit.{Misfit, Step, index, named}
use Rattle.ar_misfit.specs.MisfitData.{misfit_data, step_data}
use Rattle.ar_tree.specs.Typed.{Typed}
use Rattle.ar_explain.specs.Lines.{Line, Outcome, failed, is_item, passed, unneeded, valued}
use Rattle.ar_evaluation.specs.Evaluated.{EvaluatedCondition}
use Rattle.ar_evaluation.specs.EvaluatedData.{apart_data, apart_if_there, condition_answer, evaluated_data, operands_if_there, part_data}
use Rattle.ar_evaluation.specs.EvaluatedText.{failure_name}
use Rattle.ar_reason.specs.Reason.{Given, Reason, RunReasons, gave_error, gave_misfit, gave_nothing, gave_value}
use Rattle.ar_reason.specs.ReasonData.{awaited, change_data, given_error, given_misfit, given_shown, given_value, progress_data, reason_data, reason_members, run_reasons_data, run_waits_data, settled_data, value_pointer, waiting_data, why_data}
use Rattle.ar_read_back.specs.StatedCondition.{stated_answer, stated_condition, stated_part, value_answers}
use Rattle.ar_read_back.specs.Stated.{stated_awaited, stated_change, stated_given, stated_limits, stated_metric, stated_misfit, stated_progress, stated_reason, stated_run, stated_settled}
use Rattle.ar_read_back.specs.ConditionReader.{apart_in, condition_in, failure_in, part_in}
use Rattle.ar_read_back.specs.StatedLaws.{ExplanationsReadBack}
use Rattle.ar_read_back.specs.ExplanationReader.{awaited_in, change_in, given_in, limit_in, progress_in, reason_in, settled_in, step_in, stated_limits_in, stated_metric_in, stated_misfit_in, stated_run_in, why_in}

-- ---- lists, and what may be null

each_stated : {A B : Type 0} (read : Data → Reading B) (data_of : A → Data) (stated : A → B) → ((x : A) → read (data_of x) ≡ Ok (stated x)) → (xs : List A) → each_in read (items_of (map data_of xs)) ≡ Ok (map stated xs)
each_stated read data_of stated reads [] = refl
each_stated read data_of stated reads (x ∷ xs) = rw (reads x, each_stated read data_of stated reads xs) refl

text_read : (found : Option Text) → unless_null string_in (text_or_null found) ≡ Ok found
text_read (Some text) = refl
text_read None = refl

count_read : (found : Option ℕ) → unless_null count_in (count_or_null found) ≡ Ok found
count_read (Some n) = refl
count_read None = refl

apart_read : (found : Option Apart) → unless_null apart_in (option_map_or apart_data found json.null) ≡ Ok found
apart_read (Some apart) = refl
apart_read None = refl

-- ---- names

fault_read : (fault : ShapeFault) → misfit_in (json.string (shape_fault_name fault)) ≡ Ok fault
fault_read misfits.WrongKind = refl
fault_read misfits.FloatNumber = refl
fault_read misfits.NotFinite = refl
fault_read misfits.BadDecimal = refl
fault_read misfits.OutOfRange = refl
fault_read misfits.ListTooLong = refl
fault_read misfits.MissingField = refl
fault_read misfits.OutOfMemory = refl

limit_read : (limit : LimitName) → limit_in (json.string (limit_name limit)) ≡ Ok limit
limit_read limits.Failure = refl
limit_read limits.Inconclusive = refl
limit_read limits.ConsecutiveError = refl

failure_read : (failure : Failure) → failure_in (json.string (failure_name failure)) ≡ Ok failure
failure_read (faulted faults.IndexOutOfRange) = refl
failure_read (faulted faults.NilOperand) = refl
failure_read (faulted faults.Overflow) = refl
failure_read (faulted faults.DivisionByZero) = refl
failure_read ill_kinded = refl

-- ---- what the provider gave

step_read : (step : Step) → step_in (step_data step) ≡ Ok step
step_read (index n) = refl
step_read (named name) = refl

misfit_read : (number : EventNumber) (misfit : Misfit) → stated_misfit_in (misfit_data (value_pointer number) misfit) ≡ Ok (stated_misfit number misfit)
misfit_read number misfit = rw (each_read step_in step_data step_read misfit.path, fault_read misfit.fault, text_read (stated_misfit number misfit).hint) refl

given_read : (conditions : List Data) (counts event no_condition reason : Data) (number : EventNumber) (given : Given) → given_in (reason_members conditions counts (given_error given) event (given_misfit number given) no_condition reason (given_shown given) (given_value given)) ≡ Ok (stated_given number given)
given_read conditions counts event no_condition reason number gave_nothing = refl
given_read conditions counts event no_condition reason number (gave_error text) = refl
given_read conditions counts event no_condition reason number (gave_value value) = refl
given_read conditions counts event no_condition reason number (gave_misfit misfit) = rw (misfit_read number misfit) refl

-- ---- the parts of a condition

part_with : (items : List ℕ) (part : Typed) (said : Outcome) → part_in (part_data (record { items = items; part = part; said = said })) ≡ Ok (stated_part (record { items = items; part = part; said = said }))
part_with items part (valued shown apart) = rw (each_read count_in count_data (λ n. refl) items, apart_read apart) refl
part_with items part (is_item shown) = rw (each_read count_in count_data (λ n. refl) items) refl
part_with items part (failed failure on) = rw (each_read count_in count_data (λ n. refl) items, failure_read failure, text_read on) refl
part_with items part unneeded = rw (each_read count_in count_data (λ n. refl) items) refl
part_with items part (passed many held) = rw (each_read count_in count_data (λ n. refl) items) refl

part_read : (line : Line) → part_in (part_data line) ≡ Ok (stated_part line)
part_read line = part_with line.items line.part line.said

-- ---- a condition

answer_read : (answer : Outcome) → value_answers (condition_answer answer) ≡ stated_answer answer
answer_read (valued shown apart) = refl
answer_read (is_item shown) = refl
answer_read (failed (faulted faults.IndexOutOfRange) on) = refl
answer_read (failed (faulted faults.NilOperand) on) = refl
answer_read (failed (faulted faults.Overflow) on) = refl
answer_read (failed (faulted faults.DivisionByZero) on) = refl
answer_read (failed ill_kinded on) = refl
answer_read unneeded = refl
answer_read (passed items held) = refl

condition_read : (condition : EvaluatedCondition) → condition_in (evaluated_data condition) ≡ Ok (stated_condition condition)
condition_read condition =
    rw (answer_read condition.answer, text_read (operands_if_there condition.answer), apart_read (apart_if_there condition.answer), each_stated part_in part_data stated_part part_read (condition.parts.lines ++ condition.parts.last)) refl

-- ---- an event

limits_read : (limits : Limits) → stated_limits_in (limits_data limits) ≡ Ok (stated_limits limits)
limits_read limits = rw (count_read limits.count) refl

change_read : (change : Option Change) → unless_null change_in (option_map_or change_data change json.null) ≡ Ok (option_map stated_change change)
change_read None = refl
change_read (Some change) = rw (limits_read change.limits) refl

why_read : (why : Option Why) → unless_null why_in (option_map_or why_data why json.null) ≡ Ok why
why_read None = refl
why_read (Some whys.Stopped) = refl
why_read (Some (whys.Exceeded phase excess)) = rw (phase_read phase, limit_read excess.limit) refl
why_read (Some whys.AllComplete) = refl
why_read (Some (whys.Dry phase)) = rw (phase_read phase) refl
why_read (Some (whys.AfterClose number)) = refl
why_read (Some (whys.MetricWas phase since)) = rw (phase_read phase, count_read since) refl

reason_read : (reason : Reason) → reason_in (reason_data reason) ≡ Ok (stated_reason reason)
reason_read reason =
    rw (event_read reason.event, given_read (map evaluated_data reason.conditions) (option_map_or change_data reason.change json.null) (event_data reason.event) (json.boolean reason.no_condition) (option_map_or why_data reason.why json.null) reason.event.number reason.given, each_stated condition_in evaluated_data stated_condition condition_read reason.conditions, change_read reason.change, why_read reason.why) refl

-- ---- a metric

progress_read : (progress : Option Progress) → unless_null progress_in (option_map_or progress_data progress json.null) ≡ Ok (option_map stated_progress progress)
progress_read None = refl
progress_read (Some progress) = rw (count_read progress.count) refl

settled_read : (settled : Option Settled) → unless_null settled_in (option_map_or settled_data settled json.null) ≡ Ok (option_map stated_settled settled)
settled_read None = refl
settled_read (Some settled) = rw (count_read settled.count) refl

waiting_read : (closer : Option EventNumber) (metric : MetricFacts) → stated_metric_in (waiting_data closer metric) ≡ Ok (stated_metric closer metric)
waiting_read closer metric =
    rw (metric_read metric, settled_read (settled_by closer metric.limits metric.counts), progress_read (waits_for metric.phase metric.limits metric.counts)) refl

-- ---- a run

one_awaited : (metric : MetricFacts) (metrics : List MetricFacts) → each_in awaited_in (items_of (flat_map awaited metrics)) ≡ Ok (flat_map stated_awaited metrics) → each_in awaited_in (items_of (flat_map awaited (metric ∷ metrics))) ≡ Ok (flat_map stated_awaited (metric ∷ metrics))
one_awaited metric metrics later = by (is_complete metric.phase) refl where
  by : (complete : Bool) → is_complete metric.phase ≡ complete → each_in awaited_in (items_of (flat_map awaited (metric ∷ metrics))) ≡ Ok (flat_map stated_awaited (metric ∷ metrics))
  by true is = rw is later
  by false is = rw (is, count_read metric.limits.count, later) refl

awaited_read : (metrics : List MetricFacts) → each_in awaited_in (items_of (flat_map awaited metrics)) ≡ Ok (flat_map stated_awaited metrics)
awaited_read [] = refl
awaited_read (metric ∷ metrics) = one_awaited metric metrics (awaited_read metrics)

run_waits_read : (phase : Phase) (metrics : List MetricFacts) → unless_null (all_in awaited_in) (run_waits_data phase metrics) ≡ Ok (if is_complete phase then None else Some (flat_map stated_awaited metrics))
run_waits_read phase metrics = by (is_complete phase) refl where
  by : (closed : Bool) → is_complete phase ≡ closed → unless_null (all_in awaited_in) (run_waits_data phase metrics) ≡ Ok (if is_complete phase then None else Some (flat_map stated_awaited metrics))
  by true is = rw is refl
  by false is = rw (is, awaited_read metrics) refl

run_read : (run : RunReasons) → stated_run_in (run_reasons_data run) ≡ Ok (stated_run run)
run_read run =
    rw (phase_read run.phase, each_stated reason_in reason_data stated_reason reason_read run.reasons, each_stated stated_metric_in (waiting_data run.closer) (stated_metric run.closer) (waiting_read run.closer) run.metrics, run_waits_read run.phase run.metrics) refl

pub explanation_read : ExplanationsReadBack
explanation_read runs = each_stated stated_run_in run_reasons_data stated_run run_read runs

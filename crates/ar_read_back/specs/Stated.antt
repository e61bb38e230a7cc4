-- What the object of an explanation states of its runs (ar_reason/specs/ReasonData): the facts themselves. Comments say
-- what it leaves out.
use Rattle.std.specs.Prelude.{◌≡◌, refl, ℕ, ◌+◌, ◌-◌, ◌^◌, min, Bool, if◌then◌else◌, List, [], ◌∷◌, ◌++◌, flat_map, map, Option, Some, None, option_map}
use Rattle.serde_json.specs.Data.{Data}
use Rattle.ar_value.specs.Terms.{Text}
use Rattle.ar_json.specs.declared.value_reading.ShapeFault.{ShapeFault}
use Rattle.ar_limits.specs.Metric.{is_complete}
use Rattle.ar_limits.specs.declared.counts.Counts.{Counts}
use Rattle.ar_limits.specs.declared.limits.Limits.{Limits}
use Rattle.ar_limits.specs.declared.phase.Phase.{Phase}
use Rattle.ar_bundle.specs.Event.{EventNumber}
use Rattle.ar_facts.specs.Facts.{EventFacts, MetricFacts}
use Rattle.ar_progress.specs.Settled.{settled_by}
use Rattle.ar_progress.specs.Waiting.{progress_of, waits_for}
use Rattle.ar_progress.specs.declared.settled.Settled.{Settled}
use Rattle.ar_progress.specs.declared.steps.Change.{Change}
use Rattle.ar_progress.specs.declared.waiting.Progress.{Progress}
use Rattle.ar_progress.specs.declared.why.Why.{Why}
use Rattle.ar_exact.specs.Exact.{exact_of}
use Rattle.ar_exact.specs.Flat.{flat_data}
use Rattle.ar_show.specs.Values.{shown_value}
use Rattle.ar_misfit.specs.Misfit.{Misfit, Step}
use Rattle.ar_misfit.specs.MisfitData.{step_token}
use Rattle.ar_misfit.specs.MisfitText.{advice, expected_text, found_text}
use Rattle.ar_reason.specs.Reason.{Given, Reason, RunReasons, gave_error, gave_misfit, gave_nothing, gave_value}
use Rattle.ar_reason.specs.ReasonData.{value_pointer}
use Rattle.ar_read_back.specs.StatedCondition.{StatedCondition, stated_condition}

-- ---- what the provider gave

-- where a value doesn't fit its metric's shape
pub record StatedMisfit : Type 0 where
  -- the steps to the place, the outermost first, and its JSON Pointer (RFC 6901) in the document
  pub path : List Step
  pub pointer : Text
  pub fault : ShapeFault
  -- in words: what was expected there, what was found, and what to do
  pub expected : Text
  pub found : Text
  pub hint : Option Text

abbrev pub stated_misfit : EventNumber → Misfit → StatedMisfit
stated_misfit number misfit = record {
  path = misfit.path;
  pointer = value_pointer number ++ flat_map step_token misfit.path;
  fault = misfit.fault;
  expected = expected_text misfit.expected;
  found = found_text misfit.found;
  hint = advice misfit.fault misfit.expected misfit.found;
}

pub data StatedGiven : Type 0 where
  had_nothing : StatedGiven
  had_error : (text : Text) → StatedGiven
  -- `value`: what JSON has of the value, which is null where it has nothing
  had_value : (shown : Text) → (value : Data) → StatedGiven
  had_misfit : StatedMisfit → StatedGiven

abbrev pub stated_given : EventNumber → Given → StatedGiven
stated_given number gave_nothing = had_nothing
stated_given number (gave_error text) = had_error text
stated_given number (gave_value value) = had_value (shown_value value) (flat_data (exact_of value))
stated_given number (gave_misfit misfit) = had_misfit (stated_misfit number misfit)

-- ---- an event

-- whether the metric is dry is stated by the metric's own object alone
pub record StatedLimits : Type 0 where
  pub failure : ℕ
  pub inconclusive : ℕ
  pub consecutive_error : ℕ
  pub count : Option ℕ

abbrev pub stated_limits : Limits → StatedLimits
stated_limits limits = record {
  failure = limits.failure;
  inconclusive = limits.inconclusive;
  consecutive_error = limits.consecutive_error;
  count = limits.count;
}

-- what an event did to its metric's counts; the metric's phases before and after aren't stated
pub record StatedChange : Type 0 where
  pub limits : StatedLimits
  pub before : Counts
  pub after : Counts

abbrev pub stated_change : Change → StatedChange
stated_change change = record {
  limits = stated_limits change.limits;
  before = change.before.counts;
  after = change.after.counts;
}

pub record StatedReason : Type 0 where
  pub event : EventFacts
  pub given : StatedGiven
  pub conditions : List StatedCondition
  pub no_condition : Bool
  pub change : Option StatedChange
  pub why : Option Why

abbrev pub stated_reason : Reason → StatedReason
stated_reason reason = record {
  event = reason.event;
  given = stated_given reason.event.number reason.given;
  conditions = map stated_condition reason.conditions;
  no_condition = reason.no_condition;
  change = option_map stated_change reason.change;
  why = reason.why;
}

-- ---- a metric

-- a number of measurements beyond 64 bits is stated as the greatest number that these have
abbrev pub stated_measured : ℕ → ℕ
stated_measured measured = min measured (2 ^ 64 - 1)

abbrev pub stated_progress : Progress → Progress
stated_progress progress = record { measured = stated_measured progress.measured; count = progress.count }

abbrev pub stated_settled : Settled → Settled
stated_settled settled =
    record { closer = settled.closer; measured = stated_measured settled.measured; count = settled.count }

pub record StatedMetric : Type 0 where
  pub metric : MetricFacts
  -- how the close of its run made it Successful, if it did
  pub settled : Option Settled
  -- nothing where it is complete
  pub waits_for : Option Progress

-- `closer`: the event that closed the run, if one did
abbrev pub stated_metric : (closer : Option EventNumber) → MetricFacts → StatedMetric
stated_metric closer metric = record {
  metric = metric;
  settled = option_map stated_settled (settled_by closer metric.limits metric.counts);
  waits_for = option_map stated_progress (waits_for metric.phase metric.limits metric.counts);
}

-- ---- a run

-- a metric that a run waits for
pub record StatedAwaited : Type 0 where
  pub metric : Text
  pub progress : Progress

abbrev pub stated_awaited : MetricFacts → List StatedAwaited
stated_awaited metric =
    if is_complete metric.phase then []
    else record { metric = metric.name; progress = stated_progress (progress_of metric.limits metric.counts) } ∷ []

-- which event closed it is stated by the metrics that this settled, and by its effect if the event is among the reasons
pub record StatedRun : Type 0 where
  pub name : Text
  pub phase : Phase
  pub reasons : List StatedReason
  pub metrics : List StatedMetric
  -- nothing where it is closed
  pub waits_for : Option (List StatedAwaited)

abbrev pub stated_run : RunReasons → StatedRun
stated_run run = record {
  name = run.name;
  phase = run.phase;
  reasons = map stated_reason run.reasons;
  metrics = map (stated_metric run.closer) run.metrics;
  waits_for = if is_complete run.phase then None else Some (flat_map stated_awaited run.metrics);
}

-- ---- worked rows

beyond_64_bits : stated_measured (2 ^ 64 + 7) ≡ 2 ^ 64 - 1
beyond_64_bits = refl

within_64_bits : stated_measured 7 ≡ 7
within_64_bits = refl

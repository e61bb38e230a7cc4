-- What led to the verdict and the effect of each event of runs that is asked for.
use Rattle.ar_evaluation.specs.Evaluated.{EvaluatedCondition, conditions_on}
use Rattle.std.specs.Prelude.{ℕ, suc, ◌&&◌, Bool, true, false, if◌then◌else◌, List, [], ◌∷◌, ◌++◌, codes, is_none, map, slice_get, Option, Some, None, option_and_then}
use Rattle.std.specs.Option.{option_map_or}
use Rattle.serde_json.specs.Data.{Data}
use Rattle.serde_json.specs.Find.{as_str, at, get}
use Rattle.ar_value.specs.Terms.{Text}
use Rattle.ar_value.specs.Value.{Value}
use Rattle.ar_value.specs.View.{shape_view}
use Rattle.ar_judge.specs.Verdict.{Judge, Sample, measured, misfit as unfit, provider, sample_view}
use Rattle.ar_limits.specs.Run.{metric_counts, metric_phases, run_phase}
use Rattle.ar_limits.specs.declared.phase.Phase.{Phase}
use Rattle.ar_bundle.specs.Bundle.{Bundle, events_of, judge_at}
use Rattle.ar_bundle.specs.Event.{EventNumber}
use Rattle.ar_bundle.specs.Lawful.{numbers_of}
use Rattle.ar_bundle.specs.declared.bundle.EventPart.{EventPart}
use Rattle.ar_bundle.specs.declared.bundle.MetricPart.{MetricPart}
use Rattle.ar_bundle.specs.declared.bundle.RunPart.{RunPart}
use Rattle.ar_bundle.specs.declared.bundle.What.{What}
use Rattle.ar_bundle.specs.declared.bundle.What.TheVariants.{Measure, Stop}
use Rattle.ar_bundle.specs.declared.history.Entry.{Entry}
use Rattle.ar_misfit.specs.Misfit.{Misfit, misfit}
use Rattle.ar_facts.specs.Facts.{EventFacts, MetricFacts, event_facts, facts_of_metrics}
use Rattle.ar_progress.specs.Steps.{chosen_steps, closer_of, is_chosen_run}
use Rattle.ar_progress.specs.Why.{why_of}
use Rattle.ar_progress.specs.declared.chosen.Chosen.{Chosen}
use Rattle.ar_progress.specs.declared.steps.Change.{Change}
use Rattle.ar_progress.specs.declared.steps.Step.{Step}
use Rattle.ar_progress.specs.declared.why.Why.{Why}

-- ---- what the provider of a metric gave

pub data Given : Type 0 where
  -- nothing: the event is a stop, or the provider failed without a text
  gave_nothing : Given
  -- an error with a text
  gave_error : (text : Text) → Given
  gave_value : Value → Given
  -- what doesn't fit the metric's shape
  gave_misfit : Misfit → Given

-- a member of a measurement, as the document has it
abbrev pub measured_member : (name : Text) → (document : Data) → (number : EventNumber) → Option Data
measured_member name document number =
    option_and_then (get name) (option_and_then (at number) (get (codes "measurements") document))

abbrev pub error_of : Option Text → Given
error_of (Some text) = gave_error text
error_of None = gave_nothing

abbrev pub error_given : (found : Option Data) → Given
error_given found = error_of (option_and_then as_str found)

abbrev pub misfit_there : (found : Option Data) → (metric : Option MetricPart) → Option Misfit
misfit_there (Some found) (Some metric) = misfit (shape_view metric.shape) found
misfit_there found metric = None

-- a value that was refused has a misfit
abbrev pub given_unfit : Option Misfit → Given
given_unfit (Some misfit) = gave_misfit misfit
given_unfit None = gave_nothing

abbrev pub given_by : (misfit_there : Option Misfit) → (error_there : Given) → Sample → Given
given_by misfit_there error_there provider = error_there
given_by misfit_there error_there (unfit fault) = given_unfit misfit_there
given_by misfit_there error_there (measured found) = gave_value found

abbrev pub given_of : (document : Data) → Bundle → (number : EventNumber) → What → Given
given_of document bundle number (Measure metric sample) =
    given_by
    (misfit_there (measured_member (codes "value") document number) (slice_get bundle.metrics metric))
    (error_given (measured_member (codes "error") document number)) (sample_view sample)
given_of document bundle number Stop = gave_nothing

-- ---- what the conditions said of it

abbrev pub conditions_by : Option Judge → Sample → List EvaluatedCondition
conditions_by (Some judge) (measured found) = conditions_on judge found
conditions_by judge sample = []

abbrev pub conditions_of : Bundle → (run : ℕ) → What → List EvaluatedCondition
conditions_of bundle run (Measure metric sample) = conditions_by (judge_at bundle run metric) (sample_view sample)
conditions_of bundle run Stop = []

-- a metric without conditions is Successful by each value
abbrev pub is_unconditional : Judge → Bool
is_unconditional judge = is_none judge.success && is_none judge.failure

abbrev pub is_measured : Sample → Bool
is_measured (measured found) = true
is_measured (unfit fault) = false
is_measured provider = false

-- whether a value was measured, and there is no condition to evaluate on it
abbrev pub lacks_conditions : Bundle → (run : ℕ) → What → Bool
lacks_conditions bundle run (Measure metric sample) =
    is_measured (sample_view sample) && option_map_or is_unconditional (judge_at bundle run metric) false
lacks_conditions bundle run Stop = false

-- ---- an event

pub record Reason : Type 0 where
  pub event : EventFacts
  pub given : Given
  pub conditions : List EvaluatedCondition
  pub no_condition : Bool
  pub change : Option Change
  pub why : Option Why

abbrev pub reason_with : EventFacts → Given → List EvaluatedCondition → (no_condition : Bool) → Step → Reason
reason_with event given conditions no_condition step = record {
  event = event;
  given = given;
  conditions = conditions;
  no_condition = no_condition;
  change = step.change;
  why = why_of step;
}

-- an entry that is there; a history has no other
abbrev pub reason_if_there : (document : Data) → Bundle → Step → Option EventPart → Reason
reason_if_there document bundle step (Some part) =
    reason_with (event_facts bundle step.entry.number step.entry.effect)
    (given_of document bundle step.entry.number part.what) (conditions_of bundle part.run part.what)
    (lacks_conditions bundle part.run part.what) step
reason_if_there document bundle step None =
    reason_with (event_facts bundle step.entry.number step.entry.effect) gave_nothing [] false step

abbrev pub reason_of : (document : Data) → Bundle → Step → Reason
reason_of document bundle step = reason_if_there document bundle step (slice_get bundle.entries step.entry.number)

-- ---- runs

pub record RunReasons : Type 0 where
  pub name : Text
  pub phase : Phase
  -- the event that closed it
  pub closer : Option EventNumber
  pub reasons : List Reason
  pub metrics : List MetricFacts

abbrev pub run_reasons : (document : Data) → Bundle → Chosen → RunPart → (history : List Entry) → RunReasons
run_reasons document bundle chosen run history = record {
  name = run.name;
  phase = run_phase run.limits (events_of bundle (numbers_of history));
  closer = closer_of history;
  reasons = map (reason_of document bundle) (chosen_steps bundle chosen run.limits history);
  metrics = facts_of_metrics bundle.metrics run.limits
      (metric_phases run.limits (events_of bundle (numbers_of history)))
      (metric_counts run.limits (events_of bundle (numbers_of history)));
}

-- the runs that are asked for, counting runs from one
abbrev pub reasons_from : (document : Data) → Bundle → Chosen → (from : ℕ) → List RunPart → List (List Entry)
    → List RunReasons
reasons_from document bundle chosen from (run ∷ runs) (history ∷ histories) =
    (if is_chosen_run bundle chosen from history then run_reasons document bundle chosen run history ∷ [] else [])
    ++ reasons_from document bundle chosen (suc from) runs histories
reasons_from document bundle chosen from runs histories = []

abbrev pub reasons_of : (document : Data) → Bundle → Chosen → List (List Entry) → List RunReasons
reasons_of document bundle chosen histories = reasons_from document bundle chosen 0 bundle.runs histories

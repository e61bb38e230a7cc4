-- What each event of a run's history did to its metric, and which events before it had closed the run and completed the
-- metric.
use Rattle.std.specs.Prelude.{ℕ, ◌==◌, ◌&&◌, Bool, true, false, if◌then◌else◌, List, [], ◌∷◌, ◌++◌, flat_map, slice_get, Option, Some, None, find, option_and_then, option_map}
use Rattle.std.specs.List.{list_any}
use Rattle.std.specs.Option.{option_map_or}
use Rattle.ar_limits.specs.Metric.{is_complete}
use Rattle.ar_limits.specs.Prefixes.{with_earlier}
use Rattle.ar_limits.specs.Run.{metric_counts, metric_phases}
use Rattle.ar_limits.specs.declared.event.Event.{Event}
use Rattle.ar_limits.specs.declared.event.Event.TheVariants as event
use Rattle.ar_limits.specs.declared.event.Effect.{Effect}
use Rattle.ar_limits.specs.declared.event.Effect.TheVariants as effect
use Rattle.ar_limits.specs.declared.limits.Limits.{Limits}
use Rattle.ar_bundle.specs.Bundle.{Bundle, events_of, happened, run_at}
use Rattle.ar_bundle.specs.Event.{EventNumber}
use Rattle.ar_bundle.specs.Lawful.{numbers_of}
use Rattle.ar_bundle.specs.declared.bundle.EventPart.{EventPart}
use Rattle.ar_bundle.specs.declared.bundle.What.{What}
use Rattle.ar_bundle.specs.declared.bundle.What.TheVariants.{Measure, Stop}
use Rattle.ar_bundle.specs.declared.history.Entry.{Entry}
use Rattle.ar_progress.specs.declared.chosen.Chosen.{Chosen}
use Rattle.ar_progress.specs.declared.chosen.Chosen.TheVariants as chosen
use Rattle.ar_progress.specs.declared.steps.Change.{Change}
use Rattle.ar_progress.specs.declared.steps.MetricState.{MetricState}
use Rattle.ar_progress.specs.declared.steps.Step.{Step}

-- ---- what an event did to its metric

-- a metric of a run after some events
abbrev pub metric_after : List Limits → List Event → (metric : ℕ) → Option MetricState
metric_after limits events metric =
    option_and_then (λ phase. option_map (λ counts. record { phase = phase; counts = counts })
    (slice_get (metric_counts limits events) metric)) (slice_get (metric_phases limits events) metric)

abbrev pub change_with : (metric : ℕ) → Limits → (before after : Option MetricState) → Option Change
change_with metric own (Some before) (Some after) =
    Some (record { metric = metric; limits = own; before = before; after = after })
change_with metric own before after = None

-- what an event after earlier ones did to a metric
abbrev pub change_of : List Limits → (earlier : List Event) → Event → (metric : ℕ) → Option Change
change_of limits earlier event metric = option_and_then
    (λ own. change_with metric own (metric_after limits earlier metric)
    (metric_after limits (earlier ++ event ∷ []) metric)) (slice_get limits metric)

-- a stop is of no metric
abbrev pub own_change : List Limits → (earlier : List Event) → Event → Option Change
own_change limits earlier (event.Mark metric mark) = change_of limits earlier (event.Mark metric mark) metric
own_change limits earlier event.Stop = None

-- what an event of a history did to its metric
abbrev pub change_after : Bundle → List Limits → (earlier : List Entry) → Entry → Option Change
change_after bundle limits earlier entry =
    option_and_then (own_change limits (events_of bundle (numbers_of earlier))) (happened bundle entry.number)

-- ---- what had closed the run

abbrev pub closes : Effect → Bool
closes (effect.Closed phase) = true
closes effect.Applied = false
closes effect.Late = false

-- the event that closed the run, if one did
abbrev pub closer_of : List Entry → Option EventNumber
closer_of entries = option_map (λ (entry : Entry). entry.number) (find (λ (entry : Entry). closes entry.effect) entries)

-- ---- what had completed a metric

-- whether an event is one of this metric, which is complete after it
abbrev pub leaves_complete : (metric : ℕ) → Option Change → Bool
leaves_complete metric (Some change) = change.metric == metric && is_complete change.after.phase
leaves_complete metric None = false

-- the first event of a metric after which the metric is complete, if there is one
abbrev pub completer_of : Bundle → List Limits → List Entry → (metric : ℕ) → Option EventNumber
completer_of bundle limits entries metric =
    option_map (λ (found : List Entry × Entry). found.1.number)
    (find (λ (earlier, entry). leaves_complete metric (change_after bundle limits earlier entry))
    (with_earlier entries))

-- of the metric that an event changes
abbrev pub own_completer : Bundle → List Limits → (earlier : List Entry) → Option Change → Option EventNumber
own_completer bundle limits earlier change =
    option_and_then (λ (change : Change). completer_of bundle limits earlier change.metric) change

-- ---- each event of a history

abbrev pub step_after : Bundle → List Limits → (earlier : List Entry) → Entry → Step
step_after bundle limits earlier entry = record {
  entry = entry;
  change = change_after bundle limits earlier entry;
  closer = closer_of earlier;
  completer = own_completer bundle limits earlier (change_after bundle limits earlier entry);
}

abbrev pub steps_after : Bundle → List Limits → (earlier entries : List Entry) → List Step
steps_after bundle limits earlier [] = []
steps_after bundle limits earlier (entry ∷ entries) =
    step_after bundle limits earlier entry ∷ steps_after bundle limits (earlier ++ entry ∷ []) entries

-- ---- which of them are asked for

-- a stop is of every metric
abbrev pub is_of_metric : (metric : ℕ) → Option Change → Bool
is_of_metric metric change = option_map_or (λ (change : Change). change.metric == metric) change true

abbrev pub is_chosen : Chosen → Step → Bool
is_chosen chosen.All step = true
is_chosen (chosen.Event number) step = step.entry.number == number
is_chosen (chosen.Run run) step = true
is_chosen (chosen.Metric metric) step = is_of_metric metric step.change

abbrev pub if_chosen : Chosen → Step → List Step
if_chosen asked step = if is_chosen asked step then step ∷ [] else []

abbrev pub chosen_steps : Bundle → Chosen → List Limits → (history : List Entry) → List Step
chosen_steps bundle asked limits history = flat_map (if_chosen asked) (steps_after bundle limits [] history)

abbrev pub measures : (metric : ℕ) → What → Bool
measures metric (Measure own sample) = own == metric
measures metric Stop = false

abbrev pub is_entry_of : Bundle → (metric : ℕ) → Entry → Bool
is_entry_of bundle metric entry =
    option_map_or (λ (part : EventPart). measures metric part.what) (slice_get bundle.entries entry.number) false

-- whether a run with this history is printed, counting runs from 0: of a metric, one with events of it
abbrev pub is_chosen_run : Bundle → Chosen → (run : ℕ) → (history : List Entry) → Bool
is_chosen_run bundle chosen.All run history = true
is_chosen_run bundle (chosen.Event number) run history =
    option_map_or (λ own. own == run) (run_at bundle number) false
is_chosen_run bundle (chosen.Run own) run history = own == run
is_chosen_run bundle (chosen.Metric metric) run history = list_any (is_entry_of bundle metric) history

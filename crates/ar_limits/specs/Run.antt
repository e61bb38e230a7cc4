-- How a run of several metrics gets its phase: a definition by the prefixes of its events.
--
-- A run is an AnalysisRun of Argo Rollouts (documentation, page "Analysis & Progressive Delivery"): it ends with
-- the first metric that isn't dry and completes without success, with the last one that completes, or when it is
-- stopped from outside. A dry metric, one that `dryRun` names, is judged and counted as any other. The metrics are
-- numbered from 0.
use Rattle.std.specs.Prelude.{ℕ, ◌==◌, ◌||◌, ◌&&◌, Bool, true, false, if◌then◌else◌, Option, Some, None, is_some, List, [], ◌∷◌, ◌++◌, map, find, slice_get}
use Rattle.std.specs.List.{list_any, list_all, filter_map, enumerate_from}
use Rattle.std.specs.Option.{option_map_or}
use Rattle.ar_limits.specs.declared.counts.Counts.{Counts}
use Rattle.ar_limits.specs.declared.event.Event.{Event}
use Rattle.ar_limits.specs.declared.event.Event.TheVariants as event
use Rattle.ar_limits.specs.declared.event.Effect.{Effect}
use Rattle.ar_limits.specs.declared.event.Effect.TheVariants as effect
use Rattle.ar_limits.specs.declared.event.Mark.{Mark}
use Rattle.ar_limits.specs.declared.limits.Limits.{Limits}
use Rattle.ar_limits.specs.declared.phase.Phase.{Phase}
use Rattle.ar_limits.specs.declared.phase.Phase.TheVariants as phase
use Rattle.ar_limits.specs.Prefixes.{deciding_prefix, phase_by, with_earlier}
use Rattle.ar_limits.specs.Metric.{counts_of, phase_of_marks, is_complete, is_unsuccessful, succeeded}

-- ---- The marks of each metric

-- the mark, where the event is one of this metric
abbrev pub mark_of : ℕ → Event → Option Mark
mark_of metric (event.Mark number mark) = if number == metric then Some mark else None
mark_of metric event.Stop = None

-- the marks of one metric, in their order
unfoldable pub marks_of : ℕ → List Event → List Mark
marks_of metric events = filter_map (mark_of metric) events

-- the phase of each metric by its marks alone
unfoldable pub phases_by_marks : List Limits → List Event → List Phase
phases_by_marks limits events =
    map (λ metric. phase_of_marks metric.1 (marks_of metric.0 events)) (enumerate_from 0 limits)

-- ---- Closing

abbrev pub is_stop : Event → Bool
is_stop event.Stop = true
is_stop (event.Mark number mark) = false

-- whether the last event is a stop
abbrev pub ends_with_stop : List Event → Bool
ends_with_stop [] = false
ends_with_stop (last ∷ []) = is_stop last
ends_with_stop (first ∷ second ∷ rest) = ends_with_stop (second ∷ rest)

-- what a metric's phase counts as towards closing its run: that of a dry metric that is complete, whichever it
-- is, counts as Successful
abbrev pub phase_for_run : Limits → Phase → Phase
phase_for_run own reached = if is_complete reached && own.dry then phase.Successful else reached

-- of each metric
abbrev pub phases_for_run : List Limits → List Phase → List Phase
phases_for_run (own ∷ limits) (reached ∷ phases) = phase_for_run own reached ∷ phases_for_run limits phases
phases_for_run limits phases = []

-- how metrics whose phases count as these close their run: with the phase of one that is complete without
-- success, or Successful where all of them are
abbrev pub closed_by_metrics : List Phase → Option Phase
closed_by_metrics phases =
    if list_any is_unsuccessful phases then find is_unsuccessful phases
    else if list_all succeeded phases then Some phase.Successful
    else None

-- how a prefix of a run's events closes it, if it does: by a stop at its end or by its metrics. The empty prefix
-- closes nothing. Of the shortest prefix that closes, no two reasons give different phases (`OneRunPhase` of Laws).
unfoldable pub closing : List Limits → List Event → Option Phase
closing limits [] = None
closing limits (first ∷ rest) =
    if ends_with_stop (first ∷ rest) then Some phase.Successful
    else closed_by_metrics (phases_for_run limits (phases_by_marks limits (first ∷ rest)))

-- the shortest prefix that closes the run, if any does
unfoldable pub closing_prefix : List Limits → List Event → Option (List Event)
closing_prefix limits events = deciding_prefix (closing limits) events

-- ---- The phases

-- the phase of the run: that of its closing prefix, else Running, or Pending where there is no event
unfoldable pub run_phase : List Limits → List Event → Phase
run_phase limits events = phase_by (closing limits) events

-- what closing makes of a metric's phase: one that isn't complete becomes Successful
abbrev pub settled : Phase → Phase
settled phase.Pending = phase.Successful
settled phase.Running = phase.Successful
settled complete = complete

-- the phase of each metric: by its marks, and once the run is closed by those of the closing prefix
unfoldable pub metric_phases : List Limits → List Event → List Phase
metric_phases limits events =
    option_map_or (λ prefix. map settled (phases_by_marks limits prefix))
    (closing_prefix limits events)
    (phases_by_marks limits events)

-- ---- Late events, and the effect of each event

-- whether the event is a mark of a metric that the earlier events had completed
abbrev pub metric_was_complete : List Limits → List Event → Event → Bool
metric_was_complete limits earlier (event.Mark number mark) =
    option_map_or is_complete (slice_get (phases_by_marks limits earlier) number) false
metric_was_complete limits earlier event.Stop = false

-- an event is late where the earlier events had closed the run or completed its metric
unfoldable pub is_late : List Limits → List Event → Event → Bool
is_late limits earlier event =
    is_some (closing_prefix limits earlier) || metric_was_complete limits earlier event

-- what an event does after the earlier ones: nothing where it is late; else it closes the run, or is applied
unfoldable pub effect_of : List Limits → List Event → Event → Effect
effect_of limits earlier event =
    if is_late limits earlier event then effect.Late
    else option_map_or effect.Closed (closing limits (earlier ++ event ∷ [])) effect.Applied

-- the effect of each event, in their order
unfoldable pub effects : List Limits → List Event → List Effect
effects limits events = map (λ (earlier, event). effect_of limits earlier event) (with_earlier events)

-- the events that aren't late, in their order
unfoldable pub timely : List Limits → List Event → List Event
timely limits events =
    filter_map (λ (earlier, event). if is_late limits earlier event then None else Some event) (with_earlier events)

-- the counts of each metric, over its marks that aren't late
unfoldable pub metric_counts : List Limits → List Event → List Counts
metric_counts limits events =
    map (λ metric. counts_of (marks_of metric.0 (timely limits events))) (enumerate_from 0 limits)

-- One event more, from the state of a run: what the code does, by running counts.
--
-- No public contract speaks of this. The proof of `RunState::apply` shows that it is the definition of the list.
use Rattle.std.specs.Prelude.{◌+◌, ◌||◌, Bool, false, if◌then◌else◌, Option, Some, None, unwrap_or, map, slice_get, slice_set, slice_index_or}
use Rattle.std.specs.Option.{option_map_or}
use Rattle.ar_limits.specs.declared.counts.Counts.{Counts}
use Rattle.ar_limits.specs.declared.event.Event.{Event}
use Rattle.ar_limits.specs.declared.event.Event.TheVariants as event
use Rattle.ar_limits.specs.declared.event.Effect.{Effect}
use Rattle.ar_limits.specs.declared.event.Effect.TheVariants as effect
use Rattle.ar_limits.specs.declared.event.Mark.{Mark}
use Rattle.ar_limits.specs.declared.event.Mark.TheVariants as mark
use Rattle.ar_limits.specs.declared.limits.Limits.{Limits}
use Rattle.ar_limits.specs.declared.phase.Phase.{Phase}
use Rattle.ar_limits.specs.declared.phase.Phase.TheVariants as phase
use Rattle.ar_limits.specs.Metric.{decided_by, is_complete}
use Rattle.ar_limits.specs.Run.{closed_by_metrics, phases_for_run, settled}
use Rattle.ar_limits.specs.Replay.{Standing}

-- the counts with one mark more
abbrev pub with_mark : Counts → Mark → Counts
with_mark counts mark.Successful = record counts { successful = counts.successful + 1; succession = 0 }
with_mark counts mark.Failed = record counts { failed = counts.failed + 1; succession = 0 }
with_mark counts mark.Inconclusive = record counts { inconclusive = counts.inconclusive + 1; succession = 0 }
with_mark counts mark.Error = record counts { error = counts.error + 1; succession = counts.succession + 1 }

-- the phase of a metric that has marks, by its counts
abbrev pub phase_by_counts : Limits → Counts → Phase
phase_by_counts limits counts = unwrap_or (decided_by limits counts) phase.Running

-- for a metric without marks
abbrev pub no_counts : Counts
no_counts = record { successful = 0; failed = 0; inconclusive = 0; error = 0; succession = 0 }

-- for a metric that isn't there
abbrev pub no_limits : Limits
no_limits = record { failure = 0; inconclusive = 0; consecutive_error = 0; count = None; dry = false }

-- whether the event is late, a metric that isn't there being open
abbrev pub comes_late : Standing → Event → Bool
comes_late state (event.Mark number mark) =
    is_complete state.phase || option_map_or is_complete (slice_get state.phases number) false
comes_late state event.Stop = is_complete state.phase

-- the metrics after the event, before it closes anything
abbrev pub with_event : Standing → Event → Standing
with_event state (event.Mark number mark) =
    let counts = with_mark (slice_index_or state.counts number no_counts) mark in
    record state {
      counts = slice_set state.counts number counts;
      phases = slice_set state.phases number (phase_by_counts (slice_index_or state.limits number no_limits) counts);
    }
with_event state event.Stop = state

-- the phase with which the event closes the run, if it does
abbrev pub closing_now : Standing → Event → Option Phase
closing_now state (event.Mark number mark) =
    closed_by_metrics (phases_for_run state.limits (with_event state (event.Mark number mark)).phases)
closing_now state event.Stop = Some phase.Successful

-- the run is closed with this phase
abbrev pub closed : Standing → Phase → Standing
closed state closing = record state { phases = map settled state.phases; phase = closing }

-- the state of the run after the event, except its number of events
unfoldable pub next : Standing → Event → Standing
next state event =
    if comes_late state event then state
    else option_map_or (closed (with_event state event))
    (closing_now state event)
    (record (with_event state event) { phase = phase.Running })

-- what the event did
unfoldable pub answer : Standing → Event → Effect
answer state event =
    if comes_late state event then effect.Late
    else option_map_or effect.Closed (closing_now state event) effect.Applied

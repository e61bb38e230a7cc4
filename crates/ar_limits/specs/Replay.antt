-- Which lists of events lead to a state.
use Rattle.std.specs.Prelude.{ℕ, ◌≡◌, ◌+◌, ◌<◌, List, [], ◌∷◌, ◌++◌, length}
use Rattle.ar_limits.specs.declared.counts.Counts.{Counts}
use Rattle.ar_limits.specs.declared.event.Event.{Event}
use Rattle.ar_limits.specs.declared.event.Event.TheVariants as event
use Rattle.ar_limits.specs.declared.event.Effect.{Effect}
use Rattle.ar_limits.specs.declared.limits.Limits.{Limits}
use Rattle.ar_limits.specs.declared.phase.Phase.{Phase}
use Rattle.ar_limits.specs.Run.{run_phase, metric_phases, metric_counts, effect_of}

-- the most events that a run takes, late ones included
abbrev pub most_events : ℕ
most_events = 100000

-- the state of a run: what its `RunState` shows
pub record Standing : Type 0 where
  -- of each metric
  pub limits : List Limits
  pub phases : List Phase
  pub counts : List Counts
  -- of the run
  pub phase : Phase
  -- the events so far, late ones included
  pub handed : ℕ

-- these events, in this order and under these limits, lead to the run's state
pub record Replays (limits : List Limits) (events : List Event) (state : Standing) : Type 0 where
  pub limits_are : state.limits ≡ limits
  pub phases_are : state.phases ≡ metric_phases limits events
  pub counts_are : state.counts ≡ metric_counts limits events
  pub phase_is : state.phase ≡ run_phase limits events
  pub handed_is : state.handed ≡ length events

-- this holds of every list of events that leads to the state, and of its limits
abbrev pub ForEachReplay : Standing → (List Limits → List Event → Type 0) → Type 0
ForEachReplay state P =
    (limits : List Limits) (events : List Event) → Replays limits events state → P limits events

-- an event that is a mark is one of the first n metrics
abbrev pub IsOfMetricBelow : ℕ → Event → Type 0
IsOfMetricBelow metrics (event.Mark number mark) = number < metrics
IsOfMetricBelow metrics event.Stop = Unit {0}

-- a run took one event more and reported this effect
pub record TakesEvent (event : Event) (reported : Effect) (before after : Standing) : Type 0 where
  -- each list of events that led to its old state leads, with this event at its end, to its new one
  pub replays : ForEachReplay before (λ limits events. Replays limits (events ++ event ∷ []) after)
  -- the effect is that of this event after each such list
  pub effect : ForEachReplay before (λ limits events. reported ≡ effect_of limits events event)
  -- whichever events came before, the limits stay
  pub limits : after.limits ≡ before.limits
  -- and the number of events rises by one
  pub handed : after.handed ≡ before.handed + 1

-- What a post does to histories: a number moves to the end of its run's history, with its finding and the effect that
-- it has there.
use Rattle.std.specs.Prelude.{◌≡◌, ◌++◌, ℕ, List, [], ◌∷◌, set, get_or, Option, option_and_then, option_map, slice_get}
use Rattle.std.specs.Vec.{vec_capacity}
use Rattle.ar_limits.specs.Replay.{ForEachReplay, Replays}
use Rattle.ar_limits.specs.Run.{effect_of}
use Rattle.ar_limits.specs.declared.event.Effect.{Effect}
use Rattle.ar_limits.specs.declared.event.Event.{Event}
use Rattle.ar_limits.specs.declared.limits.Limits.{Limits}
use Rattle.ar_bundle.specs.Bundle.{Bundle, events_of, finding_at, happened, run_at}
use Rattle.ar_bundle.specs.Lawful.{numbers_of}
use Rattle.ar_bundle.specs.declared.finding.Finding.{Finding}
use Rattle.ar_bundle.specs.declared.history.Entry.{Entry}
use Rattle.ar_board.specs.declared.cell.run_history.RunHistory.{RunHistory}
use Rattle.ar_bundle.specs.Event.{EventNumber}

-- a number with its finding, and with its effect after events under its run's limits
abbrev pub entry_with : (number : EventNumber) → Finding → List Limits → List Event → Event → Entry
entry_with number finding limits events event =
    record { number = number; finding = finding; effect = effect_of limits events event }

-- after the whole of a history of its run
abbrev pub entry_posted : Bundle → (run : ℕ) → List Entry → (number : EventNumber) → Finding → Event → Option Entry
entry_posted bundle run history number finding event =
    option_map (λ part. entry_with number finding part.limits (events_of bundle (numbers_of history)) event)
    (slice_get bundle.runs run)

abbrev pub entry_after : Bundle → (run : ℕ) → List Entry → (number : EventNumber) → Option Entry
entry_after bundle run history number =
    option_and_then (λ finding. option_and_then (entry_posted bundle run history number finding) (happened bundle
    number)) (finding_at bundle number)

-- the histories with a number at the end of that of its run
abbrev pub added : List (List Entry) → (run : ℕ) → Entry → List (List Entry)
added histories run entry = set histories run (get_or histories run [] ++ entry ∷ [])

abbrev pub with_number : Bundle → List (List Entry) → (number run : ℕ) → Option (List (List Entry))
with_number bundle histories number run =
    option_map (added histories run) (entry_after bundle run (get_or histories run []) number)

abbrev pub posted : Bundle → List (List Entry) → (number : EventNumber) → Option (List (List Entry))
posted bundle histories number = option_and_then (with_number bundle histories number) (run_at bundle number)

-- a run's history in memory has one entry more at its end, and the same capacity
pub record HasOneMore (number : ℕ) (finding : Finding) (event : Event) (before after : RunHistory)
    (effect : Effect) : Type 0 where
  pub entry : after.entries.items
      ≡ before.entries.items ++ record { number = number; finding = finding; effect = effect } ∷ []
  -- what the event does after those that led to the run's state
  pub has_effect : ForEachReplay before.state (λ limits events. effect ≡ effect_of limits events event)
  -- where the event leads to
  pub replays : ForEachReplay before.state (λ limits events. Replays limits (events ++ event ∷ []) after.state)
  pub capacity : vec_capacity after.entries ≡ vec_capacity before.entries

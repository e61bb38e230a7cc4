-- What the private functions of a post do.
use Rattle.std.specs.Prelude.{◌≡◌, ◌<◌, ◌++◌, ℕ, suc, List, [], ◌∷◌, length, get_or, slice_get, Option, Some}
use Rattle.std.specs.Vec.{vec_capacity}
use Rattle.ar_limits.specs.Replay.{ForEachReplay, Replays, most_events}
use Rattle.ar_limits.specs.declared.event.Event.{Event}
use Rattle.ar_bundle.specs.Bundle.{Bundle, finding_at, happened}
use Rattle.ar_board.specs.Posting.{entry_with}
use Rattle.ar_board.specs.Core.{Core, after_steps, lacking, own_numbers, settled_numbers}
use Rattle.ar_board.specs.declared.core_steps.CoreStep.{CoreStep}
use Rattle.ar_bundle.specs.declared.finding.Finding.{Finding}
use Rattle.ar_board.specs.declared.cell.run_history.RunHistory.{RunHistory}

-- a run's history can take one entry more
pub record HasRoom (bundle : Bundle) (run : RunHistory) : Type 0 where
  pub room : length run.entries.items < vec_capacity run.entries
  pub few : run.state.handed < most_events
  pub metrics : length run.state.limits ≡ length bundle.metrics

-- it has a number more at its end, with the number's finding and its effect there
pub record IsAppended (bundle : Bundle) (number : ℕ) (old new : RunHistory) : Type 0 where
  pub finding : Finding
  pub event : Event
  pub finds : finding_at bundle number ≡ Some finding
  pub happens : happened bundle number ≡ Some event
  pub entries : ForEachReplay old.state
      (λ limits events. new.entries.items ≡ old.entries.items ++ entry_with number finding limits events event ∷ [])
  pub replays : ForEachReplay old.state (λ limits events. Replays limits (events ++ event ∷ []) new.state)
  pub capacity : vec_capacity new.entries ≡ vec_capacity old.entries

-- of a run's numbers in rising order, the one after as many as its history has
abbrev pub next_own : Core → (run : ℕ) → Option ℕ
next_own core run = slice_get (own_numbers core.bundle run) (length (get_or core.state.histories run []))

-- the core in which the parked numbers of a run have moved to its history as far as they can
abbrev pub settled_core : Core → (run : ℕ) → Core
settled_core core run =
    record core { state = settled_numbers core.bundle core.state (lacking core.bundle core.state run) }

-- one of them has moved
pub record IsTurn (run : ℕ) (old new : Core) : Type 0 where
  pub bundle : new.bundle ≡ old.bundle
  pub ordered : new.ordered ≡ old.ordered
  pub same : settled_core new run ≡ settled_core old run
  pub fewer : suc (length (lacking new.bundle new.state run)) ≡ length (lacking old.bundle old.state run)

-- the core after some steps
abbrev pub stepped_by : Core → List CoreStep → Core
stepped_by core steps = record core { state = after_steps core.bundle core.places core.ordered core.state steps }

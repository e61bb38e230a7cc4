-- The states that histories of runs lead to.
use Rattle.std.specs.Prelude.{◌≡◌, ℕ, List, length, slice_get, Some}
use Rattle.ar_limits.specs.Replay.{Replays, Standing}
use Rattle.ar_bundle.specs.Bundle.{Bundle, events_of}
use Rattle.ar_bundle.specs.Lawful.{AreLawful, numbers_of}
use Rattle.ar_bundle.specs.declared.bundle.RunPart.{RunPart}
use Rattle.ar_bundle.specs.declared.finished.Finished.{Finished}
use Rattle.ar_bundle.specs.declared.history.Entry.{Entry}

-- a state for each run of the bundle: the one that the events of the run's history lead to
pub record AreStatesOf (bundle : Bundle) (histories : List (List Entry)) (states : List Standing) : Type 0 where
  pub as_many : length states ≡ length bundle.runs
  pub each : (run : ℕ) (part : RunPart) (history : List Entry) (state : Standing)
      → slice_get bundle.runs run ≡ Some part → slice_get histories run ≡ Some history
      → slice_get states run ≡ Some state
      → Replays part.limits (events_of bundle (numbers_of history)) state

-- runs to which each number of the bundle has happened: their histories are lawful, and their states are those that
-- these lead to
pub record AreFinished (bundle : Bundle) (finished : Finished) : Type 0 where
  pub lawful : AreLawful bundle finished.histories
  pub states : AreStatesOf bundle finished.histories finished.states.items

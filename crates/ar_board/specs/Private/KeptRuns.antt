-- How a cell keeps runs, and how contracts see that.
use Rattle.std.specs.Prelude.{◌≡◌, ◌≢◌, ◌<◌, ◌≤◌, ◌+◌, ◌==◌, ◌++◌, ℕ, suc, nat_lt, Bool, if◌then◌else◌, List, [], ◌∷◌, length, map, Option, Some, None, drop, get_or, replicate, set, slice_get, vec_capacity}
use Rattle.ar_limits.specs.Replay.{IsOfMetricBelow, Replays, most_events}
use Rattle.ar_limits.specs.declared.event.Event.{Event}
use Rattle.ar_limits.specs.declared.limits.Limits.{Limits}
use Rattle.ar_bundle.specs.Sound.{IsBundle, entries_of}
use Rattle.ar_bundle.specs.Bundle.{Bundle, run_at}
use Rattle.ar_board.specs.Locks.{lock_of}
use Rattle.ar_board.specs.Cell.{Cell, IsCell, KeptRun, history_at}
use Rattle.ar_bundle.specs.Lawful.{numbers_of, times_in}
use Rattle.ar_board.specs.Posting.{HasOneMore}
use Rattle.ar_board.specs.Receipts.{posted_from}
use Rattle.ar_bundle.specs.declared.bundle.RunPart.{RunPart}
use Rattle.ar_bundle.specs.declared.finding.Finding.{Finding}
use Rattle.ar_bundle.specs.declared.history.Entry.{Entry}
use Rattle.ar_board.specs.declared.cell.kept_run.KeptRun.{KeptRun as Declared}
use Rattle.ar_board.specs.declared.cell.posted.Posted.{Posted}

-- a run can take one entry more, by a worker
pub record CanTake (kept : Declared) (worker : ℕ) (event : Event) : Type 0 where
  pub entry : length kept.run.entries.items < vec_capacity kept.run.entries
  pub author : length kept.authors.items < vec_capacity kept.authors
  pub there : worker < length kept.posts.items
  pub few : get_or kept.posts.items worker 0 < most_events
  pub room : kept.run.state.handed < most_events
  pub metric : IsOfMetricBelow (length kept.run.state.limits) event

-- it has one entry more, by the worker
pub record IsPushed (old new : Declared) (worker number : ℕ) (finding : Finding) (event : Event)
    (answer : Posted) : Type 0 where
  pub run : HasOneMore number finding event old.run new.run answer.effect
  pub place : answer.place ≡ length old.run.entries.items
  pub author : new.authors.items ≡ old.authors.items ++ worker ∷ []
  pub posts : new.posts.items ≡ set old.posts.items worker (get_or old.posts.items worker 0 + 1)
  pub author_capacity : vec_capacity new.authors ≡ vec_capacity old.authors

-- a run to which nothing has happened, with room for `room` entries
pub record IsOpened (limits : List Limits) (room workers : ℕ) (kept : Declared) : Type 0 where
  pub entries : kept.run.entries.items ≡ []
  pub authors : kept.authors.items ≡ []
  pub posts : kept.posts.items ≡ replicate workers 0
  pub state : Replays limits [] kept.run.state
  pub has_room : room ≤ vec_capacity kept.run.entries
  pub has_room_for_authors : room ≤ vec_capacity kept.authors

-- how many entries a run can have under a lock
abbrev pub room_under : Bundle → (lock run : ℕ) → ℕ
room_under bundle lock run = if lock_of run == lock then entries_of bundle run else 0

-- so it is of the first `upto` runs of a bundle, with room for all entries that they can have under the lock
pub record AreOpened (bundle : Bundle) (workers lock upto : ℕ) (runs : List Declared) : Type 0 where
  pub as_many : length runs ≡ upto
  pub each : (run : ℕ) (part : RunPart) (kept : Declared) → slice_get bundle.runs run ≡ Some part
      → slice_get runs run ≡ Some kept
      → IsOpened part.limits (room_under bundle lock run) workers kept

-- a worker's entries from a position on
abbrev pub own_from : (worker : ℕ) → List Entry → (authors : List ℕ) → (from : ℕ) → List (ℕ × ℕ)
own_from worker entries authors from = posted_from from worker (drop from entries) (drop from authors)

-- the first of them, where there is one
abbrev pub IsNextOwn : (worker : ℕ) → List Entry → (authors : List ℕ) → (from : ℕ) → Option ℕ → Type 0
IsNextOwn worker entries authors from None = own_from worker entries authors from ≡ []
IsNextOwn worker entries authors from (Some place) =
    (entry : Entry) × (slice_get entries place ≡ Some entry)
    × (own_from worker entries authors from ≡ (entry.number, place) ∷ own_from worker entries authors (suc place))

abbrev pub kept_of : Declared → KeptRun
kept_of kept =
    record {
      history = kept.run.entries.items;
      authors = kept.authors.items;
      posts = kept.posts.items;
      state = kept.run.state;
    }

abbrev pub cell_of : List Declared → (total : ℕ) → Cell
cell_of runs total = record { runs = map kept_of runs; total = total }

-- whether a number is among some
abbrev pub is_number_among : (number : ℕ) → List ℕ → Bool
is_number_among number numbers = nat_lt 0 (times_in number numbers)

-- whether each number is in its run's history
pub record IsTable (bundle : Bundle) (cell : Cell) (stored : List Bool) : Type 0 where
  pub as_many : length stored ≡ length bundle.entries
  pub each : (number run : ℕ) → run_at bundle number ≡ Some run
      → slice_get stored number ≡ Some (is_number_among number (numbers_of (history_at cell run)))

-- room for all entries of a run that is under the lock
pub record HasRoom (bundle : Bundle) (lock run : ℕ) (kept : Declared) : Type 0 where
  pub entries : lock_of run ≡ lock → entries_of bundle run ≤ vec_capacity kept.run.entries
  pub authors : lock_of run ≡ lock → entries_of bundle run ≤ vec_capacity kept.authors

-- what always holds of a cell
pub record IsSoundCell (named : Bundle) (workers lock : ℕ) (bundle : Bundle) (runs : List Declared)
    (stored : List Bool) (total : ℕ) : Type 0 where
  pub is_named : bundle ≡ named
  pub is_bundle : IsBundle bundle
  pub cell : IsCell bundle workers lock (cell_of runs total)
  pub table : IsTable bundle (cell_of runs total) stored
  pub room : (run : ℕ) (kept : Declared) → slice_get runs run ≡ Some kept → HasRoom bundle lock run kept

-- of what each run has, that of the runs below `upto` that are under a lock has moved to their positions among others,
-- which stay
pub record ArePutBelow {A : Type 0} (lock upto : ℕ) (own before after : List A) : Type 0 where
  pub as_many : length after ≡ length before
  pub put : (run : ℕ) → run < length before → run < upto → lock_of run ≡ lock
      → slice_get after run ≡ slice_get own run
  pub others : (run : ℕ) → (run < upto → lock_of run ≢ lock) → slice_get after run ≡ slice_get before run

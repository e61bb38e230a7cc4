-- How the core is laid out in memory.
use Rattle.std.specs.Prelude.{◌≡◌, ◌≤◌, ℕ, suc, min, true, List, [], ◌∷◌, length, map, slice_get, Some}
use Rattle.std.specs.Vec.{vec_capacity}
use Rattle.std.specs.VecDeque.{deque_capacity}
use Rattle.ar_limits.specs.Replay.{Replays}
use Rattle.ar_bundle.specs.Sound.{IsBundle, entries_of}
use Rattle.ar_bundle.specs.Bundle.{Bundle, events_of, finding_at}
use Rattle.ar_board.specs.Core.{Core, StepState}
use Rattle.ar_bundle.specs.Lawful.{numbers_of}
use Rattle.ar_board.specs.Private.Kept.{AreInOrder, IsSound}
use Rattle.ar_board.specs.Private.Own.{AreOwn, items_of_each}
use Rattle.ar_bundle.specs.declared.bundle.RunPart.{RunPart}
use Rattle.ar_bundle.specs.declared.finding.Finding.{Finding}
use Rattle.ar_bundle.specs.declared.history.Entry.{Entry}
use Rattle.ar_board.specs.declared.cell.run_history.RunHistory.{RunHistory}
use Rattle.ar_board.specs.declared.core_state.CoreState.TheInside.{Inside}

abbrev pub histories_of : List RunHistory → List (List Entry)
histories_of runs = map (λ run. run.entries.items) runs

abbrev pub state_of : Inside → StepState
state_of core =
    record {
      next = core.next;
      queue = core.queue.items;
      hands = core.hands.items;
      parked = core.parked.items;
      histories = histories_of core.runs.items;
    }

abbrev pub core_of : Inside → Core
core_of core = record { bundle = core.bundle.now; places = core.places; ordered = core.ordered; state = state_of core }

-- a run's state is that of its history, which has room for all entries of the run
pub record IsKept (bundle : Bundle) (run : ℕ) (part : RunPart) (core : RunHistory) : Type 0 where
  pub replays : Replays part.limits (events_of bundle (numbers_of core.entries.items)) core.state
  pub room : entries_of bundle run ≤ vec_capacity core.entries

-- so it is of each run, counting from a run
abbrev pub AreKept : Bundle → (from : ℕ) → List RunPart → List RunHistory → Type 0
AreKept bundle from [] [] = Unit {0}
AreKept bundle from (part ∷ parts) (run ∷ runs) = IsKept bundle from part run × AreKept bundle (suc from) parts runs
AreKept bundle from parts runs = ⊥

-- the findings of the numbers below one
pub record AreFound (bundle : Bundle) (upto : ℕ) (findings : List Finding) : Type 0 where
  pub all : length findings ≡ upto
  pub found : (number : ℕ) (finding : Finding) → slice_get findings number ≡ Some finding
      → finding_at bundle number ≡ Some finding

-- the finding of each number
abbrev pub AreJudged : Bundle → List Finding → Type 0
AreJudged bundle findings = AreFound bundle (length bundle.entries) findings

-- the runs, to which nothing has happened
pub record AreOpened (bundle : Bundle) (parts : List RunPart) (runs : List RunHistory) : Type 0 where
  pub kept : AreKept bundle 0 parts runs
  pub empty : histories_of runs ≡ map (λ run. []) parts

pub record IsCore (core : Inside) : Type 0 where
  pub bundle : IsBundle core.bundle.now
  pub findings : AreJudged core.bundle.now core.findings.items
  pub sound : IsSound core.bundle.now (state_of core)
  pub runs : AreKept core.bundle.now 0 core.bundle.now.runs core.runs.items
  pub queued : length core.queue.items ≤ core.places
  pub put : length core.queue.items ≤ core.next
  pub room : min core.places (length core.bundle.now.entries) ≤ deque_capacity core.queue
  pub own : core.ordered ≡ true → AreOwn core.bundle.now core.bundle.now.entries (items_of_each core.own.items)
  pub in_order : core.ordered ≡ true → AreInOrder core.bundle.now (histories_of core.runs.items)

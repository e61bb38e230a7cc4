-- What workers bring back: the pass of the queue, and desks at which just the numbers that the pass took are named.
use Rattle.std.specs.Prelude.{◌≡◌, ◌+◌, ◌++◌, ℕ, List, [], ◌∷◌, length}
use Rattle.ar_bundle.specs.Lawful.{times_in}
use Rattle.atomic_table.specs.Seated.{TableId}
use Rattle.crossbeam_queue.specs.Passes.{view}
use Rattle.ar_queue.specs.declared.queue.View.{View}
use Rattle.ar_queue.specs.declared.side_by_side.Gathered.{Gathered}
use Rattle.ar_bundle.specs.Event.{EventNumber}

-- a worker's pass that has taken some numbers, before it has met an end mark and after that
abbrev pub working : (taken : List ℕ) → View
working taken = record { feeds = 0; live = 1; put = 0; marks = 0; out = 0; ended = 0; taken = taken }

abbrev pub at_end : (taken : List ℕ) → View
at_end taken = record { feeds = 0; live = 1; put = 0; marks = 0; out = 0; ended = 1; taken = taken }

-- one number more is named, once more
abbrev pub IsNamed : (number : EventNumber) → (before after : List ℕ) → Type 0
IsNamed number before after = (other : ℕ) → times_in other after ≡ times_in other before + times_in other (number ∷ [])

-- just the numbers that were taken are named, each as often
abbrev pub AreNamed : (taken named : List ℕ) → Type 0
AreNamed taken named = (number : ℕ) → times_in number taken ≡ times_in number named

-- what is named at each desk, of all of them
abbrev pub all_named : {Desk : Type 0} → (Desk → List ℕ) → List Desk → List ℕ
all_named numbers [] = []
all_named numbers (desk ∷ desks) = numbers desk ++ all_named numbers desks

-- ---- the feeder

-- the feeder's pass that has put `put` numbers and `marks` end marks, has split off `out` passes, and joined none
abbrev pub feeding : (put marks out : ℕ) → View
feeding put marks out = record { feeds = 1; live = 1; put = put; marks = marks; out = out; ended = 0; taken = [] }

-- the feeder's pass, which has put `marks` end marks, with `out` passes out and `joined` joined
pub record IsFeeder (view : View) (marks out joined : ℕ) : Type 0 where
  pub feeds : view.feeds ≡ 1
  pub live : view.live ≡ 1
  pub has_marks : view.marks ≡ marks
  pub has_out : view.out ≡ out
  pub has_joined : view.ended ≡ joined

-- what workers brought back: the feeder's pass, with an end mark put and a pass joined for each worker, and none out,
-- and a desk from each of them, at which just the numbers that the pass took are named
pub record AreGathered {Desk : Type 0} (numbers : Desk → List ℕ) (workers : ℕ) (gathered : Gathered Desk) : Type 0 where
  pub joined : IsFeeder (view gathered.pass) workers 0 workers
  pub named : AreNamed (view gathered.pass).taken (all_named numbers gathered.desks.items)
  pub desks : length gathered.desks.items ≡ workers

-- a caller that takes `Brand` says which queue it means; this applies where none does
abbrev pub no_queue : TableId
no_queue = record { words = 0; slots = 0; views_name = 0; atom = 0; block = 0; offset = 0; slot_names = [] }

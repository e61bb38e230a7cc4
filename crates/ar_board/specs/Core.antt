-- The core of a board: what it does to plain lists, one step after another. A number is put into the queue, a worker
-- takes it, and posts it to its run's history. In an ordered core a posted number is parked, and moves to its run's
-- history once all lower numbers of the run are there.
use Rattle.std.specs.Prelude.{◌≡◌, ◌<◌, ◌+◌, ◌++◌, ◌==◌, ◌&&◌, ℕ, suc, nat_lt, Bool, true, false, if◌then◌else◌, List, [], ◌∷◌, filter, length, map, replicate, set, get_or, Option, Some, None, is_none, IfSome, slice_get}
use Rattle.std.specs.List.{AllByRecursion, sum_by}
use Rattle.ar_limits.specs.Replay.{Replays, Standing}
use Rattle.ar_bundle.specs.Bundle.{Bundle, events_of, run_at}
use Rattle.ar_bundle.specs.Lawful.{AreHistories, numbers_of, times, times_in}
use Rattle.ar_board.specs.Posting.{posted}
use Rattle.ar_board.specs.declared.core_steps.CoreStep.{CoreStep}
use Rattle.ar_board.specs.declared.core_steps.CoreStep.TheVariants.{Put, Take, Post}
use Rattle.ar_bundle.specs.declared.bundle.EventPart.{EventPart}
use Rattle.ar_bundle.specs.declared.history.Entry.{Entry}
use Rattle.ar_bundle.specs.Event.{EventNumber}

-- the next number to put, the queue, a hand for each worker, whether each number is parked, and a history for each run
pub record StepState : Type 0 where
  pub next : ℕ
  pub queue : List ℕ
  pub hands : List (Option ℕ)
  pub parked : List Bool
  pub histories : List (List Entry)

-- nothing was done yet
abbrev pub opening : Bundle → (workers : ℕ) → StepState
opening bundle workers =
    record {
      next = 0;
      queue = [];
      hands = replicate workers None;
      parked = replicate (length bundle.entries) false;
      histories = map (λ run. []) bundle.runs;
    }

-- ---- Put: the next number moves to the queue's end, if there is a free slot

abbrev pub can_put : Bundle → (places : ℕ) → StepState → Bool
can_put bundle places state = nat_lt state.next (length bundle.entries) && nat_lt (length state.queue) places

abbrev pub put : StepState → StepState
put state = record state { next = suc state.next; queue = state.queue ++ state.next ∷ [] }

-- ---- Take: the queue's first number moves into a worker's empty hand

-- what a worker holds; one that isn't there holds nothing
abbrev pub held : StepState → (worker : ℕ) → Option ℕ
held state worker = get_or state.hands worker None

abbrev pub has_empty_hand : StepState → (worker : ℕ) → Bool
has_empty_hand state worker = nat_lt worker (length state.hands) && is_none (held state worker)

abbrev pub taken : StepState → (worker : ℕ) → (queue : List EventNumber) → StepState
taken state worker [] = state
taken state worker (number ∷ queue) = record state { queue = queue; hands = set state.hands worker (Some number) }

-- ---- Post: the number in a worker's hand moves to the end of its run's history

abbrev pub emptied : StepState → (worker : ℕ) → Option (List (List Entry)) → StepState
emptied state worker None = state
emptied state worker (Some histories) = record state { hands = set state.hands worker None; histories = histories }

abbrev pub post_of : Bundle → StepState → (worker : ℕ) → Option ℕ → StepState
post_of bundle state worker None = state
post_of bundle state worker (Some number) = emptied state worker (posted bundle state.histories number)

-- ---- Post of an ordered core: the number is parked, and parked numbers move to their run's history in order

abbrev pub is_parked : StepState → (number : EventNumber) → Bool
is_parked state number = get_or state.parked number false

-- the number in a worker's hand is parked
abbrev pub parked_by : StepState → (worker number : ℕ) → StepState
parked_by state worker number =
    record state { hands = set state.hands worker None; parked = set state.parked number true }

-- a parked number moves to the end of its run's history
abbrev pub parked_moved : StepState → (number : EventNumber) → Option (List (List Entry)) → StepState
parked_moved state number None = state
parked_moved state number (Some histories) =
    record state { parked = set state.parked number false; histories = histories }

-- the numbers of a run among these entries, of which the first has the number `from`; they rise
abbrev pub own_from : (run from : ℕ) → List EventPart → List ℕ
own_from run from [] = []
own_from run from (entry ∷ entries) =
    if entry.run == run then from ∷ own_from run (suc from) entries else own_from run (suc from) entries

abbrev pub own_numbers : Bundle → (run : ℕ) → List ℕ
own_numbers bundle run = own_from run 0 bundle.entries

abbrev pub history_lacks : List Entry → (number : EventNumber) → Bool
history_lacks history number = times_in number (numbers_of history) == 0

-- those of a run's numbers that its history lacks, in rising order
abbrev pub lacking : Bundle → StepState → (run : ℕ) → List ℕ
lacking bundle state run = filter (history_lacks (get_or state.histories run [])) (own_numbers bundle run)

-- as long as the least of the numbers that a run's history lacks is parked, it moves to the history's end, and the
-- history lacks the others
abbrev pub settled_numbers : Bundle → StepState → (lacking : List ℕ) → StepState
settled_numbers bundle state [] = state
settled_numbers bundle state (number ∷ others) =
    if is_parked state number
    then settled_numbers bundle (parked_moved state number (posted bundle state.histories number)) others else state

abbrev pub settled_in : Bundle → StepState → Option ℕ → StepState
settled_in bundle state None = state
settled_in bundle state (Some run) = settled_numbers bundle state (lacking bundle state run)

abbrev pub ordered_post_of : Bundle → StepState → (worker : ℕ) → Option ℕ → StepState
ordered_post_of bundle state worker None = state
ordered_post_of bundle state worker (Some number) =
    settled_in bundle (parked_by state worker number) (run_at bundle number)

-- ---- steps

-- a step that can't be made, by a worker that isn't there among others, leaves the state
abbrev pub after_step : Bundle → (places : ℕ) → (ordered : Bool) → StepState → CoreStep → StepState
after_step bundle places ordered state Put = if can_put bundle places state then put state else state
after_step bundle places ordered state (Take worker) =
    if has_empty_hand state worker then taken state worker state.queue else state
after_step bundle places ordered state (Post worker) =
    if ordered then ordered_post_of bundle state worker (held state worker)
    else post_of bundle state worker (held state worker)

-- the state after some steps
abbrev pub after_steps : Bundle → (places : ℕ) → (ordered : Bool) → StepState → List CoreStep → StepState
after_steps bundle places ordered state [] = state
after_steps bundle places ordered state (step ∷ steps) =
    after_steps bundle places ordered (after_step bundle places ordered state step) steps

-- ---- each number once

-- whether a number is still to be put, as a count
abbrev pub times_to_put : (number : EventNumber) → StepState → ℕ
times_to_put number state = if nat_lt number state.next then 0 else 1

abbrev pub times_held : (number : EventNumber) → Option ℕ → ℕ
times_held number None = 0
times_held number (Some own) = if own == number then 1 else 0

abbrev pub times_parked : (number : EventNumber) → StepState → ℕ
times_parked number state = if is_parked state number then 1 else 0

-- how often a number appears in what is still to put, in the queue, in the hands, among the parked numbers and in the
-- histories
abbrev pub occurrences : (number : EventNumber) → StepState → ℕ
occurrences number state =
    times_to_put number state
    + (times_in number state.queue
    + (sum_by (times_held number) state.hands + (times_parked number state + times number state.histories)))

abbrev pub HasEachOnce : Bundle → StepState → Type 0
HasEachOnce bundle state = (number : ℕ) → number < length bundle.entries → occurrences number state ≡ 1

-- no number is missing or there twice, and each run's history has its own numbers alone, each with its finding and the
-- effect that it has there
pub record HasAll (bundle : Bundle) (state : StepState) : Type 0 where
  pub once : HasEachOnce bundle state
  pub histories : AreHistories bundle 0 bundle.runs state.histories

-- nothing is left to put, to take or to post, and nothing is parked
pub record IsAtRest (bundle : Bundle) (state : StepState) : Type 0 where
  pub put : state.next ≡ length bundle.entries
  pub queue : state.queue ≡ []
  pub hands : AllByRecursion (λ hand. hand ≡ None) state.hands
  pub parked : AllByRecursion (λ mark. mark ≡ false) state.parked

-- ---- a core in memory

-- the bundle, how many slots its queue has, whether its histories are ordered, and the state
pub record Core : Type 0 where
  pub bundle : Bundle
  pub places : ℕ
  pub ordered : Bool
  pub state : StepState

-- the core after a step
abbrev pub core_stepped : Core → CoreStep → Core
core_stepped core step = record core { state = after_step core.bundle core.places core.ordered core.state step }

-- the core after some steps of the opening state
abbrev pub core_after : Bundle → (workers places : ℕ) → (ordered : Bool) → List CoreStep → Core
core_after bundle workers places ordered steps =
    record {
      bundle = bundle;
      places = places;
      ordered = ordered;
      state = after_steps bundle places ordered (opening bundle workers) steps;
    }

-- the state of a run after its history
abbrev pub IsStateOf : Core → (run : ℕ) → Standing → Type 0
IsStateOf core run standing =
    IfSome (slice_get core.bundle.runs run)
    (λ part. Replays part.limits (events_of core.bundle (numbers_of (get_or core.state.histories run []))) standing)

-- What every step of a core that isn't ordered keeps.
use Rattle.std.proofs.Common.{◌≡◌, ◌<◌, ℕ, zero, suc, ◌+◌, ◌==◌, Bool, true, false, if◌then◌else◌, List, [], ◌∷◌, ◌++◌, length, get_or, set, Option, Some, None, refl, sym, ◌∙◌, ap, subst, arith}
use Rattle.std.specs.Prelude.{IfSome, nat_lt, is_none, slice_get, option_and_then, option_map}
use Rattle.std.specs.List.{sum_by}
use Rattle.std.proofs.lemmas.Bool.Decides.{nat_tests}
use Rattle.std.proofs.lemmas.Bool.{and_parts}
use Rattle.std.proofs.lemmas.List.Sums.{get_or-le-sum_by, sum_by-set}
use Rattle.ar_limits.specs.Run.{effect_of}
use Rattle.ar_limits.specs.declared.event.Event.{Event}
use Rattle.ar_bundle.specs.Sound.{IsBundle, FitsBundle}
use Rattle.ar_bundle.specs.Bundle.{Bundle, events_of, finding_at, happened, run_at}
use Rattle.ar_board.specs.Posting.{added, entry_after, posted, with_number}
use Rattle.ar_board.specs.Core.{StepState, can_put, emptied, has_empty_hand, held, is_parked, occurrences, post_of, put, taken, times_held, times_parked, times_to_put}
use Rattle.ar_bundle.specs.Lawful.{AreHistories, IsHistory, numbers_of, times, times_in}
use Rattle.ar_board.specs.Private.Kept.{IsSound}
use Rattle.ar_bundle.specs.declared.bundle.EventPart.{EventPart}
use Rattle.ar_bundle.specs.declared.bundle.RunPart.{RunPart}
use Rattle.ar_bundle.specs.declared.finding.Finding.{Finding}
use Rattle.ar_bundle.specs.declared.history.Entry.{Entry}
use Rattle.ar_bundle.proofs.Bundles.{of_each}
use Rattle.ar_bundle.proofs.HistoryLemmas.{as_many, history_at, history_push, history_set, times_added, times_push}

-- ---- Put

-- the next number, no more to be put, is in the queue
moves_by_test : (number next : ℕ) (below here : Bool) → nat_lt number next ≡ below → (next == number) ≡ here → (if nat_lt number (suc next) then 0 else 1) + times_in number (next ∷ []) ≡ (if nat_lt number next then 0 else 1)
moves_by_test number next true true lower same = absurd (grind (arith, nat_tests))
moves_by_test number next true false lower same = let still : nat_lt number (suc next) ≡ true = grind (arith, nat_tests) in rw (still, lower, same) refl
moves_by_test number next false true lower same = let now : nat_lt number (suc next) ≡ true = grind (arith, nat_tests) in rw (now, lower, same) refl
moves_by_test number next false false lower same = let not_yet : nat_lt number (suc next) ≡ false = grind (arith, nat_tests) in rw (not_yet, lower, same) refl

put_once : (number : ℕ) (state : StepState) → occurrences number state ≡ 1 → occurrences number (put state) ≡ 1
put_once number state once =
    let moves = moves_by_test number state.next (nat_lt number state.next) (state.next == number) refl refl in
    let pushed = times_push number state.next state.queue in
    omega arith

-- the next number moves to the queue, however this is said
pub puts_sound : (bundle : Bundle) (state : StepState) (next : ℕ) (queue : List ℕ) → IsSound bundle state → state.next < length bundle.entries → next ≡ state.next + 1 → queue ≡ state.queue ++ state.next ∷ []
    → IsSound bundle (record { next = next; queue = queue; hands = state.hands; parked = state.parked; histories = state.histories })
puts_sound bundle state next queue sound inside up is =
    let later : next ≡ suc state.next = omega arith in
    record {
      next = omega arith;
      once = λ number.
          subst (λ (next : ℕ). occurrences number (record { next = next; queue = queue; hands = state.hands; parked = state.parked; histories = state.histories }) ≡ 1) (sym later)
          (subst (λ (queue : List ℕ). occurrences number (record { next = suc state.next; queue = queue; hands = state.hands; parked = state.parked; histories = state.histories }) ≡ 1) (sym is) (put_once number state (sound.once number)));
      parked = sound.parked;
      histories = sound.histories;
    }

pub put_sound : (bundle : Bundle) (places : ℕ) (state : StepState) (can : Bool) → can_put bundle places state ≡ can → IsSound bundle state → IsSound bundle (if can then put state else state)
put_sound bundle places state false is sound = sound
put_sound bundle places state true is sound =
    let inside : nat_lt state.next (length bundle.entries) ≡ true = (and_parts (nat_lt state.next (length bundle.entries)) (nat_lt (length state.queue) places) is).0 in
    puts_sound bundle state (suc state.next) (state.queue ++ state.next ∷ []) sound (grind (arith, nat_tests, inside)) (omega arith) refl

-- ---- hands

-- an empty hand that gets a number
fills : (number worker : ℕ) (hands : List (Option ℕ)) (own : ℕ) → worker < length hands → get_or hands worker None ≡ None → sum_by (times_held number) (set hands worker (Some own)) ≡ sum_by (times_held number) hands + times_held number (Some own)
fills number worker hands own inside empty =
    let changed = sum_by-set (times_held number) hands worker (Some own) None inside in
    let nothing : times_held number (get_or hands worker None) ≡ 0 = ap (times_held number) empty in
    omega arith

-- a hand that gives its number away
pub empties : (number worker : ℕ) (hands : List (Option ℕ)) (own : ℕ) → worker < length hands → get_or hands worker None ≡ Some own → sum_by (times_held number) (set hands worker None) + times_held number (Some own) ≡ sum_by (times_held number) hands
empties number worker hands own inside full =
    let changed = sum_by-set (times_held number) hands worker None None inside in
    let all : times_held number (get_or hands worker None) ≡ times_held number (Some own) = ap (times_held number) full in
    omega arith

held_is_one : (number own : ℕ) → times_held number (Some own) ≡ times_in number (own ∷ [])
held_is_one number own = by_test (own == number) refl where
  by_test : (test : Bool) → (own == number) ≡ test → times_held number (Some own) ≡ times_in number (own ∷ [])
  by_test true is = rw is refl
  by_test false is = rw is refl

first_counts : (number own : ℕ) (numbers : List ℕ) → times_in number (own ∷ numbers) ≡ times_held number (Some own) + times_in number numbers
first_counts number own numbers = by_test (own == number) refl where
  by_test : (test : Bool) → (own == number) ≡ test → times_in number (own ∷ numbers) ≡ times_held number (Some own) + times_in number numbers
  by_test true is =
      let all : times_in number (own ∷ numbers) ≡ suc (times_in number numbers) = rw is refl in
      let first : times_held number (Some own) ≡ 1 = rw is refl in
      omega arith
  by_test false is =
      let all : times_in number (own ∷ numbers) ≡ times_in number numbers = rw is refl in
      let first : times_held number (Some own) ≡ 0 = rw is refl in
      omega arith

-- ---- Take

took_once : (number : ℕ) (state : StepState) (worker own : ℕ) (queue : List ℕ) → state.queue ≡ own ∷ queue → worker < length state.hands → get_or state.hands worker None ≡ None → occurrences number state ≡ 1 → occurrences number (taken state worker (own ∷ queue)) ≡ 1
took_once number state worker own queue is inside empty once =
    let counted = ap (times_in number) is ∙ first_counts number own queue in
    let filled = fills number worker state.hands own inside empty in
    omega arith

none_is : {A : Type 0} (found : Option A) → is_none found ≡ true → found ≡ None
none_is None is = refl
none_is (Some x) is = absurd cc

taken_sound : (bundle : Bundle) (state : StepState) (worker : ℕ) (queue : List ℕ) → state.queue ≡ queue → worker < length state.hands → get_or state.hands worker None ≡ None → IsSound bundle state → IsSound bundle (taken state worker queue)
taken_sound bundle state worker [] is inside empty sound = sound
taken_sound bundle state worker (own ∷ queue) is inside empty sound =
    record { next = sound.next; once = λ number. took_once number state worker own queue is inside empty (sound.once number); parked = sound.parked; histories = sound.histories }

pub take_sound : (bundle : Bundle) (state : StepState) (worker : ℕ) (can : Bool) → has_empty_hand state worker ≡ can → IsSound bundle state → IsSound bundle (if can then taken state worker state.queue else state)
take_sound bundle state worker false is sound = sound
take_sound bundle state worker true is sound =
    let both = and_parts (nat_lt worker (length state.hands)) (is_none (held state worker)) is in
    let below : nat_lt worker (length state.hands) ≡ true = both.0 in
    taken_sound bundle state worker state.queue refl (grind (arith, nat_tests, below)) (none_is (get_or state.hands worker None) both.1) sound

-- a worker that holds something is there
pub holder_inside : (worker own : ℕ) (hands : List (Option ℕ)) → get_or hands worker None ≡ Some own → worker < length hands
holder_inside worker own [] full = absurd cc
holder_inside zero own (hand ∷ hands) full = omega arith
holder_inside (suc worker) own (hand ∷ hands) full = let rest = holder_inside worker own hands full in omega arith

-- ---- a number in a hand

put_by_test : (number : ℕ) (state : StepState) (test : Bool) → nat_lt number state.next ≡ test → times_to_put number state ≡ 0 → number < state.next
put_by_test number state true is put = grind (arith, nat_tests, is)
put_by_test number state false is put = absurd (let one : times_to_put number state ≡ 1 = rw is refl in omega arith)

free_by_test : (number : ℕ) (state : StepState) (test : Bool) → is_parked state number ≡ test → times_parked number state ≡ 0 → is_parked state number ≡ false
free_by_test number state true is none = absurd (let one : times_parked number state ≡ 1 = rw is refl in omega arith)
free_by_test number state false is none = is

-- it is one of the bundle's, isn't parked, and is in no history
pub record IsHeld (bundle : Bundle) (state : StepState) (number : ℕ) : Type 0 where
  pub inside : number < length bundle.entries
  pub free : is_parked state number ≡ false
  pub nowhere : times number state.histories ≡ 0

pub held_number : (bundle : Bundle) (state : StepState) (worker number : ℕ) → IsSound bundle state → get_or state.hands worker None ≡ Some number → IsHeld bundle state number
held_number bundle state worker number sound full =
    let once = sound.once number in
    let most = get_or-le-sum_by (times_held number) state.hands worker None (holder_inside worker number state.hands full) in
    let same : (number == number) ≡ true = grind (arith, nat_tests) in
    let one : times_held number (Some number) ≡ 1 = rw same refl in
    let own : times_held number (get_or state.hands worker None) ≡ 1 = ap (times_held number) full ∙ one in
    let put : number < state.next = put_by_test number state (nat_lt number state.next) refl (omega arith) in
    let next = sound.next in
    record { inside = omega arith; free = free_by_test number state (is_parked state number) refl (omega arith); nowhere = omega arith }

-- ---- Post

-- a run that has a number is one of the bundle's
pub run_inside : (bundle : Bundle) (number run : ℕ) (entry : Option EventPart) → slice_get bundle.entries number ≡ entry → IsBundle bundle → run_at bundle number ≡ Some run → run < length bundle.runs
run_inside bundle number run None there is own = let none : run_at bundle number ≡ None = rw there refl in absurd cc
run_inside bundle number run (Some entry) there is own =
    let entered = of_each (FitsBundle bundle.metrics (length bundle.runs)) bundle.entries number entry is.entries there in
    let of_entry : run_at bundle number ≡ Some entry.run = rw there refl in
    let same : entry.run ≡ run = cc in
    subst (λ (at : ℕ). at < length bundle.runs) same entered.run

-- what an entry after a history is
record Comes (bundle : Bundle) (run : ℕ) (history : List Entry) (number : ℕ) (entry : Entry) : Type 0 where
  part : RunPart
  finding : Finding
  event : Event
  there : slice_get bundle.runs run ≡ Some part
  finds : finding_at bundle number ≡ Some finding
  happens : happened bundle number ≡ Some event
  is : entry ≡ record { number = number; finding = finding; effect = effect_of part.limits (events_of bundle (numbers_of history)) event }

comes : (bundle : Bundle) (run : ℕ) (history : List Entry) (number : ℕ) (entry : Entry) (finding : Option Finding) (event : Option Event) (part : Option RunPart) → finding_at bundle number ≡ finding → happened bundle number ≡ event → slice_get bundle.runs run ≡ part
    → entry_after bundle run history number ≡ Some entry → Comes bundle run history number entry
comes bundle run history number entry None event part finds happens there is = absurd (let none : entry_after bundle run history number ≡ None = rw finds refl in cc)
comes bundle run history number entry (Some finding) None part finds happens there is = absurd (let none : entry_after bundle run history number ≡ None = rw (finds, happens) refl in cc)
comes bundle run history number entry (Some finding) (Some event) None finds happens there is = absurd (let none : entry_after bundle run history number ≡ None = rw (finds, happens, there) refl in cc)
comes bundle run history number entry (Some finding) (Some event) (Some part) finds happens there is =
    let made : Entry = record { number = number; finding = finding; effect = effect_of part.limits (events_of bundle (numbers_of history)) event } in
    let some_made : entry_after bundle run history number ≡ Some made = rw (finds, happens, there) refl in
    let same : Some entry ≡ Some made = sym is ∙ some_made in
    record { part = part; finding = finding; event = event; there = there; finds = finds; happens = happens; is = cc }

-- histories in which a number is once more, at the end of its run's
pub record Adds (bundle : Bundle) (histories : List (List Entry)) (own : ℕ) (later : List (List Entry)) : Type 0 where
  pub are : AreHistories bundle 0 bundle.runs later
  pub times : (number : ℕ) → times number later ≡ times number histories + times_held number (Some own)

adds_entry : (bundle : Bundle) (histories : List (List Entry)) (own run : ℕ) (entry : Option Entry) → IsBundle bundle → AreHistories bundle 0 bundle.runs histories → run_at bundle own ≡ Some run → entry_after bundle run (get_or histories run []) own ≡ entry
    → IfSome (option_map (added histories run) entry) (Adds bundle histories own)
adds_entry bundle histories own run None is are own_run after = tt
adds_entry bundle histories own run (Some entry) is are own_run after =
    let history : List Entry = get_or histories run [] in
    let come = comes bundle run history own entry (finding_at bundle own) (happened bundle own) (slice_get bundle.runs run) refl refl refl after in
    let here : 0 + run ≡ run = omega arith in
    let before : IsHistory bundle run come.part.limits history = subst (λ (at : ℕ). IsHistory bundle at come.part.limits history) here (history_at bundle 0 run bundle.runs histories come.part are come.there) in
    let pushed = history_push bundle run come.part.limits history own come.finding come.event own_run come.finds come.happens before in
    let later : IsHistory bundle run come.part.limits (history ++ entry ∷ []) = subst (λ (entry : Entry). IsHistory bundle run come.part.limits (history ++ entry ∷ [])) (sym come.is) pushed in
    let named : entry.number ≡ own = ap (λ (entry : Entry). entry.number) come.is in
    let many = as_many bundle 0 bundle.runs histories are in
    let below = run_inside bundle own run (slice_get bundle.entries own) refl is own_run in
    record {
      are = history_set bundle 0 run bundle.runs histories come.part (history ++ entry ∷ []) are come.there (subst (λ (at : ℕ). IsHistory bundle at come.part.limits (history ++ entry ∷ [])) (sym here) later);
      times = λ number. times_added number run histories entry (omega arith) ∙ ap (λ (more : ℕ). times number histories + more) (ap (λ (own : ℕ). times_in number (own ∷ [])) named ∙ sym (held_is_one number own));
    }

adds_of_run : (bundle : Bundle) (histories : List (List Entry)) (own : ℕ) (run : Option ℕ) → IsBundle bundle → AreHistories bundle 0 bundle.runs histories → run_at bundle own ≡ run → IfSome (option_and_then (with_number bundle histories own) run) (Adds bundle histories own)
adds_of_run bundle histories own None is are own_run = tt
adds_of_run bundle histories own (Some run) is are own_run = adds_entry bundle histories own run (entry_after bundle run (get_or histories run []) own) is are own_run refl

pub adds : (bundle : Bundle) (histories : List (List Entry)) (own : ℕ) → IsBundle bundle → AreHistories bundle 0 bundle.runs histories → IfSome (posted bundle histories own) (Adds bundle histories own)
adds bundle histories own is are = adds_of_run bundle histories own (run_at bundle own) is are refl

emptied_sound : (bundle : Bundle) (state : StepState) (worker own : ℕ) (later : Option (List (List Entry))) → worker < length state.hands → held state worker ≡ Some own → IfSome later (Adds bundle state.histories own) → IsSound bundle state → IsSound bundle (emptied state worker later)
emptied_sound bundle state worker own None inside full added sound = sound
emptied_sound bundle state worker own (Some later) inside full added sound =
    record {
      next = sound.next;
      once = λ number.
          let all = sound.once number in
          let emptied_by = empties number worker state.hands own inside full in
          let more = added.times number in
          omega arith;
      parked = sound.parked;
      histories = added.are;
    }

pub post_sound : (bundle : Bundle) (state : StepState) (worker : ℕ) (hand : Option ℕ) → IsBundle bundle → held state worker ≡ hand → IsSound bundle state → IsSound bundle (post_of bundle state worker hand)
post_sound bundle state worker None is holds sound = sound
post_sound bundle state worker (Some own) is holds sound = emptied_sound bundle state worker own (posted bundle state.histories own) (holder_inside worker own state.hands holds) holds (adds bundle state.histories own is sound.histories) sound

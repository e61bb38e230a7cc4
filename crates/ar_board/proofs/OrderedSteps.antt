-- What every step of an ordered core keeps.
use Rattle.std.proofs.Common.{◌≡◌, ◌<◌, ◌≢◌, ℕ, zero, suc, ◌+◌, ◌==◌, Bool, true, false, if◌then◌else◌, List, [], ◌∷◌, ◌++◌, length, get_or, set, drop, Option, Some, None, refl, sym, ◌∙◌, ap, subst, arith}
use Rattle.std.specs.Prelude.{IfSome, slice_get}
use Rattle.std.proofs.lemmas.Bool.Decides.{nat_tests}
use Rattle.std.proofs.lemmas.List.{get_or-set_other, get_or-set_same, length-set, length_push}
use Rattle.ar_bundle.specs.Sound.{IsBundle}
use Rattle.ar_bundle.specs.Bundle.{Bundle, run_at}
use Rattle.ar_bundle.specs.Lawful.{AllRise, AreHistories}
use Rattle.ar_board.specs.Posting.{added, posted}
use Rattle.ar_board.specs.Core.{StepState, after_step, can_put, has_empty_hand, held, is_parked, lacking, parked_moved, ordered_post_of, own_numbers, parked_by, put, settled_numbers, settled_in, taken, times_held}
use Rattle.ar_board.specs.Private.Kept.{AreInOrder, HasFirst, IsSound}
use Rattle.ar_bundle.specs.declared.history.Entry.{Entry}
use Rattle.ar_board.specs.declared.core_steps.CoreStep.{CoreStep}
use Rattle.ar_board.specs.declared.core_steps.CoreStep.TheVariants.{Put, Take, Post}
use Rattle.ar_bundle.proofs.HistoryLemmas.{as_many}
use Rattle.ar_board.proofs.CoreSteps.{Adds, adds, empties, held_number, holder_inside, run_inside}
use Rattle.ar_board.proofs.Postable.{posted_some}
use Rattle.ar_board.proofs.OwnNumbers.{first_rise, front_of, lacking_is, longer_in_order, own_is_of}

-- ---- marks of parked numbers

abbrev counted : Bool → ℕ
counted mark = if mark then 1 else 0

held_by_test : (number own : ℕ) (test : Bool) → (own == number) ≡ test → times_held number (Some own) ≡ (if test then 1 else 0)
held_by_test number own test is = rw is refl

-- a number that is marked
marked : (number own : ℕ) (marks : List Bool) → own < length marks → get_or marks own false ≡ false → counted (get_or (set marks own true) number false) ≡ counted (get_or marks number false) + times_held number (Some own)
marked number own marks inside free = by_test (own == number) refl where
  by_test : (test : Bool) → (own == number) ≡ test → counted (get_or (set marks own true) number false) ≡ counted (get_or marks number false) + times_held number (Some own)
  by_test true is =
      let same : own ≡ number = grind (arith, nat_tests) in
      let one = held_by_test number own true is in
      let now : counted (get_or (set marks own true) own false) ≡ 1 = ap counted (get_or-set_same marks own true false inside) in
      let before : counted (get_or marks own false) ≡ 0 = ap counted free in
      subst (λ (at : ℕ). counted (get_or (set marks own true) at false) ≡ counted (get_or marks at false) + times_held number (Some own)) same (omega arith)
  by_test false is =
      let unlike : number ≢ own = grind (arith, nat_tests) in
      let none = held_by_test number own false is in
      let stays : counted (get_or (set marks own true) number false) ≡ counted (get_or marks number false) = ap counted (get_or-set_other marks own number true false unlike) in
      omega arith

pub cleared : (own : ℕ) (marks : List Bool) → get_or (set marks own false) own false ≡ false
cleared own [] = refl
cleared zero (mark ∷ marks) = refl
cleared (suc own) (mark ∷ marks) = cleared own marks

-- a number whose mark is taken away
unmarked : (number own : ℕ) (marks : List Bool) → get_or marks own false ≡ true → counted (get_or (set marks own false) number false) + times_held number (Some own) ≡ counted (get_or marks number false)
unmarked number own marks there = by_test (own == number) refl where
  by_test : (test : Bool) → (own == number) ≡ test → counted (get_or (set marks own false) number false) + times_held number (Some own) ≡ counted (get_or marks number false)
  by_test true is =
      let same : own ≡ number = grind (arith, nat_tests) in
      let one = held_by_test number own true is in
      let now : counted (get_or (set marks own false) own false) ≡ 0 = ap counted (cleared own marks) in
      let before : counted (get_or marks own false) ≡ 1 = ap counted there in
      subst (λ (at : ℕ). counted (get_or (set marks own false) at false) + times_held number (Some own) ≡ counted (get_or marks at false)) same (omega arith)
  by_test false is =
      let unlike : number ≢ own = grind (arith, nat_tests) in
      let none = held_by_test number own false is in
      let stays : counted (get_or (set marks own false) number false) ≡ counted (get_or marks number false) = ap counted (get_or-set_other marks own number false false unlike) in
      omega arith

-- ---- each number once

pub parked_by_sound : (bundle : Bundle) (state : StepState) (worker own : ℕ) → held state worker ≡ Some own → IsSound bundle state → IsSound bundle (parked_by state worker own)
parked_by_sound bundle state worker own full sound =
    let holds = held_number bundle state worker own sound full in
    let inside : own < length state.parked = (let below = holds.inside in let as_long = sound.parked in omega arith) in
    record {
      next = sound.next;
      once = λ number.
          let all = sound.once number in
          let emptied_by = empties number worker state.hands own (holder_inside worker own state.hands full) full in
          let more = marked number own state.parked inside holds.free in
          omega arith;
      parked = length-set state.parked own true ∙ sound.parked;
      histories = sound.histories;
    }

pub moved_sound : (bundle : Bundle) (state : StepState) (own : ℕ) (later : Option (List (List Entry))) → is_parked state own ≡ true → IfSome later (Adds bundle state.histories own) → IsSound bundle state → IsSound bundle (parked_moved state own later)
moved_sound bundle state own None there more sound = sound
moved_sound bundle state own (Some later) there more sound =
    record {
      next = sound.next;
      once = λ number.
          let all = sound.once number in
          let less = unmarked number own state.parked there in
          let added_to = more.times number in
          omega arith;
      parked = length-set state.parked own false ∙ sound.parked;
      histories = more.are;
    }

sound_by_test : (bundle : Bundle) (state : StepState) (number : ℕ) (others : List ℕ) (test : Bool) → is_parked state number ≡ test → IsBundle bundle → IsSound bundle state → ((later : StepState) → IsSound bundle later → IsSound bundle (settled_numbers bundle later others))
    → IsSound bundle (if test then settled_numbers bundle (parked_moved state number (posted bundle state.histories number)) others else state)
sound_by_test bundle state number others true there is sound rest = rest (parked_moved state number (posted bundle state.histories number)) (moved_sound bundle state number (posted bundle state.histories number) there (adds bundle state.histories number is sound.histories) sound)
sound_by_test bundle state number others false there is sound rest = sound

settled_sound : (bundle : Bundle) (numbers : List ℕ) (state : StepState) → IsBundle bundle → IsSound bundle state → IsSound bundle (settled_numbers bundle state numbers)
settled_sound bundle [] state is sound = sound
settled_sound bundle (number ∷ others) state is sound = sound_by_test bundle state number others (is_parked state number) refl is sound (λ later. settled_sound bundle others later is)

settled_in_sound : (bundle : Bundle) (state : StepState) (run : Option ℕ) → IsBundle bundle → IsSound bundle state → IsSound bundle (settled_in bundle state run)
settled_in_sound bundle state None is sound = sound
settled_in_sound bundle state (Some run) is sound = settled_sound bundle (lacking bundle state run) state is sound

pub ordered_post_sound : (bundle : Bundle) (state : StepState) (worker : ℕ) (hand : Option ℕ) → IsBundle bundle → held state worker ≡ hand → IsSound bundle state → IsSound bundle (ordered_post_of bundle state worker hand)
ordered_post_sound bundle state worker None is holds sound = sound
ordered_post_sound bundle state worker (Some own) is holds sound = settled_in_sound bundle (parked_by state worker own) (run_at bundle own) is (parked_by_sound bundle state worker own holds sound)

-- ---- histories in order

-- what is after a move, where it was made
order_by_test : (bundle : Bundle) (run number : ℕ) (others : List ℕ) (state : StepState) (test : Bool) → IsBundle bundle → run < length bundle.runs → AreHistories bundle 0 bundle.runs state.histories → AreInOrder bundle state.histories → number ∷ others ≡ drop (length (get_or state.histories run [])) (own_numbers bundle run)
    → ((later : StepState) → AreHistories bundle 0 bundle.runs later.histories → AreInOrder bundle later.histories → others ≡ drop (length (get_or later.histories run [])) (own_numbers bundle run) → AreInOrder bundle (settled_numbers bundle later others).histories)
    → AreInOrder bundle (if test then settled_numbers bundle (parked_moved state number (posted bundle state.histories number)) others else state).histories
order_by_test bundle run number others state false is below are in_order lacks rest = in_order
order_by_test bundle run number others state true is below are in_order lacks rest =
    let history : List Entry = get_or state.histories run [] in
    let front = front_of (length history) number others (own_numbers bundle run) lacks in
    let posts = posted_some bundle state.histories number run is (own_is_of bundle run number (length history) front.0) in
    let later : List (List Entry) = added state.histories run posts.0 in
    let many = as_many bundle 0 bundle.runs state.histories are in
    let inside : run < length state.histories = omega arith in
    let there : slice_get (own_numbers bundle run) (length history) ≡ Some posts.0.number = front.0 ∙ ap Some (sym posts.2) in
    let adds_to : Adds bundle state.histories number later = subst (λ (posted : Option (List (List Entry))). IfSome posted (Adds bundle state.histories number)) posts.1 (adds bundle state.histories number is are) in
    let longer : length (get_or later run []) ≡ suc (length history) = ap (λ (history : List Entry). length history) (get_or-set_same state.histories run (history ++ posts.0 ∷ []) [] inside) ∙ (let pushed = length_push history posts.0 in omega arith) in
    let left : others ≡ drop (length (get_or later run [])) (own_numbers bundle run) = front.1 ∙ ap (λ (k : ℕ). drop k (own_numbers bundle run)) (sym longer) in
    subst (λ (posted : Option (List (List Entry))). AreInOrder bundle (settled_numbers bundle (parked_moved state number posted) others).histories) (sym posts.1)
    (rest (parked_moved state number (Some later)) adds_to.are (longer_in_order bundle run state.histories posts.0 inside in_order there) left)

settled_in_order : (bundle : Bundle) (run : ℕ) (numbers : List ℕ) (state : StepState) → IsBundle bundle → run < length bundle.runs → AreHistories bundle 0 bundle.runs state.histories → AreInOrder bundle state.histories → numbers ≡ drop (length (get_or state.histories run [])) (own_numbers bundle run)
    → AreInOrder bundle (settled_numbers bundle state numbers).histories
settled_in_order bundle run [] state is below are in_order lacks = in_order
settled_in_order bundle run (number ∷ others) state is below are in_order lacks =
    order_by_test bundle run number others state (is_parked state number) is below are in_order lacks (λ later are in_order lacks. settled_in_order bundle run others later is below are in_order lacks)

run_in_order : (bundle : Bundle) (number : ℕ) (state : StepState) (run : Option ℕ) → IsBundle bundle → run_at bundle number ≡ run → AreHistories bundle 0 bundle.runs state.histories → AreInOrder bundle state.histories → AreInOrder bundle (settled_in bundle state run).histories
run_in_order bundle number state None is own are in_order = in_order
run_in_order bundle number state (Some run) is own are in_order =
    settled_in_order bundle run (lacking bundle state run) state is (run_inside bundle number run (slice_get bundle.entries number) refl is own) are in_order (lacking_is bundle state run (in_order run))

hand_in_order : (bundle : Bundle) (state : StepState) (worker : ℕ) (hand : Option ℕ) → IsBundle bundle → AreHistories bundle 0 bundle.runs state.histories → AreInOrder bundle state.histories → AreInOrder bundle (ordered_post_of bundle state worker hand).histories
hand_in_order bundle state worker None is are in_order = in_order
hand_in_order bundle state worker (Some own) is are in_order = run_in_order bundle own (parked_by state worker own) (run_at bundle own) is refl are in_order

put_in_order : (bundle : Bundle) (state : StepState) (can : Bool) → AreInOrder bundle state.histories → AreInOrder bundle (if can then put state else state).histories
put_in_order bundle state true in_order = in_order
put_in_order bundle state false in_order = in_order

taken_in_order : (bundle : Bundle) (state : StepState) (worker : ℕ) (queue : List ℕ) → AreInOrder bundle state.histories → AreInOrder bundle (taken state worker queue).histories
taken_in_order bundle state worker [] in_order = in_order
taken_in_order bundle state worker (own ∷ queue) in_order = in_order

take_in_order : (bundle : Bundle) (state : StepState) (worker : ℕ) (can : Bool) → AreInOrder bundle state.histories → AreInOrder bundle (if can then taken state worker state.queue else state).histories
take_in_order bundle state worker true in_order = taken_in_order bundle state worker state.queue in_order
take_in_order bundle state worker false in_order = in_order

pub step_in_order : (bundle : Bundle) (places : ℕ) (state : StepState) (step : CoreStep) → IsBundle bundle → IsSound bundle state → AreInOrder bundle state.histories → AreInOrder bundle (after_step bundle places true state step).histories
step_in_order bundle places state Put is sound in_order = put_in_order bundle state (can_put bundle places state) in_order
step_in_order bundle places state (Take worker) is sound in_order = take_in_order bundle state worker (has_empty_hand state worker) in_order
step_in_order bundle places state (Post worker) is sound in_order = hand_in_order bundle state worker (held state worker) is sound.histories in_order

-- ---- they rise

all_rise_from : (bundle : Bundle) (from : ℕ) (histories : List (List Entry)) → ((run : ℕ) → HasFirst bundle (from + run) (get_or histories run [])) → AllRise histories
all_rise_from bundle from [] have = tt
all_rise_from bundle from (history ∷ histories) have = (
  first_rise bundle (from + 0) history (have 0),
  all_rise_from bundle (suc from) histories (λ run. let next : from + suc run ≡ suc from + run = omega arith in subst (λ (at : ℕ). HasFirst bundle at (get_or histories run [])) next (have (suc run))),
)

pub all_rise : (bundle : Bundle) (histories : List (List Entry)) → AreInOrder bundle histories → AllRise histories
all_rise bundle histories in_order = all_rise_from bundle 0 histories (λ run. let same : run ≡ 0 + run = omega arith in subst (λ (at : ℕ). HasFirst bundle at (get_or histories run [])) same (in_order run))

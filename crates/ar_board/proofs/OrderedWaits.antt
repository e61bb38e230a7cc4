-- In an ordered core the least number that a run's history lacks isn't parked.
use Rattle.std.proofs.Common.{◌≡◌, ◌≢◌, ◌<◌, ℕ, suc, ◌==◌, Bool, true, false, if◌then◌else◌, List, [], ◌∷◌, ◌++◌, length, drop, get_or, set, Option, Some, None, refl, sym, ◌∙◌, ap, subst, arith}
use Rattle.std.specs.Prelude.{slice_get}
use Rattle.std.proofs.lemmas.Bool.Decides.{nat_tests}
use Rattle.std.proofs.lemmas.List.{get_or-set_other, get_or-set_same, length_push}
use Rattle.ar_bundle.specs.Sound.{IsBundle}
use Rattle.ar_bundle.specs.Bundle.{Bundle, run_at}
use Rattle.ar_board.specs.Posting.{added, posted}
use Rattle.ar_board.specs.Core.{StepState, after_step, can_put, has_empty_hand, held, is_parked, lacking, parked_moved, ordered_post_of, own_numbers, parked_by, put, settled_numbers, settled_in, taken}
use Rattle.ar_board.specs.Private.Kept.{AreInOrder, IsSound}
use Rattle.ar_board.specs.declared.core_steps.CoreStep.{CoreStep}
use Rattle.ar_board.specs.declared.core_steps.CoreStep.TheVariants.{Put, Take, Post}
use Rattle.ar_bundle.specs.declared.history.Entry.{Entry}
use Rattle.ar_bundle.proofs.Bundles.{run_of_number}
use Rattle.ar_bundle.proofs.HistoryLemmas.{as_many}
use Rattle.ar_board.proofs.CoreSteps.{held_number}
use Rattle.ar_board.proofs.OrderedPost.{turned}
use Rattle.ar_board.proofs.OrderedSteps.{cleared, parked_by_sound}
use Rattle.ar_board.proofs.OwnNumbers.{front_of, front_there, lacking_is, own_is_of}
use Rattle.ar_board.proofs.Postable.{posted_some}

abbrev pub WaitsIn : Bundle → StepState → (run : ℕ) → Type 0
WaitsIn bundle state run = (number : ℕ) → slice_get (own_numbers bundle run) (length (get_or state.histories run [])) ≡ Some number → is_parked state number ≡ false

abbrev pub AllWait : Bundle → StepState → Type 0
AllWait bundle state = (run : ℕ) → WaitsIn bundle state run

abbrev OthersWait : Bundle → StepState → (run : ℕ) → Type 0
OthersWait bundle state run = (other : ℕ) → other ≢ run → WaitsIn bundle state other

-- a run of its own, and the others
with_own : (bundle : Bundle) (state : StepState) (run : ℕ) → WaitsIn bundle state run → OthersWait bundle state run → AllWait bundle state
with_own bundle state run own others other = by_test (other == run) refl where
  by_test : (test : Bool) → (other == run) ≡ test → WaitsIn bundle state other
  by_test true is = let same : run ≡ other = grind (arith, nat_tests) in subst (WaitsIn bundle state) same own
  by_test false is = others other (grind (arith, nat_tests))

-- a mark that is taken away, or another
clear_stays : (own number : ℕ) (marks : List Bool) → get_or marks number false ≡ false → get_or (set marks own false) number false ≡ false
clear_stays own number marks free = by_test (number == own) refl where
  by_test : (test : Bool) → (number == own) ≡ test → get_or (set marks own false) number false ≡ false
  by_test true is = let same : own ≡ number = grind (arith, nat_tests) in subst (λ (at : ℕ). get_or (set marks own false) at false ≡ false) same (cleared own marks)
  by_test false is = let away : number ≢ own = grind (arith, nat_tests) in get_or-set_other marks own number false false away ∙ free

-- a number of another run's moves
others_move : (bundle : Bundle) (state : StepState) (run number : ℕ) (entry : Entry) → OthersWait bundle state run → OthersWait bundle (parked_moved state number (Some (added state.histories run entry))) run
others_move bundle state run number entry waits other away found there =
    let same : get_or (added state.histories run entry) other [] ≡ get_or state.histories other [] = get_or-set_other state.histories run other (get_or state.histories run [] ++ entry ∷ []) [] away in
    clear_stays number found state.parked (waits other away found (ap (λ (history : List Entry). slice_get (own_numbers bundle other) (length history)) (sym same) ∙ there))

none_left : (bundle : Bundle) (state : StepState) (run : ℕ) → [] ≡ drop (length (get_or state.histories run [])) (own_numbers bundle run) → WaitsIn bundle state run
none_left bundle state run none number there =
    let front = front_there (length (get_or state.histories run [])) number (own_numbers bundle run) there in
    let both : [] ≡ number ∷ drop (suc (length (get_or state.histories run []))) (own_numbers bundle run) = none ∙ front in
    absurd cc

first_free : (bundle : Bundle) (state : StepState) (run number : ℕ) → slice_get (own_numbers bundle run) (length (get_or state.histories run [])) ≡ Some number → is_parked state number ≡ false → WaitsIn bundle state run
first_free bundle state run number first free other there =
    let both : Some number ≡ Some other = sym first ∙ there in
    let same : number ≡ other = cc in
    subst (λ (number : ℕ). is_parked state number ≡ false) same free

waits_by_test : (bundle : Bundle) (run number : ℕ) (others : List ℕ) (state : StepState) (test : Bool) → is_parked state number ≡ test → IsBundle bundle → run < length bundle.runs → IsSound bundle state → AreInOrder bundle state.histories → number ∷ others ≡ drop (length (get_or state.histories run [])) (own_numbers bundle run)
    → OthersWait bundle state run
    → ((later : StepState) → IsSound bundle later → AreInOrder bundle later.histories → others ≡ drop (length (get_or later.histories run [])) (own_numbers bundle run) → OthersWait bundle later run → AllWait bundle (settled_numbers bundle later others))
    → AllWait bundle (if test then settled_numbers bundle (parked_moved state number (posted bundle state.histories number)) others else state)
waits_by_test bundle run number others state false free is below sound in_order lacks waits rest =
    let front = front_of (length (get_or state.histories run [])) number others (own_numbers bundle run) lacks in
    with_own bundle state run (first_free bundle state run number front.0 free) waits
waits_by_test bundle run number others state true marked is below sound in_order lacks waits rest =
    let history : List Entry = get_or state.histories run [] in
    let front = front_of (length history) number others (own_numbers bundle run) lacks in
    let posts = posted_some bundle state.histories number run is (own_is_of bundle run number (length history) front.0) in
    let later : StepState = parked_moved state number (Some (added state.histories run posts.0)) in
    let turn = turned bundle state run number is sound in_order below front.0 marked (added state.histories run posts.0) posts.1 in
    let many = as_many bundle 0 bundle.runs state.histories sound.histories in
    let longer : length (get_or later.histories run []) ≡ suc (length history) =
    ap (λ (history : List Entry). length history) (get_or-set_same state.histories run (history ++ posts.0 ∷ []) [] (omega arith)) ∙ (let pushed = length_push history posts.0 in omega arith) in
    let left : others ≡ drop (length (get_or later.histories run [])) (own_numbers bundle run) = front.1 ∙ ap (λ (k : ℕ). drop k (own_numbers bundle run)) (sym longer) in
    subst (λ (posted : Option (List (List Entry))). AllWait bundle (settled_numbers bundle (parked_moved state number posted) others)) (sym posts.1)
    (rest later turn.sound turn.in_order left (others_move bundle state run number posts.0 waits))

settled_waits : (bundle : Bundle) (run : ℕ) (numbers : List ℕ) (state : StepState) → IsBundle bundle → run < length bundle.runs → IsSound bundle state → AreInOrder bundle state.histories → numbers ≡ drop (length (get_or state.histories run [])) (own_numbers bundle run) → OthersWait bundle state run
    → AllWait bundle (settled_numbers bundle state numbers)
settled_waits bundle run [] state is below sound in_order lacks waits = with_own bundle state run (none_left bundle state run lacks) waits
settled_waits bundle run (number ∷ others) state is below sound in_order lacks waits =
    waits_by_test bundle run number others state (is_parked state number) refl is below sound in_order lacks waits (λ later sound in_order lacks waits. settled_waits bundle run others later is below sound in_order lacks waits)

-- a number is parked, of one run
others_park : (bundle : Bundle) (state : StepState) (worker own run : ℕ) → run_at bundle own ≡ Some run → AllWait bundle state → OthersWait bundle (parked_by state worker own) run
others_park bundle state worker own run own_run waits other away number there =
    get_or-set_other state.parked own number true false (λ same.
    let both : Some other ≡ Some run = sym (own_is_of bundle other number (length (get_or state.histories other [])) there) ∙ (ap (run_at bundle) same ∙ own_run) in
    away cc) ∙ waits other number there

hand_waits : (bundle : Bundle) (state : StepState) (worker : ℕ) (hand : Option ℕ) → IsBundle bundle → held state worker ≡ hand → IsSound bundle state → AreInOrder bundle state.histories → AllWait bundle state → AllWait bundle (ordered_post_of bundle state worker hand)
hand_waits bundle state worker None is holds sound in_order waits = waits
hand_waits bundle state worker (Some own) is holds sound in_order waits =
    let parked : StepState = parked_by state worker own in
    let of_run = run_of_number bundle own is (held_number bundle state worker own sound holds).inside in
    subst (λ (run : Option ℕ). AllWait bundle (settled_in bundle parked run)) (sym of_run.1)
    (settled_waits bundle of_run.0 (lacking bundle parked of_run.0) parked is of_run.2 (parked_by_sound bundle state worker own holds sound) in_order (lacking_is bundle parked of_run.0 (in_order of_run.0)) (others_park bundle state worker own of_run.0 of_run.1 waits))

put_waits : (bundle : Bundle) (state : StepState) (can : Bool) → AllWait bundle state → AllWait bundle (if can then put state else state)
put_waits bundle state true waits = waits
put_waits bundle state false waits = waits

taken_waits : (bundle : Bundle) (state : StepState) (worker : ℕ) (queue : List ℕ) → AllWait bundle state → AllWait bundle (taken state worker queue)
taken_waits bundle state worker [] waits = waits
taken_waits bundle state worker (own ∷ queue) waits = waits

take_waits : (bundle : Bundle) (state : StepState) (worker : ℕ) (can : Bool) → AllWait bundle state → AllWait bundle (if can then taken state worker state.queue else state)
take_waits bundle state worker true waits = taken_waits bundle state worker state.queue waits
take_waits bundle state worker false waits = waits

pub step_waits : (bundle : Bundle) (places : ℕ) (state : StepState) (step : CoreStep) → IsBundle bundle → IsSound bundle state → AreInOrder bundle state.histories → AllWait bundle state → AllWait bundle (after_step bundle places true state step)
step_waits bundle places state Put is sound in_order waits = put_waits bundle state (can_put bundle places state) waits
step_waits bundle places state (Take worker) is sound in_order waits = take_waits bundle state worker (has_empty_hand state worker) waits
step_waits bundle places state (Post worker) is sound in_order waits = hand_waits bundle state worker (held state worker) is refl sound in_order waits

-- the same of the numbers that are lacking
pub least_free : (bundle : Bundle) (state : StepState) (run number : ℕ) (others : List ℕ) → AreInOrder bundle state.histories → AllWait bundle state → lacking bundle state run ≡ number ∷ others → is_parked state number ≡ false
least_free bundle state run number others in_order waits least =
    waits run number (front_of (length (get_or state.histories run [])) number others (own_numbers bundle run) (sym least ∙ lacking_is bundle state run (in_order run))).0

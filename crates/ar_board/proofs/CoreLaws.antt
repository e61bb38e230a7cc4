-- What holds in each state that a list of steps leads to.
use Rattle.std.proofs.Common.{◌≡◌, ◌<◌, ℕ, zero, suc, ◌+◌, ◌*◌, Bool, true, false, if◌then◌else◌, List, [], ◌∷◌, ◌++◌, length, map, get_or, take, replicate, Option, None, refl, sym, ◌∙◌, ap, subst, arith}
use Rattle.std.specs.Prelude.{nat_lt}
use Rattle.std.specs.List.{AllByRecursion, sum_by}
use Rattle.std.proofs.lemmas.Bool.Decides.{nat_tests}
use Rattle.std.proofs.lemmas.List.{length-replicate, take_more}
use Rattle.std.proofs.lemmas.List.Folds.{sum_by-replicate}
use Rattle.std.proofs.lemmas.List.Sums.{sum_by-cons}
use Rattle.ar_bundle.specs.Sound.{IsBundle}
use Rattle.ar_bundle.specs.Bundle.{Bundle}
use Rattle.ar_board.specs.Core.{Core, HasEachOnce, IsAtRest, StepState, after_steps, after_step, can_put, has_empty_hand, held, is_parked, lacking, occurrences, opening, ordered_post_of, post_of, core_stepped, times_held, times_parked, times_to_put}
use Rattle.ar_bundle.specs.Lawful.{AllRise, AreHistories, AreLawful, times_in}
use Rattle.ar_board.specs.Private.Kept.{AreInOrder, HasFirst, IsSound}
use Rattle.ar_board.specs.Private.Posts.{stepped_by}
use Rattle.ar_bundle.specs.declared.bundle.RunPart.{RunPart}
use Rattle.ar_board.specs.declared.core_steps.CoreStep.{CoreStep}
use Rattle.ar_board.specs.declared.core_steps.CoreStep.TheVariants.{Put, Take, Post}
use Rattle.ar_bundle.specs.declared.history.Entry.{Entry}
use Rattle.ar_bundle.proofs.HistoryLemmas.{none_yet, times_none}
use Rattle.ar_board.proofs.CoreSteps.{post_sound, put_sound, take_sound}
use Rattle.ar_board.proofs.OrderedSteps.{all_rise, ordered_post_sound, step_in_order}
use Rattle.ar_board.proofs.OrderedWaits.{AllWait, least_free, step_waits}

-- ---- steps

post_sound_by : (bundle : Bundle) (ordered : Bool) (state : StepState) (worker : ℕ) → IsBundle bundle → IsSound bundle state → IsSound bundle (if ordered then ordered_post_of bundle state worker (held state worker) else post_of bundle state worker (held state worker))
post_sound_by bundle true state worker is sound = ordered_post_sound bundle state worker (held state worker) is refl sound
post_sound_by bundle false state worker is sound = post_sound bundle state worker (held state worker) is refl sound

pub step_sound : (bundle : Bundle) (places : ℕ) (ordered : Bool) (state : StepState) (step : CoreStep) → IsBundle bundle → IsSound bundle state → IsSound bundle (after_step bundle places ordered state step)
step_sound bundle places ordered state Put is sound = put_sound bundle places state (can_put bundle places state) refl sound
step_sound bundle places ordered state (Take worker) is sound = take_sound bundle state worker (has_empty_hand state worker) refl sound
step_sound bundle places ordered state (Post worker) is sound = post_sound_by bundle ordered state worker is sound

after_sound : (bundle : Bundle) (places : ℕ) (ordered : Bool) (state : StepState) (steps : List CoreStep) → IsBundle bundle → IsSound bundle state → IsSound bundle (after_steps bundle places ordered state steps)
after_sound bundle places ordered state [] is sound = sound
after_sound bundle places ordered state (step ∷ steps) is sound = after_sound bundle places ordered (after_step bundle places ordered state step) steps is (step_sound bundle places ordered state step is sound)

after_in_order : (bundle : Bundle) (places : ℕ) (state : StepState) (steps : List CoreStep) → IsBundle bundle → IsSound bundle state → AreInOrder bundle state.histories → AreInOrder bundle (after_steps bundle places true state steps).histories
after_in_order bundle places state [] is sound in_order = in_order
after_in_order bundle places state (step ∷ steps) is sound in_order = after_in_order bundle places (after_step bundle places true state step) steps is (step_sound bundle places true state step is sound) (step_in_order bundle places state step is sound in_order)

after_waits : (bundle : Bundle) (places : ℕ) (state : StepState) (steps : List CoreStep) → IsBundle bundle → IsSound bundle state → AreInOrder bundle state.histories → AllWait bundle state → AllWait bundle (after_steps bundle places true state steps)
after_waits bundle places state [] is sound in_order waits = waits
after_waits bundle places state (step ∷ steps) is sound in_order waits =
    after_waits bundle places (after_step bundle places true state step) steps is (step_sound bundle places true state step is sound) (step_in_order bundle places state step is sound in_order) (step_waits bundle places state step is sound in_order waits)

-- ---- the opening state

none_marked : (marks number : ℕ) → get_or (replicate marks false) number false ≡ false
none_marked zero number = refl
none_marked (suc marks) zero = refl
none_marked (suc marks) (suc number) = none_marked marks number

opening_once : (bundle : Bundle) (workers number : ℕ) → occurrences number (opening bundle workers) ≡ 1
opening_once bundle workers number =
    let hands : sum_by (times_held number) (replicate workers None) ≡ workers * 0 = sum_by-replicate (times_held number) workers None in
    let histories = times_none number bundle.runs in
    let none : nat_lt number 0 ≡ false = grind (arith, nat_tests) in
    let to_put : times_to_put number (opening bundle workers) ≡ 1 = rw none refl in
    let parked : times_parked number (opening bundle workers) ≡ 0 = rw (none_marked (length bundle.entries) number) refl in
    omega arith

opening_sound : (bundle : Bundle) (workers : ℕ) → IsSound bundle (opening bundle workers)
opening_sound bundle workers = record { next = omega arith; once = opening_once bundle workers; parked = length-replicate (length bundle.entries) false; histories = none_yet bundle 0 bundle.runs }

no_history : (runs : List RunPart) (run : ℕ) → get_or {A = List Entry} (map (λ run. []) runs) run [] ≡ []
no_history [] run = refl
no_history (part ∷ runs) zero = refl
no_history (part ∷ runs) (suc run) = no_history runs run

opening_in_order : (bundle : Bundle) → AreInOrder bundle (map (λ run. []) bundle.runs)
opening_in_order bundle run = subst (HasFirst bundle run) (sym (no_history bundle.runs run)) refl

-- the opening state, however it is said
pub opened_sound : (bundle : Bundle) (workers : ℕ) (queue : List ℕ) (hands : List (Option ℕ)) (parked : List Bool) (histories : List (List Entry)) → queue ≡ [] → hands ≡ replicate workers None → parked ≡ replicate (length bundle.entries) false → histories ≡ map (λ run. []) bundle.runs
    → IsSound bundle (record { next = 0; queue = queue; hands = hands; parked = parked; histories = histories })
opened_sound bundle workers queue hands parked histories no_queue no_hands none_parked no_histories =
    subst (λ (queue : List ℕ). IsSound bundle (record { next = 0; queue = queue; hands = hands; parked = parked; histories = histories })) (sym no_queue)
    (subst (λ (hands : List (Option ℕ)). IsSound bundle (record { next = 0; queue = []; hands = hands; parked = parked; histories = histories })) (sym no_hands)
    (subst (λ (parked : List Bool). IsSound bundle (record { next = 0; queue = []; hands = replicate workers None; parked = parked; histories = histories })) (sym none_parked)
    (subst (λ (histories : List (List Entry)). IsSound bundle (record { next = 0; queue = []; hands = replicate workers None; parked = replicate (length bundle.entries) false; histories = histories })) (sym no_histories) (opening_sound bundle workers))))

pub opened_in_order : (bundle : Bundle) (histories : List (List Entry)) → histories ≡ map (λ run. []) bundle.runs → AreInOrder bundle histories
opened_in_order bundle histories no_histories = subst (AreInOrder bundle) (sym no_histories) (opening_in_order bundle)

-- ---- one step more

after_push : (bundle : Bundle) (places : ℕ) (ordered : Bool) (state : StepState) (steps : List CoreStep) (last : CoreStep) → after_steps bundle places ordered state (steps ++ last ∷ []) ≡ after_step bundle places ordered (after_steps bundle places ordered state steps) last
after_push bundle places ordered state [] last = refl
after_push bundle places ordered state (step ∷ steps) last = after_push bundle places ordered (after_step bundle places ordered state step) steps last

pub core_next : (first : Core) (steps : List CoreStep) (made : ℕ) (core later : Core) (d : CoreStep) → made < length steps → core ≡ stepped_by first (take made steps) → later ≡ core_stepped core (get_or steps made d) → later ≡ stepped_by first (take (made + 1) steps)
core_next first steps made core later d inside before is =
    is
    ∙ (ap (λ (core : Core). core_stepped core (get_or steps made d)) before
    ∙ (ap (λ (state : StepState). record { bundle = first.bundle; places = first.places; ordered = first.ordered; state = state }) (sym (after_push first.bundle first.places first.ordered first.state (take made steps) (get_or steps made d)))
    ∙ ap (stepped_by first) (sym (take_more steps made d inside))))

-- ---- the laws

sound : (bundle : Bundle) (workers places : ℕ) (ordered : Bool) (steps : List CoreStep) → IsBundle bundle → IsSound bundle (after_steps bundle places ordered (opening bundle workers) steps)
sound bundle workers places ordered steps is = after_sound bundle places ordered (opening bundle workers) steps is (opening_sound bundle workers)

pub each_once : (bundle : Bundle) (workers places : ℕ) (ordered : Bool) (steps : List CoreStep) → IsBundle bundle → HasEachOnce bundle (after_steps bundle places ordered (opening bundle workers) steps)
each_once bundle workers places ordered steps is number inside = (sound bundle workers places ordered steps is).once number

pub histories_of_runs : (bundle : Bundle) (workers places : ℕ) (ordered : Bool) (steps : List CoreStep) → IsBundle bundle → AreHistories bundle 0 bundle.runs (after_steps bundle places ordered (opening bundle workers) steps).histories
histories_of_runs bundle workers places ordered steps is = (sound bundle workers places ordered steps is).histories

in_order : (bundle : Bundle) (workers places : ℕ) (steps : List CoreStep) → IsBundle bundle → AreInOrder bundle (after_steps bundle places true (opening bundle workers) steps).histories
in_order bundle workers places steps is = after_in_order bundle places (opening bundle workers) steps is (opening_sound bundle workers) (opening_in_order bundle)

pub histories_rise : (bundle : Bundle) (workers places : ℕ) (steps : List CoreStep) → IsBundle bundle → AllRise (after_steps bundle places true (opening bundle workers) steps).histories
histories_rise bundle workers places steps is = all_rise bundle (after_steps bundle places true (opening bundle workers) steps).histories (in_order bundle workers places steps is)

pub least_waits : (bundle : Bundle) (workers places run number : ℕ) (others : List ℕ) (steps : List CoreStep) → IsBundle bundle → lacking bundle (after_steps bundle places true (opening bundle workers) steps) run ≡ number ∷ others → is_parked (after_steps bundle places true (opening bundle workers) steps) number ≡ false
least_waits bundle workers places run number others steps is least =
    least_free bundle (after_steps bundle places true (opening bundle workers) steps) run number others (in_order bundle workers places steps is)
    (after_waits bundle places (opening bundle workers) steps is (opening_sound bundle workers) (opening_in_order bundle) (λ run number there. none_marked (length bundle.entries) number)) least

none_held : (number : ℕ) (hands : List (Option ℕ)) → AllByRecursion (λ hand. hand ≡ None) hands → sum_by (times_held number) hands ≡ 0
none_held number [] all = refl
none_held number (hand ∷ hands) all =
    let first : times_held number hand ≡ 0 = ap (times_held number) all.0 in
    let rest = none_held number hands all.1 in
    let counted = sum_by-cons (times_held number) hand hands in
    omega arith

none_parked : (number : ℕ) (marks : List Bool) → AllByRecursion (λ mark. mark ≡ false) marks → get_or marks number false ≡ false
none_parked number [] all = refl
none_parked zero (mark ∷ marks) all = all.0
none_parked (suc number) (mark ∷ marks) all = none_parked number marks all.1

rest_by_test : (number : ℕ) (state : StepState) (test : Bool) → nat_lt number state.next ≡ test → number < state.next → times_to_put number state ≡ 0
rest_by_test number state true is inside = rw is refl
rest_by_test number state false is inside = absurd (grind (arith, nat_tests, is, inside))

pub at_rest : (bundle : Bundle) (workers places : ℕ) (ordered : Bool) (steps : List CoreStep) → IsBundle bundle → IsAtRest bundle (after_steps bundle places ordered (opening bundle workers) steps) → AreLawful bundle (after_steps bundle places ordered (opening bundle workers) steps).histories
at_rest bundle workers places ordered steps is rest =
    let state : StepState = after_steps bundle places ordered (opening bundle workers) steps in
    let found = sound bundle workers places ordered steps is in
    record {
      of_runs = found.histories;
      once = λ number inside.
          let all = found.once number in
          let held = none_held number state.hands rest.hands in
          let queued : times_in number state.queue ≡ 0 = ap (times_in number) rest.queue in
          let parked : times_parked number state ≡ 0 = rw (none_parked number state.parked rest.parked) refl in
          let put : times_to_put number state ≡ 0 = rest_by_test number state (nat_lt number state.next) refl (subst (λ (next : ℕ). number < next) (sym rest.put) inside) in
          omega arith;
    }

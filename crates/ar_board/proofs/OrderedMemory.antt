-- An ordered core in memory.
use Rattle.std.proofs.Common.{◌≡◌, ◌<◌, ℕ, Bool, true, false, if◌then◌else◌, List, [], ◌∷◌, length, get_or, set, Option, Some, None, refl, sym, ◌∙◌, ap, subst, arith}
use Rattle.std.specs.Prelude.{Vec, nat_lt, slice_get, vec_len}
use Rattle.std.specs.declared.alloc.Global.{Global}
use Rattle.std.proofs.lemmas.Bool.{ltb-false, ltb-true}
use Rattle.std.proofs.lemmas.List.{get_or-map, get_or-set_same, get_or_default, length-map}
use Rattle.std.proofs.lemmas.Option.{slice_get_past, slice_get_read}
use Rattle.ar_bundle.specs.Bundle.{Bundle, run_at}
use Rattle.ar_bundle.specs.Lawful.{times}
use Rattle.ar_board.specs.Posting.{posted}
use Rattle.ar_board.specs.Core.{Core, StepState, held, is_parked, lacking, parked_moved, occurrences, own_numbers, parked_by, settled_numbers, times_parked}
use Rattle.ar_board.specs.Private.Inside.{IsCore, core_of, histories_of, state_of}
use Rattle.ar_board.specs.Private.Own.{items_of_each}
use Rattle.ar_board.specs.Private.Posts.{IsTurn, next_own, settled_core}
use Rattle.ar_board.specs.declared.core_state.CoreState.TheInside.{Inside}
use Rattle.ar_bundle.specs.declared.history.Entry.{Entry}
use Rattle.ar_board.specs.declared.cell.run_history.RunHistory.{RunHistory}
use Rattle.ar_bundle.proofs.Room.{number_inside}
use Rattle.ar_board.proofs.CoreSteps.{holder_inside}
use Rattle.ar_board.proofs.CorePost.{Appends, history_is}
use Rattle.ar_board.proofs.CoreShown.{run_inside}
use Rattle.ar_board.proofs.OwnNumbers.{own_is_of}
use Rattle.ar_board.proofs.OrderedPost.{Turned, none_lacks, not_parked, turned}

-- ---- the numbers of a run

pub is_on : (core : Inside) (seen : Core) → core_of core ≡ seen → seen.ordered ≡ true → core.ordered ≡ true
is_on core seen view on = ap (λ (seen : Core). seen.ordered) view ∙ on

pub run_below : (core : Inside) (seen : Core) (run : ℕ) → core_of core ≡ seen → run < length seen.bundle.runs → run < length core.bundle.now.runs
run_below core seen run view below = subst (λ (seen : Core). run < length seen.bundle.runs) (sym view) below

-- a run has a list
pub own_inside : (core : Inside) (seen : Core) (run : ℕ) → IsCore core → core_of core ≡ seen → seen.ordered ≡ true → run < length seen.bundle.runs → run < length core.own.items
own_inside core seen run is view on below =
    let own = is.own (is_on core seen view on) in
    let inside = run_below core seen run view below in
    let as_many : length (items_of_each core.own.items) ≡ length core.own.items = length-map core.own.items (λ (list : Vec ℕ Global). list.items) in
    let many = own.as_many in
    omega arith

-- the list that was read
own_read : (core : Inside) (seen : Core) (run : ℕ) (list : Vec ℕ Global) → IsCore core → core_of core ≡ seen → seen.ordered ≡ true → run < length seen.bundle.runs → list ≡ get_or core.own.items run list → list.items ≡ own_numbers core.bundle.now run
own_read core seen run list is view on below read =
    let own = is.own (is_on core seen view on) in
    ap (λ (list : Vec ℕ Global). list.items) read
    ∙ (sym (get_or-map (λ (list : Vec ℕ Global). list.items) core.own.items run list [] (own_inside core seen run is view on below))
    ∙ own.own run (run_below core seen run view below))

pub least_is : (core : Inside) (seen : Core) (run : ℕ) (shown : RunHistory) (list : Vec ℕ Global) → IsCore core → core_of core ≡ seen → seen.ordered ≡ true → run < length seen.bundle.runs → shown ≡ get_or core.runs.items run shown → list ≡ get_or core.own.items run list
    → slice_get list.items (vec_len shown.entries) ≡ next_own seen run
least_is core seen run shown list is view on below shown_read list_read =
    let numbers = own_read core seen run list is view on below list_read in
    let there : slice_get core.runs.items run ≡ Some shown = slice_get_read core.runs.items (length core.runs.items) run shown refl (run_inside core seen run is view below) shown_read in
    let history = history_is core.runs.items run shown there in
    let place : vec_len shown.entries ≡ length (get_or (histories_of core.runs.items) run []) = shown.entries.ok.0 ∙ ap (λ history. length history) (sym history) in
    ap (λ (numbers : List ℕ). slice_get numbers (vec_len shown.entries)) numbers
    ∙ (ap (λ (place : ℕ). slice_get (own_numbers core.bundle.now run) place) place
    ∙ ap (λ (seen : Core). next_own seen run) view)

pub least_read : (core : Inside) (seen : Core) (run : ℕ) (shown : RunHistory) (list : Vec ℕ Global) (numbers : List ℕ) (place : ℕ) → IsCore core → core_of core ≡ seen → seen.ordered ≡ true → run < length seen.bundle.runs → shown ≡ get_or core.runs.items run shown → list ≡ get_or core.own.items run list
    → numbers ≡ list.items → place ≡ vec_len shown.entries → slice_get numbers place ≡ next_own seen run
least_read core seen run shown list numbers place is view on below shown_read list_read same at =
    ap (λ (numbers : List ℕ). slice_get numbers place) same
    ∙ (ap (λ (place : ℕ). slice_get list.items place) at
    ∙ least_is core seen run shown list is view on below shown_read list_read)

pub some_read : (numbers : List ℕ) (place number : ℕ) → true ≡ nat_lt place (length numbers) → number ≡ get_or numbers place number → slice_get numbers place ≡ Some number
some_read numbers place number inside read = slice_get_read numbers (length numbers) place number refl (ltb-true place (length numbers) (sym inside)) read

pub none_read : (numbers : List ℕ) (place : ℕ) → false ≡ nat_lt place (length numbers) → slice_get numbers place ≡ None
none_read numbers place past = slice_get_past numbers place (ltb-false place (length numbers) (sym past))

-- ---- the least number that a run's history lacks

pub record Least (core : Inside) (run number : ℕ) : Type 0 where
  pub there : next_own (core_of core) run ≡ Some number
  pub own : run_at core.bundle.now number ≡ Some run
  pub inside : number < length core.bundle.now.entries

pub least_in : (core : Inside) (seen : Core) (run number : ℕ) → core_of core ≡ seen → Some number ≡ next_own seen run → Least core run number
least_in core seen run number view least =
    let there : next_own (core_of core) run ≡ Some number = ap (λ (seen : Core). next_own seen run) view ∙ sym least in
    let own = own_is_of core.bundle.now run number (length (get_or (histories_of core.runs.items) run [])) there in
    record { there = there; own = own; inside = number_inside core.bundle.now number run own }

pub mark_inside : (core : Inside) (number : ℕ) → IsCore core → number < length core.bundle.now.entries → number < length core.parked.items
mark_inside core number is inside = let many = is.sound.parked in omega arith

pub mark_read : (core : Inside) (number : ℕ) (mark value : Bool) → IsCore core → number < length core.bundle.now.entries → mark ≡ get_or core.parked.items number mark → mark ≡ value → is_parked (state_of core) number ≡ value
mark_read core number mark value is inside read same = get_or_default core.parked.items number false mark (mark_inside core number is inside) ∙ (sym read ∙ same)

-- ---- nothing moves

pub none_moves : (core : Inside) (seen : Core) (run : ℕ) → IsCore core → core_of core ≡ seen → seen.ordered ≡ true → None ≡ next_own seen run → settled_core seen run ≡ seen
none_moves core seen run is view on none =
    let all_there : next_own (core_of core) run ≡ None = ap (λ (seen : Core). next_own seen run) view ∙ sym none in
    subst (λ (seen : Core). settled_core seen run ≡ seen) view
    (ap (λ (state : StepState). record { bundle = core.bundle.now; places = core.places; ordered = core.ordered; state = state }) (none_lacks core.bundle.now (state_of core) run (is.in_order (is_on core seen view on)) all_there))

pub free_stays : (core : Inside) (seen : Core) (run number : ℕ) → IsCore core → core_of core ≡ seen → seen.ordered ≡ true → Least core run number → is_parked (state_of core) number ≡ false → settled_core seen run ≡ seen
free_stays core seen run number is view on least free =
    subst (λ (seen : Core). settled_core seen run ≡ seen) view
    (ap (λ (state : StepState). record { bundle = core.bundle.now; places = core.places; ordered = core.ordered; state = state }) (not_parked core.bundle.now (state_of core) run number (is.in_order (is_on core seen view on)) least.there free))

-- ---- a number moves

nowhere_by : (number : ℕ) (state : StepState) → is_parked state number ≡ true → occurrences number state ≡ 1 → times number state.histories ≡ 0
nowhere_by number state marked once = let one : times_parked number state ≡ 1 = rw marked refl in omega arith

pub parked_nowhere : (core : Inside) (number : ℕ) → IsCore core → is_parked (state_of core) number ≡ true → times number (histories_of core.runs.items) ≡ 0
parked_nowhere core number is marked = nowhere_by number (state_of core) marked (is.sound.once number)

pub turned_in : (core : Inside) (seen : Core) (run number : ℕ) (later : List RunHistory) → IsCore core → core_of core ≡ seen → seen.ordered ≡ true → run < length seen.bundle.runs → Least core run number → is_parked (state_of core) number ≡ true → Appends core.bundle.now core.runs.items later number
    → Turned core.bundle.now (state_of core) run number (parked_moved (state_of core) number (Some (histories_of later)))
turned_in core seen run number later is view on below least marked appends =
    turned core.bundle.now (state_of core) run number is.bundle is.sound (is.in_order (is_on core seen view on)) (run_below core seen run view below) least.there marked (histories_of later) appends.posts

pub is_turn : (core : Inside) (seen : Core) (run number : ℕ) (later : StepState) → core_of core ≡ seen → Turned core.bundle.now (state_of core) run number later → IsTurn run seen (record { bundle = core.bundle.now; places = core.places; ordered = core.ordered; state = later })
is_turn core seen run number later view turn =
    subst (λ (seen : Core). IsTurn run seen (record { bundle = core.bundle.now; places = core.places; ordered = core.ordered; state = later })) view (record {
      bundle = refl;
      ordered = refl;
      same = ap (λ (state : StepState). record { bundle = core.bundle.now; places = core.places; ordered = core.ordered; state = state }) turn.same;
      fewer = turn.fewer;
    })

-- ---- the hands

hands_by_test : (bundle : Bundle) (state : StepState) (number : ℕ) (others : List ℕ) (test : Bool) (posts : Option (List (List Entry))) → ((later : StepState) → (settled_numbers bundle later others).hands ≡ later.hands) → (if test then settled_numbers bundle (parked_moved state number posts) others else state).hands ≡ state.hands
hands_by_test bundle state number others false posts rest = refl
hands_by_test bundle state number others true None rest = rest state
hands_by_test bundle state number others true (Some later) rest = rest (parked_moved state number (Some later))

-- no hand changes when numbers move
pub settled_hands : (bundle : Bundle) (numbers : List ℕ) (state : StepState) → (settled_numbers bundle state numbers).hands ≡ state.hands
settled_hands bundle [] state = refl
settled_hands bundle (number ∷ others) state = hands_by_test bundle state number others (is_parked state number) (posted bundle state.histories number) (λ later. settled_hands bundle others later)

-- a hand that is emptied was full
pub hand_changes : (hands : List (Option ℕ)) (worker number : ℕ) → get_or hands worker None ≡ Some number → set hands worker None ≡ hands → ⊥
hand_changes hands worker number full same =
    let now : get_or (set hands worker None) worker None ≡ None = get_or-set_same hands worker None None (holder_inside worker number hands full) in
    let before : get_or (set hands worker None) worker None ≡ Some number = ap (λ (hands : List (Option ℕ)). get_or hands worker None) same ∙ full in
    let both : None ≡ Some number = sym now ∙ before in
    cc

-- so the state isn't the same after a post
pub post_changes : (core : Inside) (seen later : Core) (worker number run : ℕ) → core_of core ≡ seen → held (state_of core) worker ≡ Some number
    → later ≡ settled_core (record { bundle = core.bundle.now; places = core.places; ordered = core.ordered; state = parked_by (state_of core) worker number }) run → later.state ≡ seen.state → ⊥
post_changes core seen later worker number run view full is same =
    let parked : StepState = parked_by (state_of core) worker number in
    hand_changes core.hands.items worker number full
    (sym (settled_hands core.bundle.now (lacking core.bundle.now parked run) parked)
    ∙ (sym (ap (λ (core : Core). core.state.hands) is)
    ∙ (ap (λ (state : StepState). state.hands) same
    ∙ sym (ap (λ (core : Core). core.state.hands) view))))

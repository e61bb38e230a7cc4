-- The numbers of a run: they rise, and where a history has the first of them it lacks the rest.
use Rattle.std.proofs.Common.{◌≡◌, ◌<◌, ◌≢◌, ℕ, zero, suc, ◌+◌, ◌==◌, Bool, true, false, if◌then◌else◌, List, [], ◌∷◌, ◌++◌, length, take, drop, get_or, set, Some, None, refl, sym, ◌∙◌, ap, subst, arith}
use Rattle.std.specs.Prelude.{filter, option_map, slice_get}
use Rattle.std.specs.List.{AllByRecursion}
use Rattle.std.proofs.lemmas.Bool.Decides.{nat_tests}
use Rattle.std.proofs.lemmas.List.{get_or-set_other, get_or-set_same, length_push, take_more}
use Rattle.std.proofs.lemmas.Option.{get_or_from_slice_get, slice_get_within}
use Rattle.ar_bundle.specs.Bundle.{Bundle, run_at}
use Rattle.ar_bundle.specs.Lawful.{Rise, numbers_of, times_in}
use Rattle.ar_board.specs.Core.{StepState, lacking, own_from, own_numbers}
use Rattle.ar_board.specs.Private.Kept.{AreInOrder, HasFirst}
use Rattle.ar_bundle.specs.declared.bundle.EventPart.{EventPart}
use Rattle.ar_bundle.specs.declared.history.Entry.{Entry}
use Rattle.ar_bundle.proofs.HistoryLemmas.{numbers_push, times_by}

-- ---- they rise

after_by_test : (from low : ℕ) (rest : List ℕ) (test : Bool) → low < from → AllByRecursion (λ number. low < number) rest → AllByRecursion (λ number. low < number) (if test then from ∷ rest else rest)
after_by_test from low rest true later all = (later, all)
after_by_test from low rest false later all = all

all_after : (run from low : ℕ) (entries : List EventPart) → low < from → AllByRecursion (λ number. low < number) (own_from run from entries)
all_after run from low [] later = tt
all_after run from low (entry ∷ entries) later = after_by_test from low (own_from run (suc from) entries) (entry.run == run) later (all_after run (suc from) low entries (omega arith))

rise_by_test : (from : ℕ) (rest : List ℕ) (test : Bool) → AllByRecursion (λ number. from < number) rest → Rise rest → Rise (if test then from ∷ rest else rest)
rise_by_test from rest true later rise = (later, rise)
rise_by_test from rest false later rise = rise

own_rise : (run from : ℕ) (entries : List EventPart) → Rise (own_from run from entries)
own_rise run from [] = tt
own_rise run from (entry ∷ entries) = rise_by_test from (own_from run (suc from) entries) (entry.run == run) (all_after run (suc from) from entries (omega arith)) (own_rise run (suc from) entries)

all_take : (P : ℕ → Type 0) (k : ℕ) (numbers : List ℕ) → AllByRecursion P numbers → AllByRecursion P (take k numbers)
all_take P zero numbers all = tt
all_take P (suc k) [] all = tt
all_take P (suc k) (first ∷ numbers) all = (all.0, all_take P k numbers all.1)

rise_take : (k : ℕ) (numbers : List ℕ) → Rise numbers → Rise (take k numbers)
rise_take zero numbers rise = tt
rise_take (suc k) [] rise = tt
rise_take (suc k) (first ∷ numbers) rise = (all_take (λ number. first < number) k numbers rise.0, rise_take k numbers rise.1)

pub first_rise : (bundle : Bundle) (run : ℕ) (history : List Entry) → HasFirst bundle run history → Rise (numbers_of history)
first_rise bundle run history has = subst Rise (sym has) (rise_take (length history) (own_numbers bundle run) (own_rise run 0 bundle.entries))

-- ---- each of them is the run's

-- where a number of a run is among entries that are numbered from one on
record IsThere (run from number : ℕ) (entries : List EventPart) : Type 0 where
  place : ℕ
  is : number ≡ from + place
  own : option_map (λ (entry : EventPart). entry.run) (slice_get entries place) ≡ Some run

is_there_later : (run from number : ℕ) (entry : EventPart) (entries : List EventPart) → IsThere run (suc from) number entries → IsThere run from number (entry ∷ entries)
is_there_later run from number entry entries is_there = let at = is_there.is in record { place = suc is_there.place; is = omega arith; own = is_there.own }

is_there_by_test : (run from number place : ℕ) (entry : EventPart) (entries : List EventPart) (test : Bool) → (entry.run == run) ≡ test → ((place : ℕ) → slice_get (own_from run (suc from) entries) place ≡ Some number → IsThere run (suc from) number entries)
    → slice_get (if test then from ∷ own_from run (suc from) entries else own_from run (suc from) entries) place ≡ Some number → IsThere run from number (entry ∷ entries)
is_there_by_test run from number zero entry entries true is later there =
    let same : from ≡ number = cc in
    let own : entry.run ≡ run = grind (arith, nat_tests) in
    record { place = 0; is = omega arith; own = ap Some own }
is_there_by_test run from number (suc place) entry entries true is later there = is_there_later run from number entry entries (later place there)
is_there_by_test run from number place entry entries false is later there = is_there_later run from number entry entries (later place there)

own_is_there : (run from number place : ℕ) (entries : List EventPart) → slice_get (own_from run from entries) place ≡ Some number → IsThere run from number entries
own_is_there run from number place [] there = absurd cc
own_is_there run from number place (entry ∷ entries) there = is_there_by_test run from number place entry entries (entry.run == run) refl (λ place there. own_is_there run (suc from) number place entries there) there

pub own_is_of : (bundle : Bundle) (run number place : ℕ) → slice_get (own_numbers bundle run) place ≡ Some number → run_at bundle number ≡ Some run
own_is_of bundle run number place there =
    let is_there = own_is_there run 0 number place bundle.entries there in
    let same : number ≡ is_there.place = (let is = is_there.is in omega arith) in
    ap (run_at bundle) same ∙ is_there.own

-- ---- those that a history lacks

filter_same : (p q : ℕ → Bool) (numbers : List ℕ) → AllByRecursion (λ number. p number ≡ q number) numbers → filter p numbers ≡ filter q numbers
filter_same p q [] same = refl
filter_same p q (first ∷ numbers) same = rw (same.0, filter_same p q numbers same.1) refl

all_lacked : (numbers : List ℕ) → filter (λ number. times_in number [] == 0) numbers ≡ numbers
all_lacked [] = refl
all_lacked (first ∷ numbers) = ap (λ (numbers : List ℕ). first ∷ numbers) (all_lacked numbers)

-- a lower number is none of those after it
lower_stays : (first : ℕ) (numbers others : List ℕ) → AllByRecursion (λ number. first < number) others → AllByRecursion (λ number. (times_in number (first ∷ numbers) == 0) ≡ (times_in number numbers == 0)) others
lower_stays first numbers [] above = tt
lower_stays first numbers (number ∷ others) above =
    let higher : first < number = above.0 in
    let unlike : (first == number) ≡ false = grind (arith, nat_tests) in
    (ap (λ (times : ℕ). times == 0) (times_by number first numbers false unlike), lower_stays first numbers others above.1)

rest_is_lacked : (k : ℕ) (own : List ℕ) → Rise own → filter (λ number. times_in number (take k own) == 0) own ≡ drop k own
rest_is_lacked zero own rise = all_lacked own
rest_is_lacked (suc k) [] rise = refl
rest_is_lacked (suc k) (first ∷ own) rise =
    let before : List ℕ = take k own in
    let like : (first == first) ≡ true = grind (arith, nat_tests) in
    let is_there : (times_in first (first ∷ before) == 0) ≡ false = ap (λ (times : ℕ). times == 0) (times_by first first before true like) ∙ grind (arith, nat_tests) in
    let left_out : filter (λ number. times_in number (first ∷ before) == 0) (first ∷ own) ≡ filter (λ number. times_in number (first ∷ before) == 0) own = rw is_there refl in
    left_out
    ∙ (filter_same (λ number. times_in number (first ∷ before) == 0) (λ number. times_in number before == 0) own (lower_stays first before own rise.0)
    ∙ rest_is_lacked k own rise.1)

pub lacking_is : (bundle : Bundle) (state : StepState) (run : ℕ) → HasFirst bundle run (get_or state.histories run []) → lacking bundle state run ≡ drop (length (get_or state.histories run [])) (own_numbers bundle run)
lacking_is bundle state run has =
    ap (λ (numbers : List ℕ). filter (λ number. times_in number numbers == 0) (own_numbers bundle run)) has
    ∙ rest_is_lacked (length (get_or state.histories run [])) (own_numbers bundle run) (own_rise run 0 bundle.entries)

pub front_there : (k number : ℕ) (numbers : List ℕ) → slice_get numbers k ≡ Some number → drop k numbers ≡ number ∷ drop (suc k) numbers
front_there k number [] there = absurd cc
front_there zero number (first ∷ numbers) there = let same : first ≡ number = cc in ap (λ (number : ℕ). number ∷ numbers) same
front_there (suc k) number (first ∷ numbers) there = front_there k number numbers there

pub front_none : (k : ℕ) (numbers : List ℕ) → slice_get numbers k ≡ None → drop k numbers ≡ []
front_none zero [] there = refl
front_none (suc k) [] there = refl
front_none zero (first ∷ numbers) there = absurd cc
front_none (suc k) (first ∷ numbers) there = front_none k numbers there

pub front_of : (k number : ℕ) (others numbers : List ℕ) → number ∷ others ≡ drop k numbers → (slice_get numbers k ≡ Some number) × (others ≡ drop (suc k) numbers)
front_of zero number others [] is = absurd cc
front_of (suc k) number others [] is = absurd cc
front_of zero number others (first ∷ numbers) is = let same : number ≡ first = cc in (ap Some (sym same), cc)
front_of (suc k) number others (first ∷ numbers) is = front_of k number others numbers is

-- ---- a history that grows by the least of them

pub longer_has : (bundle : Bundle) (run : ℕ) (history : List Entry) (entry : Entry) → HasFirst bundle run history → slice_get (own_numbers bundle run) (length history) ≡ Some entry.number → HasFirst bundle run (history ++ entry ∷ [])
longer_has bundle run history entry has there =
    let own : List ℕ = own_numbers bundle run in
    let k : ℕ = length history in
    let inside = slice_get_within own k entry.number there in
    let more : take (k + 1) own ≡ take k own ++ entry.number ∷ [] = take_more own k 0 inside ∙ ap (λ (number : ℕ). take k own ++ number ∷ []) (get_or_from_slice_get own k entry.number 0 there) in
    numbers_push history entry
    ∙ (ap (λ (numbers : List ℕ). numbers ++ entry.number ∷ []) has
    ∙ (sym more
    ∙ ap (λ (k : ℕ). take k own) (sym (length_push history entry))))

pub longer_in_order : (bundle : Bundle) (run : ℕ) (histories : List (List Entry)) (entry : Entry) → run < length histories → AreInOrder bundle histories → slice_get (own_numbers bundle run) (length (get_or histories run [])) ≡ Some entry.number
    → AreInOrder bundle (set histories run (get_or histories run [] ++ entry ∷ []))
longer_in_order bundle run histories entry inside in_order there other = by_test (other == run) refl where
  by_test : (test : Bool) → (other == run) ≡ test → HasFirst bundle other (get_or (set histories run (get_or histories run [] ++ entry ∷ [])) other [])
  by_test true is =
      let same : run ≡ other = grind (arith, nat_tests) in
      let longer = longer_has bundle run (get_or histories run []) entry (in_order run) there in
      subst (λ (other : ℕ). HasFirst bundle other (get_or (set histories run (get_or histories run [] ++ entry ∷ [])) other [])) same
      (subst (HasFirst bundle run) (sym (get_or-set_same histories run (get_or histories run [] ++ entry ∷ []) [] inside)) longer)
  by_test false is =
      let unlike : other ≢ run = grind (arith, nat_tests) in
      subst (HasFirst bundle other) (sym (get_or-set_other histories run other (get_or histories run [] ++ entry ∷ []) [] unlike)) (in_order other)

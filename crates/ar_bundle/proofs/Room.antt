-- A history that lacks a number of its run has fewer entries than the run has in the bundle.
use Rattle.std.proofs.Common.{◌≡◌, ◌<◌, ◌≤◌, ℕ, zero, suc, ◌+◌, ◌==◌, Bool, true, false, if◌then◌else◌, List, [], ◌∷◌, length, take, get_or, Option, Some, None, refl, sym, ◌∙◌, ap, subst, arith}
use Rattle.std.specs.Prelude.{slice_get}
use Rattle.std.specs.List.{AllByRecursion}
use Rattle.std.proofs.lemmas.Bool.Decides.{nat_tests}
use Rattle.std.proofs.lemmas.List.{length-map, take_all}
use Rattle.std.proofs.lemmas.List.Sums.{sum_by_more}
use Rattle.std.proofs.lemmas.Option.{get_or_from_slice_get, slice_get_within}
use Rattle.ar_bundle.specs.Sound.{count_of, entries_of}
use Rattle.ar_bundle.specs.Bundle.{Bundle, run_at}
use Rattle.ar_bundle.specs.Lawful.{IsFound, numbers_of, times_in}
use Rattle.ar_bundle.specs.declared.bundle.EventPart.{EventPart}
use Rattle.ar_bundle.specs.declared.history.Entry.{Entry}
use Rattle.ar_bundle.proofs.Bundles.{entry_at}

-- ---- sums over the numbers below one

abbrev sum_below : (ℕ → ℕ) → (upto : ℕ) → ℕ
sum_below f zero = 0
sum_below f (suc number) = sum_below f number + f number

none_below : (upto : ℕ) → sum_below (λ number. 0) upto ≡ 0
none_below zero = refl
none_below (suc number) = let rest = none_below number in omega arith

both_below : (f g : ℕ → ℕ) (upto : ℕ) → sum_below (λ number. f number + g number) upto ≡ sum_below f upto + sum_below g upto
both_below f g zero = refl
both_below f g (suc number) = let rest = both_below f g number in omega arith

same_below : (f g : ℕ → ℕ) (upto : ℕ) → ((number : ℕ) → f number ≡ g number) → sum_below f upto ≡ sum_below g upto
same_below f g zero same = refl
same_below f g (suc number) same = let rest = same_below f g number same in let last = same number in omega arith

most_below : (f g : ℕ → ℕ) (upto : ℕ) → ((number : ℕ) → f number ≤ g number) → sum_below f upto ≤ sum_below g upto
most_below f g zero most = omega arith
most_below f g (suc number) most = let rest = most_below f g number most in let last = most number in omega arith

-- smaller at one of them
less_by_test : (f g : ℕ → ℕ) (number upto : ℕ) (test : Bool) → (number == upto) ≡ test → ((other : ℕ) → f other ≤ g other) → f number < g number → number < suc upto → (number < upto → sum_below f upto < sum_below g upto) → sum_below f (suc upto) < sum_below g (suc upto)
less_by_test f g number upto true is most less inside earlier =
    let same : number ≡ upto = grind (arith, nat_tests) in
    let last : f upto < g upto = subst (λ (at : ℕ). f at < g at) same less in
    let rest = most_below f g upto most in
    omega arith
less_by_test f g number upto false is most less inside earlier =
    let below : number < upto = grind (arith, nat_tests) in
    let rest = earlier below in
    let last = most upto in
    omega arith

less_below : (f g : ℕ → ℕ) (number upto : ℕ) → ((other : ℕ) → f other ≤ g other) → f number < g number → number < upto → sum_below f upto < sum_below g upto
less_below f g number zero most less inside = absurd (omega arith)
less_below f g number (suc upto) most less inside = less_by_test f g number upto (number == upto) refl most less inside (less_below f g number upto most less)

-- ---- how often numbers are in a list

abbrev once_at : (first number : ℕ) → ℕ
once_at first number = if first == number then 1 else 0

once_by_test : (first number : ℕ) (test : Bool) → (first == number) ≡ test → once_at first number ≡ (if test then 1 else 0)
once_by_test first number test is = rw is refl

not_below : (first upto : ℕ) → upto ≤ first → sum_below (once_at first) upto ≡ 0
not_below first zero past = refl
not_below first (suc upto) past =
    let rest = not_below first upto (omega arith) in
    let unlike : (first == upto) ≡ false = grind (arith, nat_tests) in
    let last = once_by_test first upto false unlike in
    omega arith

one_by_test : (first upto : ℕ) (test : Bool) → (first == upto) ≡ test → first < suc upto → (first < upto → sum_below (once_at first) upto ≡ 1) → sum_below (once_at first) (suc upto) ≡ 1
one_by_test first upto true is inside earlier =
    let same : first ≡ upto = grind (arith, nat_tests) in
    let last = once_by_test first upto true is in
    let rest = not_below first upto (omega arith) in
    omega arith
one_by_test first upto false is inside earlier =
    let below : first < upto = grind (arith, nat_tests) in
    let last = once_by_test first upto false is in
    let rest = earlier below in
    omega arith

one_below : (first upto : ℕ) → first < upto → sum_below (once_at first) upto ≡ 1
one_below first zero inside = absurd (omega arith)
one_below first (suc upto) inside = one_by_test first upto (first == upto) refl inside (one_below first upto)

first_by_test : (number first : ℕ) (numbers : List ℕ) (test : Bool) → (first == number) ≡ test → times_in number (first ∷ numbers) ≡ once_at first number + times_in number numbers
first_by_test number first numbers true is =
    let all : times_in number (first ∷ numbers) ≡ suc (times_in number numbers) = rw is refl in
    let own = once_by_test first number true is in
    omega arith
first_by_test number first numbers false is =
    let all : times_in number (first ∷ numbers) ≡ times_in number numbers = rw is refl in
    let own = once_by_test first number false is in
    omega arith

-- numbers below one are as many as their occurrences, all together
as_long : (upto : ℕ) (numbers : List ℕ) → AllByRecursion (λ number. number < upto) numbers → sum_below (λ number. times_in number numbers) upto ≡ length numbers
as_long upto [] all = none_below upto
as_long upto (first ∷ numbers) all =
    let rest = as_long upto numbers all.1 in
    let own = one_below first upto all.0 in
    let apart = same_below (λ number. times_in number (first ∷ numbers)) (λ number. once_at first number + times_in number numbers) upto (λ number. first_by_test number first numbers (first == number) refl) in
    let both = both_below (once_at first) (λ number. times_in number numbers) upto in
    omega arith

-- ---- how many numbers are of a run

abbrev of_run : (run : ℕ) → Option ℕ → ℕ
of_run run None = 0
of_run run (Some own) = if own == run then 1 else 0

own_counts : (run : ℕ) (own : Option ℕ) → own ≡ Some run → of_run run own ≡ 1
own_counts run own is =
    let same : (run == run) ≡ true = grind (arith, nat_tests) in
    let one : of_run run (Some run) ≡ 1 = rw same refl in
    ap (of_run run) is ∙ one

abbrev tested : (run : ℕ) → EventPart → ℕ
tested run entry = if entry.run == run then 1 else 0

one_more : (bundle : Bundle) (run upto : ℕ) → upto < length bundle.entries → count_of (take (suc upto) bundle.entries) run ≡ count_of (take upto bundle.entries) run + of_run run (run_at bundle upto)
one_more bundle run upto inside =
    let entry = entry_at bundle.entries upto inside in
    let read : tested run (get_or bundle.entries upto entry.0) ≡ tested run entry.0 = ap (tested run) (get_or_from_slice_get bundle.entries upto entry.0 entry.0 entry.1) in
    let own : of_run run (run_at bundle upto) ≡ tested run entry.0 = rw entry.1 refl in
    let next : suc upto ≡ upto + 1 = omega arith in
    let more = sum_by_more (tested run) bundle.entries upto entry.0 inside in
    ap (λ (upto : ℕ). count_of (take upto bundle.entries) run) next ∙ (more ∙ ap (λ (last : ℕ). count_of (take upto bundle.entries) run + last) (read ∙ sym own))

counted : (bundle : Bundle) (run upto : ℕ) → upto ≤ length bundle.entries → count_of (take upto bundle.entries) run ≡ sum_below (λ number. of_run run (run_at bundle number)) upto
counted bundle run zero inside = refl
counted bundle run (suc upto) inside =
    let rest = counted bundle run upto (omega arith) in
    let more = one_more bundle run upto (omega arith) in
    omega arith

-- a run has as many entries as there are numbers of it
as_many_numbers : (bundle : Bundle) (run : ℕ) → entries_of bundle run ≡ sum_below (λ number. of_run run (run_at bundle number)) (length bundle.entries)
as_many_numbers bundle run =
    let all = take_all (length bundle.entries) bundle.entries (omega arith) in
    ap (λ (entries : List EventPart). count_of entries run) (sym all) ∙ counted bundle run (length bundle.entries) (omega arith)

-- ---- a history

inside_by_entry : (bundle : Bundle) (number run : ℕ) (entry : Option EventPart) → slice_get bundle.entries number ≡ entry → run_at bundle number ≡ Some run → number < length bundle.entries
inside_by_entry bundle number run None there own = absurd (let none : run_at bundle number ≡ None = rw there refl in cc)
inside_by_entry bundle number run (Some entry) there own = slice_get_within bundle.entries number entry there

-- a number of a run is there
pub number_inside : (bundle : Bundle) (number run : ℕ) → run_at bundle number ≡ Some run → number < length bundle.entries
number_inside bundle number run own = inside_by_entry bundle number run (slice_get bundle.entries number) refl own

pub all_inside : (bundle : Bundle) (run : ℕ) (history : List Entry) → AllByRecursion (IsFound bundle run) history → AllByRecursion (λ number. number < length bundle.entries) (numbers_of history)
all_inside bundle run [] all = tt
all_inside bundle run (entry ∷ history) all = let found = all.0 in (number_inside bundle entry.number run found.own, all_inside bundle run history all.1)

own_by_test : (bundle : Bundle) (run number : ℕ) (entry : Entry) (history : List Entry) (test : Bool) → (entry.number == number) ≡ test → run_at bundle entry.number ≡ Some run → 0 < times_in number (numbers_of (entry ∷ history)) → (0 < times_in number (numbers_of history) → run_at bundle number ≡ Some run) → run_at bundle number ≡ Some run
own_by_test bundle run number entry history true is own is_there later =
    let same : entry.number ≡ number = grind (arith, nat_tests) in
    subst (λ (number : ℕ). run_at bundle number ≡ Some run) same own
own_by_test bundle run number entry history false is own is_there later =
    let rest : times_in number (numbers_of (entry ∷ history)) ≡ times_in number (numbers_of history) = rw is refl in
    later (omega arith)

-- a number that is there is one of the run
own_where_it_is : (bundle : Bundle) (run number : ℕ) (history : List Entry) → AllByRecursion (IsFound bundle run) history → 0 < times_in number (numbers_of history) → run_at bundle number ≡ Some run
own_where_it_is bundle run number [] all is_there = absurd (omega arith)
own_where_it_is bundle run number (entry ∷ history) all is_there =
    let found = all.0 in
    own_by_test bundle run number entry history (entry.number == number) refl found.own is_there (own_where_it_is bundle run number history all.1)

most_by_times : (bundle : Bundle) (run number times : ℕ) (history : List Entry) → AllByRecursion (IsFound bundle run) history → times_in number (numbers_of history) ≡ times → times ≤ 1 → times_in number (numbers_of history) ≤ of_run run (run_at bundle number)
most_by_times bundle run number zero history all is once = omega arith
most_by_times bundle run number (suc times) history all is once =
    let own = own_where_it_is bundle run number history all (omega arith) in
    let one = own_counts run (run_at bundle number) own in
    omega arith

-- a history that lacks a number of its run has fewer entries than the run
pub has_room : (bundle : Bundle) (run number : ℕ) (history : List Entry) → AllByRecursion (IsFound bundle run) history → ((other : ℕ) → times_in other (numbers_of history) ≤ 1) → times_in number (numbers_of history) ≡ 0 → run_at bundle number ≡ Some run → length history < entries_of bundle run
has_room bundle run number history all once lacks own =
    let numbers : List ℕ = numbers_of history in
    let one = own_counts run (run_at bundle number) own in
    let less = less_below (λ (other : ℕ). times_in other numbers) (λ (other : ℕ). of_run run (run_at bundle other)) number (length bundle.entries)
    (λ other. most_by_times bundle run other (times_in other numbers) history all refl (once other)) (omega arith) (number_inside bundle number run own) in
    let as_long = as_long (length bundle.entries) numbers (all_inside bundle run history all) in
    let as_many = as_many_numbers bundle run in
    let as_numbers : length numbers ≡ length history = length-map history (λ (entry : Entry). entry.number) in
    omega arith

-- and no history has more
pub at_most : (bundle : Bundle) (run : ℕ) (history : List Entry) → AllByRecursion (IsFound bundle run) history → ((other : ℕ) → times_in other (numbers_of history) ≤ 1) → length history ≤ entries_of bundle run
at_most bundle run history all once =
    let numbers : List ℕ = numbers_of history in
    let most = most_below (λ (other : ℕ). times_in other numbers) (λ (other : ℕ). of_run run (run_at bundle other)) (length bundle.entries) (λ other. most_by_times bundle run other (times_in other numbers) history all refl (once other)) in
    let as_long = as_long (length bundle.entries) numbers (all_inside bundle run history all) in
    let as_many = as_many_numbers bundle run in
    let as_numbers : length numbers ≡ length history = length-map history (λ (entry : Entry). entry.number) in
    omega arith

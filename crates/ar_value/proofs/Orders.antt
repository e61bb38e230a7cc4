-- Names and indices in order, and where one is among them.
use Rattle.std.proofs.Common.{◌≡◌, ℕ, zero, suc, ◌+◌, ◌<◌, ◌≤◌, Bool, true, false, List, [], ◌∷◌, ◌++◌, length, take, drop, get_or, Option, Some, None, option_map, Result, Ok, Err, ⊎_elim, refl, sym, ◌∙◌, ap, arith, nat_cmp}
use Rattle.std.specs.Prelude.{All, MatchResult, ◌==◌, if◌then◌else◌}
use Rattle.std.specs.Cmp.Lexicographic.{slice_cmp}
use Rattle.std.specs.List.{AllByRecursion}
use Rattle.std.specs.List.Sorted.{IsStrictlySortedBy, IsNonDecreasingBy, IsBinarySearchResult, IsSearchInRange}
use Rattle.std.specs.Ordering.{is_eq, is_lt, ordering_index, ordering_reverse}
use Rattle.std.specs.Result.{result_ok}
use Rattle.std.specs.Str.{bytes_eq}
use Rattle.std.specs.declared.cmp.Ordering.{Ordering}
use Rattle.std.specs.declared.cmp.Ordering.TheVariants.{Less, Equal, Greater}
use Rattle.std.specs.Cmp.{nat_cmp_is}
use Rattle.std.proofs.lemmas.Bool.{cases_lt}
use Rattle.std.proofs.lemmas.Bool.Decides.{Decides-eqb}
use Rattle.std.proofs.lemmas.Cmp.{nat_list_cmp_total}
use Rattle.std.proofs.lemmas.List.Sorted.{searchable_from_sorted, searched}
use Rattle.std.proofs.lemmas.Map.Keys.{Less-from_sorted, below_from_sorted, non_decreasing_from_sorted}
use Rattle.std.proofs.lemmas.Map.Text.{is_eq-slice_cmp}
use Rattle.std.proofs.lemmas.Slice.Eq.{bytes_eq-Decides}
use Rattle.ar_value.specs.Names.{Rise, index_named, index_of}

-- ---- lists in order

all_take : {X : Type 0} (P : X → Type 0) (n : ℕ) (xs : List X) → AllByRecursion P xs → AllByRecursion P (take n xs)
all_take P zero xs all = tt
all_take P (suc n) [] all = tt
all_take P (suc n) (x ∷ xs) all = (all.0, all_take P n xs all.1)

-- the first of a list in order are in order
pub sorted_take : {X : Type 0} (c : X → X → Ordering) (n : ℕ) (xs : List X) → IsStrictlySortedBy c xs → IsStrictlySortedBy c (take n xs)
unfolding IsStrictlySortedBy
sorted_take c zero xs sorted = tt
sorted_take c (suc n) [] sorted = tt
sorted_take c (suc n) (x ∷ xs) sorted = (all_take (λ y. c x y ≡ Less) n xs sorted.0, sorted_take c n xs sorted.1)

-- the last of a list in order are in order
pub sorted_drop : {X : Type 0} (c : X → X → Ordering) (n : ℕ) (xs : List X) → IsStrictlySortedBy c xs → IsStrictlySortedBy c (drop n xs)
unfolding IsStrictlySortedBy
sorted_drop c zero xs sorted = sorted
sorted_drop c (suc n) [] sorted = tt
sorted_drop c (suc n) (x ∷ xs) sorted = sorted_drop c n xs sorted.1

pub sorted_none : {X : Type 0} (c : X → X → Ordering) → IsStrictlySortedBy c []
unfolding IsStrictlySortedBy
sorted_none c = tt

all_push : {X : Type 0} (P : X → Type 0) (xs : List X) (y : X) → AllByRecursion P xs → P y → AllByRecursion P (xs ++ y ∷ [])
all_push P [] y all p = (p, tt)
all_push P (x ∷ xs) y all p = (all.0, all_push P xs y all.1 p)

-- a number above all is the last
pub sorted_push : (xs : List ℕ) (y : ℕ) → IsStrictlySortedBy nat_cmp xs → All (λ x. x < y) xs → IsStrictlySortedBy nat_cmp (xs ++ y ∷ [])
unfolding IsStrictlySortedBy
sorted_push [] y sorted below = (tt, tt)
sorted_push (x ∷ xs) y sorted below =
    let less : nat_cmp x y ≡ Less = sym (nat_cmp_is x y Less (below 0 0 (omega arith))) in
    (all_push (λ z. nat_cmp x z ≡ Less) xs y sorted.0 less, sorted_push xs y sorted.1 (λ k d within. below (suc k) d (omega arith)))

-- ---- where a name is

equal : (of name : List ℕ) → slice_cmp nat_cmp of name ≡ Equal → bytes_eq of name ≡ true
equal of name is = sym (is_eq-slice_cmp of name) ∙ ap is_eq is

unequal : (of name : List ℕ) → is_eq (slice_cmp nat_cmp of name) ≡ false → bytes_eq of name ≡ false
unequal of name apart = sym (is_eq-slice_cmp of name) ∙ apart

is_same : (of number : ℕ) → of ≡ number → (of == number) ≡ true
is_same of number is = (Decides-eqb of number).1 is

is_other : (of number : ℕ) → (of ≡ number → ⊥) → (of == number) ≡ false
is_other of number other = not_true (of == number) (λ same. other ((Decides-eqb of number).0 same))
  where
    not_true : (test : Bool) → (test ≡ true → ⊥) → test ≡ false
    not_true true differs = absurd (differs refl)
    not_true false differs = refl

found : (name : List ℕ) (names : List (List ℕ)) (i : ℕ) → Rise names → i < length names → ((d : List ℕ) → slice_cmp nat_cmp (get_or names i d) name ≡ Equal) → index_named name names ≡ Some i
unfolding IsStrictlySortedBy
found name [] i rise within is = absurd (omega arith)
found name (of ∷ names) zero rise within is = rw (equal of name (is [])) refl
found name (of ∷ names) (suc i) rise within is =
    let same : get_or names i [] ≡ name = (bytes_eq-Decides (get_or names i []) name).0 (equal (get_or names i []) name (is [])) in
    let less : slice_cmp nat_cmp of name ≡ Less = ap (slice_cmp nat_cmp of) (sym same) ∙ Less-from_sorted (slice_cmp nat_cmp) (of ∷ names) 0 (suc i) [] rise (omega arith) within in
    rw (unequal of name (ap is_eq less), found name names i rise.1 (omega arith) is) refl

nowhere : (name : List ℕ) (names : List (List ℕ)) → ((i : ℕ) → i < length names → is_eq (slice_cmp nat_cmp (get_or names i []) name) ≡ false) → index_named name names ≡ None
nowhere name [] apart = refl
nowhere name (of ∷ names) apart =
    rw (unequal of name (apart 0 (omega arith)), nowhere name names (λ i within. apart (suc i) (omega arith))) refl

within_next : (is : Bool) (found : Option ℕ) (n i : ℕ) → ((j : ℕ) → found ≡ Some j → j < n) → (if is then Some 0 else option_map suc found) ≡ Some i → i < suc n
within_next true found n i inner is = let first : 0 ≡ i = cc in omega (arith, first)
within_next false (Some j) n i inner is = let next : suc j ≡ i = cc in omega (arith, inner j refl, next)
within_next false None n i inner is = absurd (cc)

-- a name that is there has an index inside
pub index_within : (name : List ℕ) (names : List (List ℕ)) (i : ℕ) → index_named name names ≡ Some i → i < length names
index_within name [] i is = absurd (cc)
index_within name (of ∷ names) i is = within_next (bytes_eq of name) (index_named name names) (length names) i (index_within name names) is

not_back : (x y : List ℕ) → slice_cmp nat_cmp x y ≡ Less → is_lt (slice_cmp nat_cmp y x) ≡ false
not_back x y less = ap is_lt (nat_list_cmp_total.antisymm y x ∙ ap ordering_reverse less)

rise_searchable : (names : List (List ℕ)) (name : List ℕ) → Rise names → IsNonDecreasingBy (λ of. ordering_index (slice_cmp nat_cmp of name)) names
rise_searchable names name rise =
    searchable_from_sorted nat_list_cmp_total (λ of. of) names name
    (λ k d low within. not_back (get_or names k d) (get_or names (k + 1) d) (Less-from_sorted (slice_cmp nat_cmp) names k (k + 1) d rise (omega arith) within))

round_gap : (name : List ℕ) (names : List (List ℕ)) (i : ℕ) → ((k : ℕ) (d : List ℕ) → 0 ≤ k → k < i → slice_cmp nat_cmp (get_or names k d) name ≡ Less)
    → ((k : ℕ) (d : List ℕ) → i ≤ k → k < length names → slice_cmp nat_cmp (get_or names k d) name ≡ Greater) → (k : ℕ) → k < length names → is_eq (slice_cmp nat_cmp (get_or names k []) name) ≡ false
round_gap name names i below above k within = ⊎_elim (λ low. ap is_eq (below k [] (omega arith) low)) (λ high. ap is_eq (above k [] high within)) (cases_lt k i)

-- what a binary search among names returns
pub name_searched : (names : List (List ℕ)) (name : List ℕ) (answer : Result ℕ ℕ) → Rise names → IsSearchInRange answer (length names)
    → IsBinarySearchResult (λ of. slice_cmp nat_cmp of name) names answer → result_ok answer ≡ index_named name names
name_searched names name (Ok i) rise range result = sym (found name names i rise range result)
name_searched names name (Err i) rise range result =
    let gap = result (rise_searchable names name rise) in sym (nowhere name names (round_gap name names i gap.0 gap.1))

-- ---- where a number is

number_found : (number : ℕ) (numbers : List ℕ) (i : ℕ) → IsStrictlySortedBy nat_cmp numbers → i < length numbers → get_or numbers i 0 ≡ number → index_of number numbers ≡ Some i
unfolding IsStrictlySortedBy
number_found number [] i sorted within is = absurd (omega arith)
number_found number (of ∷ numbers) zero sorted within is = rw (is_same of number is) refl
number_found number (of ∷ numbers) (suc i) sorted within is =
    let less : of < get_or numbers i 0 = below_from_sorted (of ∷ numbers) 0 (suc i) 0 sorted (omega arith) within in
    rw (is_other of number (omega (arith, less, is)), number_found number numbers i sorted.1 (omega arith) is) refl

number_nowhere : (number : ℕ) (numbers : List ℕ) → ((i : ℕ) → i < length numbers → get_or numbers i 0 ≡ number → ⊥) → index_of number numbers ≡ None
number_nowhere number [] apart = refl
number_nowhere number (of ∷ numbers) apart =
    rw (is_other of number (apart 0 (omega arith)), number_nowhere number numbers (λ i within. apart (suc i) (omega arith))) refl

pub number_searched : (numbers : List ℕ) (number : ℕ) (answer : Result ℕ ℕ) → IsStrictlySortedBy nat_cmp numbers
    → IsBinarySearchResult (λ of. nat_cmp of number) numbers answer → result_ok answer ≡ index_of number numbers
number_searched numbers number answer sorted result = by answer (searched numbers number answer result (λ i j le within. non_decreasing_from_sorted numbers sorted i j 0 le within))
  where
    by : (answer : Result ℕ ℕ) → MatchResult answer (λ i. (i < length numbers) × (get_or numbers i 0 ≡ number)) (λ i. (i ≤ length numbers) × ((k : ℕ) → k < i → get_or numbers k 0 < number) × ((k : ℕ) → i ≤ k → k < length numbers → number < get_or numbers k 0))
        → result_ok answer ≡ index_of number numbers
    by (Ok i) at = sym (number_found number numbers i sorted at.0 at.1)
    by (Err i) at =
        sym (number_nowhere number numbers
        (λ k within same. ⊎_elim (λ low. absurd (omega (arith, at.1 k low, same))) (λ high. absurd (omega (arith, at.2 k high within, same))) (cases_lt k i)))

-- The numbers of a run below one: how many, in which order, and how often each of them.
use Rattle.std.proofs.Common.{◌≡◌, ◌≢◌, ◌<◌, ◌≤◌, ℕ, zero, suc, ◌==◌, Bool, true, false, if◌then◌else◌, List, [], ◌∷◌, ◌++◌, length, Option, Some, None, refl, sym, ◌∙◌, ap, subst, arith, append-nil, length-append}
use Rattle.std.specs.List.{AllByRecursion}
use Rattle.std.proofs.lemmas.Bool.Decides.{nat_tests}
use Rattle.ar_bundle.specs.Bundle.{Bundle, run_at}
use Rattle.ar_bundle.specs.Lawful.{Rise, times_in}
use Rattle.ar_bundle.proofs.HistoryLemmas.{all_push, times_by, times_push}
use Rattle.ar_bundle.specs.Growing.{below, where_own}

-- ---- one number more

own_by_test : (run number own : ℕ) (test : Bool) → (own == run) ≡ test → where_own run number (Some own) ≡ (if test then number ∷ [] else [])
own_by_test run number own test is = rw is refl

pub own_is : (bundle : Bundle) (run upto : ℕ) → run_at bundle upto ≡ Some run → below bundle run (suc upto) ≡ below bundle run upto ++ upto ∷ []
own_is bundle run upto is =
    let same : (run == run) ≡ true = grind (arith, nat_tests) in
    ap (λ own. below bundle run upto ++ where_own run upto own) is ∙ ap (λ numbers. below bundle run upto ++ numbers) (own_by_test run upto run true same)

pub other_is : (bundle : Bundle) (run upto own : ℕ) → run_at bundle upto ≡ Some own → own ≢ run → below bundle run (suc upto) ≡ below bundle run upto
other_is bundle run upto own is away =
    let unlike : (own == run) ≡ false = grind (arith, nat_tests) in
    ap (λ own. below bundle run upto ++ where_own run upto own) is ∙ (ap (λ numbers. below bundle run upto ++ numbers) (own_by_test run upto own false unlike) ∙ append-nil (below bundle run upto))

-- ---- how many

own_length : (run number : ℕ) (own : Option ℕ) → length (where_own run number own) ≤ 1
own_length run number None = omega arith
own_length run number (Some own) = by_test (own == run) where
  by_test : (test : Bool) → length (if test then number ∷ [] else []) ≤ 1
  by_test true = omega arith
  by_test false = omega arith

pub few : (bundle : Bundle) (run upto : ℕ) → length (below bundle run upto) ≤ upto
few bundle run zero = omega arith
few bundle run (suc upto) =
    let shorter = few bundle run upto in
    let one = own_length run upto (run_at bundle upto) in
    let both = length-append (below bundle run upto) (where_own run upto (run_at bundle upto)) in
    omega arith

-- ---- in which order

all_weaker : (low high : ℕ) (numbers : List ℕ) → low ≤ high → AllByRecursion (λ number. number < low) numbers → AllByRecursion (λ number. number < high) numbers
all_weaker low high [] below all = tt
all_weaker low high (number ∷ numbers) below all = let first : number < low = all.0 in (omega arith, all_weaker low high numbers below all.1)

all_below : (run upto number : ℕ) (own : Option ℕ) (numbers : List ℕ) → AllByRecursion (λ number. number < upto) numbers → AllByRecursion (λ number. number < suc upto) (numbers ++ where_own run upto own)
all_below run upto number None numbers all = subst (AllByRecursion (λ number. number < suc upto)) (sym (append-nil numbers)) (all_weaker upto (suc upto) numbers (omega arith) all)
all_below run upto number (Some own) numbers all = by_test (own == run) where
  by_test : (test : Bool) → AllByRecursion (λ number. number < suc upto) (numbers ++ (if test then upto ∷ [] else []))
  by_test true = all_push (λ number. number < suc upto) numbers upto (all_weaker upto (suc upto) numbers (omega arith) all) (omega arith)
  by_test false = subst (AllByRecursion (λ number. number < suc upto)) (sym (append-nil numbers)) (all_weaker upto (suc upto) numbers (omega arith) all)

pub are_below : (bundle : Bundle) (run upto : ℕ) → AllByRecursion (λ number. number < upto) (below bundle run upto)
are_below bundle run zero = tt
are_below bundle run (suc upto) = all_below run upto upto (run_at bundle upto) (below bundle run upto) (are_below bundle run upto)

rise_push : (numbers : List ℕ) (last : ℕ) → Rise numbers → AllByRecursion (λ number. number < last) numbers → Rise (numbers ++ last ∷ [])
rise_push [] last rise below = (tt, tt)
rise_push (first ∷ numbers) last rise below = (all_push (λ later. first < later) numbers last rise.0 below.0, rise_push numbers last rise.1 below.1)

rise_own : (run upto : ℕ) (own : Option ℕ) (numbers : List ℕ) → Rise numbers → AllByRecursion (λ number. number < upto) numbers → Rise (numbers ++ where_own run upto own)
rise_own run upto None numbers rise below = subst Rise (sym (append-nil numbers)) rise
rise_own run upto (Some own) numbers rise below = by_test (own == run) where
  by_test : (test : Bool) → Rise (numbers ++ (if test then upto ∷ [] else []))
  by_test true = rise_push numbers upto rise below
  by_test false = subst Rise (sym (append-nil numbers)) rise

pub rises : (bundle : Bundle) (run upto : ℕ) → Rise (below bundle run upto)
rises bundle run zero = tt
rises bundle run (suc upto) = rise_own run upto (run_at bundle upto) (below bundle run upto) (rises bundle run upto) (are_below bundle run upto)

-- ---- how often

-- none of them is the number
never : (number : ℕ) (numbers : List ℕ) → AllByRecursion (λ other. other ≢ number) numbers → times_in number numbers ≡ 0
never number [] all = refl
never number (first ∷ numbers) all = let away : first ≢ number = all.0 in let unlike : (first == number) ≡ false = grind (arith, nat_tests) in times_by number first numbers false unlike ∙ never number numbers all.1

all_unlike : (number upto : ℕ) (numbers : List ℕ) → upto ≤ number → AllByRecursion (λ other. other < upto) numbers → AllByRecursion (λ other. other ≢ number) numbers
all_unlike number upto [] below all = tt
all_unlike number upto (first ∷ numbers) below all = let small : first < upto = all.0 in ((λ same. absurd (omega arith)), all_unlike number upto numbers below all.1)

pub not_yet : (bundle : Bundle) (run upto number : ℕ) → upto ≤ number → times_in number (below bundle run upto) ≡ 0
not_yet bundle run upto number further = never number (below bundle run upto) (all_unlike number upto (below bundle run upto) further (are_below bundle run upto))

-- another number comes after
after_other : (number last : ℕ) (numbers : List ℕ) → last ≢ number → times_in number (numbers ++ last ∷ []) ≡ times_in number numbers
after_other number last numbers away =
    let none : times_in number (last ∷ []) ≡ 0 = never number (last ∷ []) (away, tt) in
    let pushed = times_push number last numbers in
    omega arith

-- the number itself comes after
after_own : (number last : ℕ) (numbers : List ℕ) → (last == number) ≡ true → times_in number numbers ≡ 0 → times_in number (numbers ++ last ∷ []) ≡ 1
after_own number last numbers test none =
    let one : times_in number (last ∷ []) ≡ 1 = times_by number last [] true test in
    let pushed = times_push number last numbers in
    omega arith

no_run_is : (bundle : Bundle) (run upto : ℕ) → run_at bundle upto ≡ None → below bundle run (suc upto) ≡ below bundle run upto
no_run_is bundle run upto none = ap (λ own. below bundle run upto ++ where_own run upto own) none ∙ append-nil (below bundle run upto)

-- a number of one run isn't another's
unlike : (bundle : Bundle) (run own upto number : ℕ) → run_at bundle number ≡ Some own → own ≢ run → run_at bundle upto ≡ Some run → upto ≢ number
unlike bundle run own upto number is away of same = let both : Some run ≡ Some own = sym of ∙ (ap (run_at bundle) same ∙ is) in away cc

step_by_own : (bundle : Bundle) (run upto number of : ℕ) (test : Bool) → run_at bundle upto ≡ Some of → (of == run) ≡ test → (run_at bundle upto ≡ Some run → upto ≢ number) → times_in number (below bundle run (suc upto)) ≡ times_in number (below bundle run upto)
step_by_own bundle run upto number of true there test apart =
    let same : of ≡ run = grind (arith, nat_tests) in
    let here : run_at bundle upto ≡ Some run = there ∙ ap Some same in
    ap (times_in number) (own_is bundle run upto here) ∙ after_other number upto (below bundle run upto) (apart here)
step_by_own bundle run upto number of false there test apart =
    let away : of ≢ run = grind (arith, nat_tests) in
    ap (times_in number) (other_is bundle run upto of there away)

step_by_run : (bundle : Bundle) (run upto number : ℕ) (of : Option ℕ) → run_at bundle upto ≡ of → (run_at bundle upto ≡ Some run → upto ≢ number) → times_in number (below bundle run (suc upto)) ≡ times_in number (below bundle run upto)
step_by_run bundle run upto number None there apart = ap (times_in number) (no_run_is bundle run upto there)
step_by_run bundle run upto number (Some of) there apart = step_by_own bundle run upto number of (of == run) there refl apart

-- a number that isn't this one, or isn't the run's, changes nothing
stays : (bundle : Bundle) (run upto number : ℕ) → (run_at bundle upto ≡ Some run → upto ≢ number) → times_in number (below bundle run (suc upto)) ≡ times_in number (below bundle run upto)
stays bundle run upto number apart = step_by_run bundle run upto number (run_at bundle upto) refl apart

-- a number of another run is never there
pub of_another : (bundle : Bundle) (run upto number own : ℕ) → run_at bundle number ≡ Some own → own ≢ run → times_in number (below bundle run upto) ≡ 0
of_another bundle run zero number own is away = refl
of_another bundle run (suc upto) number own is away = stays bundle run upto number (unlike bundle run own upto number is away) ∙ of_another bundle run upto number own is away

once_by_test : (bundle : Bundle) (run upto number : ℕ) (test : Bool) → (upto == number) ≡ test → run_at bundle number ≡ Some run → number < suc upto → (number < upto → times_in number (below bundle run upto) ≡ 1) → times_in number (below bundle run (suc upto)) ≡ 1
once_by_test bundle run upto number true test is small earlier =
    let same : upto ≡ number = grind (arith, nat_tests) in
    let here : run_at bundle upto ≡ Some run = ap (run_at bundle) same ∙ is in
    ap (times_in number) (own_is bundle run upto here) ∙ after_own number upto (below bundle run upto) test (not_yet bundle run upto number (omega arith))
once_by_test bundle run upto number false test is small earlier =
    let apart : upto ≢ number = grind (arith, nat_tests) in
    stays bundle run upto number (λ here. apart) ∙ earlier (omega arith)

-- a number of the run is there once
pub of_run : (bundle : Bundle) (run upto number : ℕ) → run_at bundle number ≡ Some run → number < upto → times_in number (below bundle run upto) ≡ 1
of_run bundle run zero number is small = absurd (omega arith)
of_run bundle run (suc upto) number is small = once_by_test bundle run upto number (upto == number) refl is small (of_run bundle run upto number is)

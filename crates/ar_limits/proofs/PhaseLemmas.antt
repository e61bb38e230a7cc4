-- The phases of a run's metrics as a list: which of them aren't complete, and what one new phase closes.
use Rattle.std.proofs.Common.{◌≡◌, ◌≢◌, ℕ, ◌+◌, ◌<◌, ◌≤◌, zero, suc, Bool, true, false, cond, not, ◌||◌, Some, None, List, [], ◌∷◌, map, find, length, refl, ap, ◌∙◌, arith, get_or, inl, inr}
use Rattle.std.proofs.Math.ListN.{set}
use Rattle.std.specs.List.{list_any, list_all}
use Rattle.std.proofs.lemmas.Bool.{or_parts, cases_Bool}
use Rattle.std.proofs.lemmas.List.{get_or-set_same, length-set}
use Rattle.std.proofs.lemmas.List.Sums.{sum_by-set, sum_by-cons, get_or-le-sum_by}
use Rattle.ar_limits.specs.declared.phase.Phase.{Phase}
use Rattle.ar_limits.specs.declared.phase.Phase.TheVariants as phase
use Rattle.ar_limits.specs.Metric.{is_complete, is_unsuccessful, succeeded}
use Rattle.ar_limits.specs.Run.{closed_by_metrics}
use Rattle.ar_limits.specs.Private.Kept.{incomplete_count}

pub list_any-set : {A : Type 0} (test : A → Bool) (xs : List A) (i : ℕ) (x : A) → i < length xs
    → list_any test xs ≡ false → list_any test (set xs i x) ≡ test x
list_any-set test [] i x within none = absurd (omega arith)
list_any-set test (y ∷ ys) zero x within none = rw ((or_parts (test y) (list_any test ys) none).1) (or_no (test x)) where
  or_no : (b : Bool) → (b || false) ≡ b
  or_no true = refl
  or_no false = refl
list_any-set test (y ∷ ys) (suc i) x within none =
    let parts = or_parts (test y) (list_any test ys) none in
    rw (parts.0) (list_any-set test ys i x (omega arith) parts.1)

pub find-set : {A : Type 0} (test : A → Bool) (xs : List A) (i : ℕ) (x : A) → i < length xs
    → list_any test xs ≡ false → test x ≡ true → find test (set xs i x) ≡ Some x
find-set test [] i x within none passes = absurd (omega arith)
find-set test (y ∷ ys) zero x within none passes = rw passes refl
find-set test (y ∷ ys) (suc i) x within none passes =
    let parts = or_parts (test y) (list_any test ys) none in
    rw (parts.0) (find-set test ys i x (omega arith) parts.1 passes)

-- 1 for a phase that isn't complete, else 0
abbrev pub weight : Phase → ℕ
weight phase = cond (not (is_complete phase)) 1 0

pub incomplete_count-cons : (q : Phase) (rest : List Phase)
    → incomplete_count (q ∷ rest) ≡ weight q + incomplete_count rest
incomplete_count-cons q rest = sum_by-cons weight q rest

-- where no metric is left and none is unsuccessful, all have succeeded
all_succeeded : (phases : List Phase) → list_any is_unsuccessful phases ≡ false → incomplete_count phases ≡ 0
    → list_all succeeded phases ≡ true
all_succeeded [] none last = refl
all_succeeded (phase.Pending ∷ rest) none last = absurd (omega (arith, incomplete_count-cons phase.Pending rest))
all_succeeded (phase.Running ∷ rest) none last = absurd (omega (arith, incomplete_count-cons phase.Running rest))
all_succeeded (phase.Successful ∷ rest) none last = all_succeeded rest none (omega (arith, incomplete_count-cons phase.Successful rest))
all_succeeded (phase.Failed ∷ rest) none last = cc
all_succeeded (phase.Error ∷ rest) none last = cc
all_succeeded (phase.Inconclusive ∷ rest) none last = cc

none_left : (phases : List Phase) → list_all succeeded phases ≡ true → incomplete_count phases ≡ 0
none_left [] all = refl
none_left (phase.Pending ∷ rest) all = cc
none_left (phase.Running ∷ rest) all = cc
none_left (phase.Successful ∷ rest) all = omega (arith, incomplete_count-cons phase.Successful rest, none_left rest all)
none_left (phase.Failed ∷ rest) all = cc
none_left (phase.Error ∷ rest) all = cc
none_left (phase.Inconclusive ∷ rest) all = cc

-- the metrics that aren't complete, once one of them has a new phase
pub incomplete_count-set : (phases : List Phase) (i : ℕ) (q d : Phase) → i < length phases
    → is_complete (get_or phases i d) ≡ false
    → incomplete_count (set phases i q) + 1 ≡ incomplete_count phases + cond (not (is_complete q)) 1 0
incomplete_count-set phases i q d within incomplete =
    let one : weight (get_or phases i d) ≡ 1 = rw incomplete refl in
    omega (arith, sum_by-set weight phases i q d within, one)

-- one that isn't complete is counted
pub incomplete_count-some : (phases : List Phase) (i : ℕ) (d : Phase) → i < length phases
    → is_complete (get_or phases i d) ≡ false → 1 ≤ incomplete_count phases
incomplete_count-some phases i d within incomplete =
    let one : weight (get_or phases i d) ≡ 1 = rw incomplete refl in
    omega (arith, get_or-le-sum_by weight phases i d within, one)

-- ---- What a new phase closes

pub closed_by_metrics-unsuccessful : (phases : List Phase) (i : ℕ) (q : Phase) → i < length phases
    → list_any is_unsuccessful phases ≡ false → is_unsuccessful q ≡ true
    → closed_by_metrics (set phases i q) ≡ Some q
closed_by_metrics-unsuccessful phases i q within none unsuccessful =
    rw (list_any-set is_unsuccessful phases i q within none, unsuccessful) (find-set is_unsuccessful phases i q within none unsuccessful)

only_successful : (q : Phase) → is_unsuccessful q ≡ false → is_complete q ≡ true → phase.Successful ≡ q
only_successful phase.Pending fine complete = cc
only_successful phase.Running fine complete = cc
only_successful phase.Successful fine complete = refl
only_successful phase.Failed fine complete = cc
only_successful phase.Error fine complete = cc
only_successful phase.Inconclusive fine complete = cc

pub closed_by_metrics-last : (phases : List Phase) (i : ℕ) (q : Phase) → i < length phases
    → list_any is_unsuccessful phases ≡ false → is_unsuccessful q ≡ false
    → incomplete_count (set phases i q) ≡ 0 → closed_by_metrics (set phases i q) ≡ Some q
closed_by_metrics-last phases i q within none fine last =
    let still = list_any-set is_unsuccessful phases i q within none ∙ fine in
    elim (cases_Bool (is_complete q)) [
      | inl complete ↦ rw (still, all_succeeded (set phases i q) still last) (ap Some (only_successful q fine complete))
      | inr incomplete ↦
          let here : get_or (set phases i q) i q ≡ q = get_or-set_same phases i q q within in
          let there : i < length (set phases i q) = omega (arith, length-set phases i q) in
          absurd (omega (arith, incomplete_count-some (set phases i q) i q there (rw here incomplete), last))
    ]

pub closed_by_metrics-none : (phases : List Phase) (i : ℕ) (q : Phase) → i < length phases
    → list_any is_unsuccessful phases ≡ false → is_unsuccessful q ≡ false
    → incomplete_count (set phases i q) ≢ 0 → closed_by_metrics (set phases i q) ≡ None
closed_by_metrics-none phases i q within none fine left =
    let still = list_any-set is_unsuccessful phases i q within none ∙ fine in
    elim (cases_Bool (list_all succeeded (set phases i q))) [
      | inl all ↦ absurd (left (none_left (set phases i q) all))
      | inr some ↦ rw (still, some) refl
    ]

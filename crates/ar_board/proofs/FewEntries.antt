-- A cell has no more entries than the bundle has of the runs under its lock.
use Rattle.std.proofs.Common.{◌≡◌, ◌≢◌, ◌<◌, ◌≤◌, ℕ, zero, suc, ◌+◌, ◌==◌, Bool, true, false, if◌then◌else◌, List, [], ◌∷◌, length, Some, refl, sym, ◌∙◌, ap, subst, arith}
use Rattle.std.specs.Prelude.{cond, slice_get}
use Rattle.std.specs.List.{count_by, sum_by}
use Rattle.std.proofs.lemmas.Bool.Decides.{nat_tests}
use Rattle.std.proofs.lemmas.List.Sums.{sum_by-cons}
use Rattle.ar_bundle.specs.Sound.{count_of, entries_of}
use Rattle.ar_bundle.specs.Bundle.{Bundle}
use Rattle.ar_bundle.specs.declared.bundle.EventPart.{EventPart}
use Rattle.ar_bundle.specs.declared.bundle.RunPart.{RunPart}
use Rattle.ar_board.specs.Locks.{lock_of}
use Rattle.ar_board.specs.Cell.{Cell, IsCell, IsKept, KeptRun, entries_under}
use Rattle.ar_bundle.proofs.Room.{at_most}

-- ---- sums over runs

abbrev sum_from : (ℕ → ℕ) → (from runs : ℕ) → ℕ
sum_from f from zero = 0
sum_from f from (suc runs) = f from + sum_from f (suc from) runs

none_from : (f : ℕ → ℕ) (from runs : ℕ) → ((run : ℕ) → f run ≡ 0) → sum_from f from runs ≡ 0
none_from f from zero none = refl
none_from f from (suc runs) none = let here = none from in let rest = none_from f (suc from) runs none in omega arith

both_from : (f g h : ℕ → ℕ) (from runs : ℕ) → ((run : ℕ) → h run ≡ f run + g run) → sum_from h from runs ≡ sum_from f from runs + sum_from g from runs
both_from f g h from zero both = refl
both_from f g h from (suc runs) both = let here = both from in let rest = both_from f g h (suc from) runs both in omega arith

-- one run alone counts
one_from : (f : ℕ → ℕ) (own from runs : ℕ) → ((run : ℕ) → run ≢ own → f run ≡ 0) → sum_from f from runs ≤ f own
one_from f own from zero others = omega arith
one_from f own from (suc runs) others = by_test (own == from) refl (one_from f own (suc from) runs others) where
  past : (from runs : ℕ) → own < from → sum_from f from runs ≡ 0
  past from zero beyond = refl
  past from (suc runs) beyond = let here = others from (λ same. absurd (omega arith)) in let rest = past (suc from) runs (omega arith) in omega arith

  by_test : (test : Bool) → (own == from) ≡ test → sum_from f (suc from) runs ≤ f own → f from + sum_from f (suc from) runs ≤ f own
  by_test true is rest = let same : own ≡ from = grind (arith, nat_tests) in let here : f from ≡ f own = ap f (sym same) in let later = past (suc from) runs (omega arith) in omega arith
  by_test false is rest = let away : own ≢ from = grind (arith, nat_tests) in let here = others from (λ same. away (sym same)) in omega arith

-- ---- entries of the runs that are under a lock

abbrev weight : Bool → ℕ → ℕ
weight under entries = if under then entries else 0

weight_both : (under : Bool) (one more : ℕ) → weight under (one + more) ≡ weight under one + weight under more
weight_both true one more = refl
weight_both false one more = refl

weight_none : (under : Bool) → weight under 0 ≡ 0
weight_none true = refl
weight_none false = refl

weight_one : (under : Bool) → weight under 1 ≡ cond under 1 0
weight_one true = refl
weight_one false = refl

abbrev one_of : EventPart → (run : ℕ) → ℕ
one_of entry run = cond (entry.run == run) 1 0

one_away : (entry : EventPart) (run : ℕ) → run ≢ entry.run → one_of entry run ≡ 0
one_away entry run away = by_test (entry.run == run) refl where
  by_test : (test : Bool) → (entry.run == run) ≡ test → one_of entry run ≡ 0
  by_test true is = absurd (away (let same : entry.run ≡ run = grind (arith, nat_tests) in sym same))
  by_test false is = rw is refl

one_here : (entry : EventPart) → one_of entry entry.run ≡ 1
one_here entry = let is : (entry.run == entry.run) ≡ true = grind (arith, nat_tests) in rw is refl

-- those of the runs, a run at a time, are no more than those of the bundle, an entry at a time
counted : (under : ℕ → Bool) (runs : ℕ) (entries : List EventPart) → sum_from (λ run. weight (under run) (count_of entries run)) 0 runs ≤ count_by (λ entry. under entry.run) entries
counted under runs [] = let none = none_from (λ run. weight (under run) 0) 0 runs (λ run. weight_none (under run)) in omega arith
counted under runs (entry ∷ entries) =
    let rest = counted under runs entries in
    let all = both_from (λ run. weight (under run) (one_of entry run)) (λ run. weight (under run) (count_of entries run)) (λ run. weight (under run) (count_of (entry ∷ entries) run)) 0 runs
    (λ run. ap (weight (under run)) (sum_by-cons (λ (entry : EventPart). cond (entry.run == run) 1 0) entry entries) ∙ weight_both (under run) (one_of entry run) (count_of entries run)) in
    let one = one_from (λ run. weight (under run) (one_of entry run)) entry.run 0 runs (λ run away. ap (weight (under run)) (one_away entry run away) ∙ weight_none (under run)) in
    let here : weight (under entry.run) (one_of entry entry.run) ≡ cond (under entry.run) 1 0 = ap (weight (under entry.run)) (one_here entry) ∙ weight_one (under entry.run) in
    let first = sum_by-cons (λ (entry : EventPart). cond (under entry.run) 1 0) entry entries in
    omega arith

-- ---- entries of a cell

kept_most : (bundle : Bundle) (workers lock run : ℕ) (part : RunPart) (kept : KeptRun) → IsKept bundle workers lock run part.limits kept → length kept.history ≤ weight (lock_of run == lock) (entries_of bundle run)
kept_most bundle workers lock run part kept is = by_test (lock_of run == lock) refl where
  by_test : (test : Bool) → (lock_of run == lock) ≡ test → length kept.history ≤ weight test (entries_of bundle run)
  by_test true same = at_most bundle run kept.history is.history.found is.once
  by_test false apart =
      let away : lock_of run ≢ lock = grind (arith, nat_tests) in
      let none = ap length (is.own away) in
      omega arith

all_most : (bundle : Bundle) (workers lock from : ℕ) (parts : List RunPart) (kept : List KeptRun) → length kept ≡ length parts
    → ((run : ℕ) (part : RunPart) (own : KeptRun) → slice_get parts run ≡ Some part → slice_get kept run ≡ Some own → IsKept bundle workers lock (from + run) part.limits own)
    → sum_by (λ kept. length kept.history) kept ≤ sum_from (λ run. weight (lock_of run == lock) (entries_of bundle run)) from (length parts)
all_most bundle workers lock from [] [] many each = omega arith
all_most bundle workers lock from [] (own ∷ kept) many each = absurd (omega arith)
all_most bundle workers lock from (part ∷ parts) [] many each = absurd (omega arith)
all_most bundle workers lock from (part ∷ parts) (own ∷ kept) many each =
    let at_first : from + zero ≡ from = omega arith in
    let here = kept_most bundle workers lock from part own (subst (λ (at : ℕ). IsKept bundle workers lock at part.limits own) at_first (each zero part own refl refl)) in
    let rest = all_most bundle workers lock (suc from) parts kept (omega arith) (λ run part own there kept_there.
    let next : from + suc run ≡ suc from + run = omega arith in
    subst (λ (at : ℕ). IsKept bundle workers lock at part.limits own) next (each (suc run) part own there kept_there)) in
    let first = sum_by-cons (λ (kept : KeptRun). length kept.history) own kept in
    omega arith

-- no more entries in a cell than there are of runs under its lock
pub few_there : (bundle : Bundle) (workers lock : ℕ) (cell : Cell) → IsCell bundle workers lock cell → cell.total ≤ entries_under bundle lock
few_there bundle workers lock cell is =
    let most = all_most bundle workers lock 0 bundle.runs cell.runs is.as_many (λ run part own there kept_there.
    let here : run ≡ 0 + run = omega arith in
    subst (λ (at : ℕ). IsKept bundle workers lock at part.limits own) here (is.each run part own there kept_there)) in
    let all = counted (λ run. lock_of run == lock) (length bundle.runs) bundle.entries in
    let total = is.counted in
    omega arith

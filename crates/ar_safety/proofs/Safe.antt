-- Code that the verifier accepts runs safely, within its budget.
use Rattle.std.specs.Prelude.{slice_get}
use Rattle.std.proofs.Common.{◌≡◌, ◌≤◌, ℕ, zero, suc, ◌+◌, true, List, [], ◌∷◌, length, Some, sym, subst, arith}
use Rattle.std.specs.List.{AllByRecursion}
use Rattle.std.proofs.lemmas.List.Elements.{recursion_from_All}
use Rattle.ar_value.specs.Fits.{fits}
use Rattle.ar_value.specs.Shape.{Shape}
use Rattle.ar_value.specs.Value.{Value}
use Rattle.ar_value.specs.Limits.{most_operands}
use Rattle.ar_op.specs.Code.{Code, Inside, IsCode}
use Rattle.ar_safety.specs.Arrivals.{Sent, deepest, height, sent}
use Rattle.ar_safety.specs.Safety.{IsSafe}
use Rattle.ar_safety.specs.Verdict.{IsVerified}
use Rattle.ar_safety.proofs.Arriving.{all_more}
use Rattle.ar_safety.proofs.Costliest.{budget_is_due, due, prices}
use Rattle.ar_safety.proofs.Reached.{clean, first_inside}
use Rattle.ar_safety.proofs.Passing.{all_hold}
use Rattle.ar_safety.proofs.Runs.{all_below, runs_safely}

all_nth : {A : Type 0} (P : A → Type 0) (xs : List A) (n : ℕ) (x : A) → AllByRecursion P xs → slice_get xs n ≡ Some x → P x
all_nth P [] n x all there = absurd cc
all_nth P (first ∷ xs) zero x all there = let same : first ≡ x = cc in subst P same all.0
all_nth P (first ∷ xs) (suc n) x all there = all_nth P xs n x all.1 there

pub verified_is_safe : (code : Code) (shape : Shape) (budget depth : ℕ) (value : Value) → IsCode code → IsVerified code shape budget depth → fits value shape ≡ true → IsSafe code value budget depth
verified_is_safe code shape budget depth value is_code verified fit =
    let found_clean = clean code shape verified.sents verified.passes in
    let inside = recursion_from_All (Inside (length code.texts) (length code.names)) code.ops is_code.inside in
    let safe = runs_safely code shape verified.sents found_clean (λ index op there. all_nth (Inside (length code.texts) (length code.names)) code.ops index op inside there) value fit (due code shape verified.sents found_clean)
    (prices code shape verified.sents found_clean) in
    let same = budget_is_due code shape verified.sents found_clean budget (first_inside code shape verified.sents found_clean) verified.costliest in
    subst (λ budget. IsSafe code value budget depth) same (subst (λ depth. IsSafe code value (due code shape verified.sents found_clean 0) depth) (sym verified.deepest) safe)

-- ---- how many operands there are

deepest_by : (most : ℕ) (sents : List Sent) → AllByRecursion (λ one. height one.operands ≤ most) sents → deepest sents ≤ most
deepest_by most [] all = omega arith
deepest_by most (one ∷ others) all = let rest = deepest_by most others all.1 in let first = all.0 in omega arith

pub few_operands : (code : Code) (shape : Shape) (budget depth : ℕ) → IsVerified code shape budget depth → depth ≤ most_operands
few_operands code shape budget depth verified =
    let is = clean code shape verified.sents verified.passes in
    let low = all_hold code shape code.ops (λ one. height one.operands ≤ most_operands) verified.sents
    (λ index op had more before there came arrive sends all. all_more (λ one. height one.operands ≤ deepest more) (λ one. height one.operands ≤ most_operands) more (λ one h. let few = sends.shallow in omega arith) (all_below more))
    0 code.ops (sent 0 [] [] ∷ []) (λ n op there. let start : n + 0 ≡ n = omega arith in rw start there) is.paired is.all (omega arith, tt) in
    let below = deepest_by most_operands verified.sents low in
    let depth_is = verified.deepest in
    omega arith

-- That code has one verdict for a shape.
use Rattle.std.proofs.Common.{◌≡◌, ℕ, suc, ◌-◌, Bool, true, false, List, [], ◌∷◌, ◌++◌, length, Option, Some, None, Result, Ok, Err, refl, sym, subst, inl, inr, ◌∙◌, arith}
use Rattle.std.specs.Prelude.{◌⊎◌, if◌then◌else◌, slice_get}
use Rattle.std.proofs.lemmas.Bool.Decides.{leb_tells}
use Rattle.ar_value.specs.Answer.{◌>>=◌}
use Rattle.ar_value.specs.Shape.{Shape}
use Rattle.ar_op.specs.Code.{Code}
use Rattle.ar_op.specs.declared.op.Op.{Op}
use Rattle.ar_safety.specs.Arrivals.{Sent, arrived, at_index, deepest, sends, sent, sent_on, sent_to}
use Rattle.ar_safety.specs.Budget.{IsBudget, Way}
use Rattle.ar_safety.specs.Indices.{Pass, all_pass, fault_or, has_ops, is_return, names_well, nests_well, indices_pass}
use Rattle.ar_safety.specs.Verdict.{IsFault, IsTooExpensive, IsVerified, passed}
use Rattle.ar_safety.specs.Bounds.{greatest_budget}
use Rattle.ar_safety.specs.declared.error.Cause.{Cause}
use Rattle.ar_safety.specs.declared.error.Cause.TheVariants.{Fault, OutOfMemory}
use Rattle.ar_safety.specs.declared.error.Reason.{Reason}
use Rattle.ar_safety.specs.declared.error.Reason.TheVariants.{BudgetTooLarge, NoReturn}
use Rattle.ar_safety.proofs.Costliest.{due, due_is}
use Rattle.ar_safety.proofs.Reached.{clean, first_inside}

-- ---- what is defined is never out of memory

abbrev IsFree : {A : Type 0} → Result A Cause → Type 0
IsFree answer = answer ≡ Err OutOfMemory → ⊥

both_free : {A B : Type 0} (m : Result A Cause) (f : A → Result B Cause) → IsFree m → ((x : A) → IsFree (f x)) → IsFree (m >>= f)
both_free (Ok x) f first more = more x
both_free (Err cause) f first more = λ same. first cc

ops_free : (ops : List Op) → IsFree (has_ops ops)
ops_free [] = λ same. cc
ops_free (op ∷ ops) = λ same. cc

found_free : (index : ℕ) (fault : Option Reason) (later : Result (Unit {0}) Cause) → IsFree later → IsFree (fault_or index fault later)
found_free index None later free = free
found_free index (Some reason) later free = λ same. cc

pass_free : (pass : Pass) (index : ℕ) (ops : List Op) → IsFree (all_pass pass index ops)
pass_free pass index [] = λ same. cc
pass_free pass index (op ∷ ops) = found_free index (pass index op) (all_pass pass (suc index) ops) (pass_free pass (suc index) ops)

abbrev answer_by : Bool → Cause → Result (Unit {0}) Cause
answer_by test cause = if test then Ok tt else Err cause

test_free : (test : Bool) (index : ℕ) (reason : Reason) → IsFree (answer_by test (Fault index reason))
test_free true index reason = λ same. cc
test_free false index reason = λ same. cc

indices_free : (ops : List Op) → IsFree (indices_pass ops)
indices_free ops =
    both_free (has_ops ops) _ (ops_free ops) (λ _. both_free (all_pass (names_well ops) 0 ops) _ (pass_free (names_well ops) 0 ops) (λ _. both_free (all_pass (nests_well ops) 0 ops) _ (pass_free (nests_well ops) 0 ops)
    (λ _. test_free (is_return (slice_get ops (length ops - 1))) (length ops - 1) NoReturn)))

placed_free : {A : Type 0} (index : ℕ) (answer : Result A Reason) → IsFree (at_index index answer)
placed_free index (Ok x) = λ same. cc
placed_free index (Err reason) = λ same. cc

sent_free : (code : Code) (shape : Shape) (index : ℕ) (ops : List Op) (before : List Sent) → IsFree (sent_on code shape index ops before)
sent_free code shape index [] before = λ same. cc
sent_free code shape index (op ∷ ops) before =
    both_free (at_index index (arrived (sent_to index before) >>= sends code shape index op)) _ (placed_free index (arrived (sent_to index before) >>= sends code shape index op)) (λ more. sent_free code shape (suc index) ops (before ++ more))

passed_free : (code : Code) (shape : Shape) → IsFree (passed code shape)
passed_free code shape = both_free (indices_pass code.ops) _ (indices_free code.ops) (λ _. sent_free code shape 0 code.ops (sent 0 [] [] ∷ []))

-- ---- some verdict

abbrev Verdict : Code → Shape → Type 0
Verdict code shape = ((budget : ℕ) × ((depth : ℕ) × IsVerified code shape budget depth)) ⊎ ((index : ℕ) × ((reason : Reason) × IsFault code shape index reason))

verdict_of : (code : Code) (shape : Shape) (answer : Result (List Sent) Cause) → passed code shape ≡ answer → Verdict code shape
verdict_of code shape (Ok sents) passes =
    let is = clean code shape sents passes in
    let first = due_is code shape sents is 0 (first_inside code shape sents is) in
    elim (leb_tells (due code shape sents is 0) greatest_budget) [
      | inl w ↦ inl (due code shape sents is 0, (deepest sents, record { sents = sents; passes = passes; costliest = first; payable = w.1; deepest = refl }))
      | inr w ↦ inr (0, (BudgetTooLarge, inr (refl, refl, record { sents = sents; passes = passes; cost = due code shape sents is 0; way = first.way; too_expensive = w.1 })))
    ]
verdict_of code shape (Err (Fault index reason)) passes = inr (index, (reason, inl passes))
verdict_of code shape (Err OutOfMemory) passes = absurd (passed_free code shape passes)

pub some_verdict : (code : Code) (shape : Shape) → ((budget : ℕ) × ((depth : ℕ) × IsVerified code shape budget depth)) ⊎ ((index : ℕ) × ((reason : Reason) × IsFault code shape index reason))
some_verdict code shape = verdict_of code shape (passed code shape) refl

-- ---- no other one

too_expensive : (code : Code) (shape : Shape) (budget depth : ℕ) → IsVerified code shape budget depth → IsTooExpensive code shape → ⊥
too_expensive code shape budget depth verified expensive =
    let passes = verified.passes in
    let also = expensive.passes in
    let same : expensive.sents ≡ verified.sents = cc in
    let most = verified.costliest.costliest expensive.cost (subst (λ sents. Way code.ops sents 0 expensive.cost) same expensive.way) in
    let payable = verified.payable in
    let more = expensive.too_expensive in
    omega arith

pub one_verdict : (code : Code) (shape : Shape) (budget depth index : ℕ) (reason : Reason) → IsVerified code shape budget depth → IsFault code shape index reason → ⊥
one_verdict code shape budget depth index reason verified (inl faulty) = let passes = verified.passes in cc
one_verdict code shape budget depth index reason verified (inr expensive) = too_expensive code shape budget depth verified expensive.2

pub same_bounds : (code : Code) (shape : Shape) (budget depth other_budget other_depth : ℕ) → IsVerified code shape budget depth → IsVerified code shape other_budget other_depth → (budget ≡ other_budget) × (depth ≡ other_depth)
same_bounds code shape budget depth other_budget other_depth one other =
    let passes = one.passes in
    let also = other.passes in
    let same : one.sents ≡ other.sents = cc in
    let costliest = subst (λ sents. IsBudget code.ops sents budget) same one.costliest in
    let more = other.costliest.costliest budget costliest.way in
    let less = costliest.costliest other_budget other.costliest.way in
    let deep = one.deepest in
    let deep_too = other.deepest in
    (omega arith, cc)

pub same_fault : (code : Code) (shape : Shape) (index other_index : ℕ) (reason other_reason : Reason) → IsFault code shape index reason → IsFault code shape other_index other_reason → (index ≡ other_index) × (reason ≡ other_reason)
same_fault code shape index other_index reason other_reason (inl one) (inl other) = (cc, cc)
same_fault code shape index other_index reason other_reason (inl one) (inr expensive) = let passes = expensive.2.passes in absurd cc
same_fault code shape index other_index reason other_reason (inr expensive) (inl other) = let passes = expensive.2.passes in absurd cc
same_fault code shape index other_index reason other_reason (inr one) (inr other) = (one.0 ∙ sym other.0, one.1 ∙ sym other.1)

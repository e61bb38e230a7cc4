-- What the verifier's passes found is the verdict.
use Rattle.std.proofs.Common.{◌≡◌, ◌<◌, ◌≤◌, ℕ, Bool, true, false, length, Result, Ok, Err, refl, subst, sym, inr, arith}
use Rattle.std.proofs.lemmas.Bool.Decides.{nat_tests}
use Rattle.std.specs.Prelude.{IfErr, IfOk, if◌then◌else◌, nat_le}
use Rattle.ar_value.specs.Shape.{Shape}
use Rattle.ar_op.specs.Code.{Code}
use Rattle.ar_safety.specs.Budget.{IsBudget}
use Rattle.ar_safety.specs.Indices.{indices_pass}
use Rattle.ar_safety.specs.Verdict.{IsFault, IsVerified, passed}
use Rattle.ar_safety.specs.Bounds.{greatest_budget}
use Rattle.ar_safety.specs.declared.error.Reason.TheVariants.{BudgetTooLarge}
use Rattle.ar_verify.specs.Private.Costs.{AreMost, HasPassed, IsCost}
use Rattle.ar_verify.specs.Private.Table.{Summary, summed_up}
use Rattle.ar_verify.proofs.Known.{Known, known}

module _ (code : Code) (shape : Shape) (found : Summary) (indices : indices_pass code.ops ≡ Ok tt) (summed : summed_up code shape ≡ Ok found) where
  is_known : Known code shape found
  is_known = known code shape found summed

  passes : passed code shape ≡ Ok is_known.sents
  passes = rw indices is_known.all

  are_most : AreMost code is_known.sents found.most_items
  are_most index inside = is_known.most_items index 0 inside

  pub has_passed : HasPassed code
  has_passed = (shape, (is_known.sents, passes))

  pub so_many : length found.most_items ≡ length code.ops
  so_many = is_known.long

  -- what costs at most the greatest budget costs what the number says that represents it
  pub is_verified : (number : ℕ) → IsCost code found.most_items 0 number → nat_le number greatest_budget ≡ true → IsVerified code shape number found.depth
  is_verified number is_cost paid =
      let payable : number ≤ greatest_budget = grind (arith, nat_tests) in
      let capped = is_cost shape is_known.sents passes are_most in
      let number_is = capped.is in
      let same : capped.cost ≡ number = omega arith in
      record { sents = is_known.sents; passes = passes; costliest = subst (IsBudget code.ops is_known.sents) same capped.costliest; payable = payable; deepest = is_known.depth }

  pub is_too_expensive : (number : ℕ) → IsCost code found.most_items 0 number → nat_le number greatest_budget ≡ false → IsFault code shape 0 BudgetTooLarge
  is_too_expensive number is_cost unpaid =
      let expensive : greatest_budget < number = grind (arith, nat_tests) in
      let capped = is_cost shape is_known.sents passes are_most in
      let number_is = capped.is in
      inr (refl, refl, record { sents = is_known.sents; passes = passes; cost = capped.cost; way = capped.costliest.way; too_expensive = omega arith })

-- what a test decides, as either answer has it
pub by_test : {B C : Type 0} (test : Bool) (x : B) (c : C) (result : Result B C) (P : B → Type 0) (Q : C → Type 0) → result ≡ (if test then Ok x else Err c) → (test ≡ true → P x) → (test ≡ false → Q c)
    → IfOk result P × IfErr result Q
by_test true x c result P Q is good bad = (subst (λ r. IfOk r P) (sym is) (good refl), subst (λ r. IfErr r Q) (sym is) tt)
by_test false x c result P Q is good bad = (subst (λ r. IfOk r P) (sym is) tt, subst (λ r. IfErr r Q) (sym is) (bad refl))

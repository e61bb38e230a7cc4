-- A pass over operations one after the other: what it finds is at the first index that is left, or after it.
use Rattle.std.proofs.Common.{◌≡◌, ℕ, suc, ◌+◌, ◌<◌, ◌≤◌, List, ◌∷◌, length, drop, Some, None, Result, Ok, Err, sym, ap, ◌∙◌, add-one, drop-cons}
use Rattle.std.specs.Prelude.{slice_index_or}
use Rattle.std.proofs.Math.ListN.{drop_of_length-le}
use Rattle.ar_op.specs.declared.op.Op.{Op}
use Rattle.ar_safety.specs.Indices.{Pass, all_pass, fault_or}
use Rattle.ar_safety.specs.declared.error.Cause.{Cause}
use Rattle.ar_safety.specs.declared.error.Cause.TheVariants.{Fault}
use Rattle.ar_safety.specs.declared.error.Reason.{Reason}

module _ (pass : Pass) (ops : List Op) (whole : Result (Unit {0}) Cause) where
  first_left : (i : ℕ) (op : Op) → i < length ops → op ≡ slice_index_or ops i op → all_pass pass i (drop i ops) ≡ fault_or i (pass i op) (all_pass pass (suc i) (drop (suc i) ops))
  first_left i op within is = ap (all_pass pass i) (drop-cons ops i op within ∙ ap (λ first. first ∷ drop (suc i) ops) (sym is))

  pub finds : (i : ℕ) (op : Op) (reason : Reason) → i < length ops → op ≡ slice_index_or ops i op → Some reason ≡ pass i op → all_pass pass i (drop i ops) ≡ whole → Err (Fault i reason) ≡ whole
  finds i op reason within is at left = ap (λ fault. fault_or i fault (all_pass pass (suc i) (drop (suc i) ops))) at ∙ sym (first_left i op within is) ∙ left

  pub continues : (i : ℕ) (op : Op) → i < length ops → op ≡ slice_index_or ops i op → None ≡ pass i op → all_pass pass i (drop i ops) ≡ whole → all_pass pass (i + 1) (drop (i + 1) ops) ≡ whole
  continues i op within is at left =
      rw (add-one i) (ap (λ fault. fault_or i fault (all_pass pass (suc i) (drop (suc i) ops))) at ∙ sym (first_left i op within is) ∙ left)

  pub finds_nothing : (i : ℕ) → length ops ≤ i → all_pass pass i (drop i ops) ≡ whole → Ok tt ≡ whole
  finds_nothing i past left = sym (ap (all_pass pass i) (drop_of_length-le ops past)) ∙ left

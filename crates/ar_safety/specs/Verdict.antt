-- Which code the verifier accepts for a shape of the measured value, and for what it refuses other code.
use Rattle.std.specs.Prelude.{◌≡◌, ◌<◌, ◌≤◌, ◌⊎◌, ℕ, List, Result, Ok, Err}
use Rattle.ar_value.specs.Terms.{Index}
use Rattle.ar_value.specs.Answer.{◌>>=◌}
use Rattle.ar_value.specs.Shape.{Shape}
use Rattle.ar_op.specs.Code.{Code}
use Rattle.ar_safety.specs.Arrivals.{Sent, all_sent, deepest}
use Rattle.ar_safety.specs.Bounds.{greatest_budget}
use Rattle.ar_safety.specs.Budget.{IsBudget, Way}
use Rattle.ar_safety.specs.Indices.{indices_pass}
use Rattle.ar_safety.specs.declared.error.Cause.{Cause}
use Rattle.ar_safety.specs.declared.error.Cause.TheVariants.{Fault, OutOfMemory}
use Rattle.ar_safety.specs.declared.error.Reason.{Reason}
use Rattle.ar_safety.specs.declared.error.Reason.TheVariants.{BudgetTooLarge}

-- the passes 1 to 4, and then pass 5
abbrev pub passed : Code → Shape → Result (List Sent) Cause
passed code shape = indices_pass code.ops >>= λ _. all_sent code shape

-- the verifier accepts the code: it has no fault, costs at most the budget, and has at most `depth` operands
pub record IsVerified (code : Code) (shape : Shape) (budget depth : ℕ) : Type 0 where
  pub sents : List Sent
  pub passes : passed code shape ≡ Ok sents
  pub costliest : IsBudget code.ops sents budget
  pub payable : budget ≤ greatest_budget
  pub deepest : depth ≡ deepest sents

-- a way from the first index costs too much
pub record IsTooExpensive (code : Code) (shape : Shape) : Type 0 where
  pub sents : List Sent
  pub passes : passed code shape ≡ Ok sents
  pub cost : ℕ
  pub way : Way code.ops sents 0 cost
  pub too_expensive : greatest_budget < cost

-- the first fault of code: of the passes 1 to 5, or else its budget
abbrev pub IsFault : Code → Shape → (index : Index) → Reason → Type 0
IsFault code shape index reason =
    (passed code shape ≡ Err (Fault index reason))
    ⊎ ((index ≡ 0) × (reason ≡ BudgetTooLarge) × IsTooExpensive code shape)

-- a cause for which code is refused: a fault of it, or out of memory
abbrev pub IsCause : Code → Shape → Cause → Type 0
IsCause code shape (Fault index reason) = IsFault code shape index reason
IsCause code shape OutOfMemory = Unit {0}

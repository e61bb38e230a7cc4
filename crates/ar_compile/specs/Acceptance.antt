-- For what the verifier may refuse the code of a checked condition.
use Rattle.std.specs.Prelude.{◌≡◌, ◌⊎◌}
use Rattle.ar_value.specs.Terms.{Index}
use Rattle.ar_value.specs.Shape.{Shape}
use Rattle.ar_op.specs.Code.{Code}
use Rattle.ar_safety.specs.Verdict.{IsFault}
use Rattle.ar_safety.specs.declared.error.Reason.{Reason}
use Rattle.ar_safety.specs.declared.error.Reason.TheVariants.{BudgetTooLarge, StackTooDeep}

-- if it has a fault under a shape, then that a run of it may have too many operands, or cost too much
pub record OnlyTooLarge (code : Code) (shape : Shape) : Type 0 where
  pub for : (index : Index) (reason : Reason) → IsFault code shape index reason
      → (reason ≡ StackTooDeep) ⊎ (reason ≡ BudgetTooLarge)

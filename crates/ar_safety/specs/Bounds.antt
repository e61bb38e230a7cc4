-- Code that the verifier hands out, with what a run of it may cost and hold at most.
use Rattle.std.specs.Prelude.{ℕ}
use Rattle.ar_value.specs.declared.shape.Shape.{Shape as Declared}
use Rattle.ar_op.specs.Code.{Code}

abbrev pub greatest_budget : ℕ
greatest_budget = 1000000000

-- code that the verifier accepts for a shape, with these bounds
pub record Verified : Type 0 where
  pub code : Code
  pub shape : Declared
  pub budget : ℕ
  pub depth : ℕ

abbrev pub verified_of : Code → Declared → (budget depth : ℕ) → Verified
verified_of code shape budget depth = record { code = code; shape = shape; budget = budget; depth = depth }

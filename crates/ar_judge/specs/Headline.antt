-- The first half of the headline: a condition that the verifier accepts, run on any measurement of its declared shape,
-- ends within its budget, never meets a missing or ill-kinded operand or a jump outside its code, and gives the verdict
-- or named fault of its expression's definition.
use Rattle.std.specs.Prelude.{◌≡◌, ◌≤◌, true}
use Rattle.ar_value.specs.Terms.{Text}
use Rattle.ar_value.specs.Fits.{fits}
use Rattle.ar_value.specs.Shape.{Shape}
use Rattle.ar_value.specs.Value.{Value}
use Rattle.ar_value.specs.Limits.{most_operands}
use Rattle.ar_safety.specs.Bounds.{Verified, greatest_budget}
use Rattle.ar_safety.specs.Safety.{IsSafe}
use Rattle.ar_judge.specs.Condition.{Condition}
use Rattle.ar_judge.specs.Text.{TextSays}

-- how the stack machine runs verified code on a value, where the code is that of a text under a shape
pub record RunsAsMeant (shape : Shape) (text : Text) (verified : Verified) (value : Value) : Type 0 where
  -- after as many steps as the budget says it has ended, with an answer, at no greater cost; it is never stuck, as it
  -- is at a missing or ill-kinded operand and at an index outside the code; it never has more operands than the depth,
  -- nor more than four open loops
  pub safe : IsSafe verified.code value verified.budget verified.depth
  -- the answer is what the text says: true, false or the named fault
  pub meant : TextSays shape text value safe.answer

-- the headline of a condition's text under a shape
pub record HeadlineHolds (shape : Shape) (text : Text) (condition : Condition) : Type 0 where
  -- its budget is at most 1,000,000,000, its depth at most 64
  pub payable : condition.verified.budget ≤ greatest_budget
  pub shallow : condition.verified.depth ≤ most_operands
  -- on each value of the shape its code runs as the text is meant
  pub runs : (value : Value) → fits value shape ≡ true → RunsAsMeant shape text condition.verified value

-- What checking a condition returns.
use Rattle.std.specs.Prelude.{◌≡◌, true, None, Result, IfOk, IfErr}
use Rattle.ar_value.specs.Answer.{Gives, Unless}
use Rattle.ar_value.specs.Fits.{fits}
use Rattle.ar_value.specs.Shape.{Shape}
use Rattle.ar_value.specs.Value.{Value}
use Rattle.ar_tree.specs.Expression.{Expression}
use Rattle.ar_tree.specs.Meaning.{IsBooleanOrFault, mean}
use Rattle.ar_tree.specs.Views.{typed_view}
use Rattle.ar_tree.specs.declared.typed.Typed.{Typed}
use Rattle.ar_check.specs.Check.{checked}
use Rattle.ar_check.specs.Memory.{is_memory}
use Rattle.ar_check.specs.Typing.{IsCondition}
use Rattle.ar_check.specs.declared.error.TypeError.{TypeError}

-- what checking a tree returns where `result` has a shape
pub record ChecksTo (shape : Shape) (tree : Expression) (result : Result Typed TypeError) : Type 0 where
  -- this typed tree, or this fault
  pub exact : Gives is_memory typed_view result (checked shape tree)
  -- the same by the table of kinds: the tree is a condition, so a boolean, plain or optional,
  pub condition : IfOk result (λ _. IsCondition shape tree)
  -- or it is none
  pub refused : IfErr result (λ error. Unless (is_memory error) (¬ (IsCondition shape tree)))
  -- on each value of the shape the condition is true or false or meets a fault
  pub answers : IfOk result
      (λ condition. (value : Value) → fits value shape ≡ true
      → IsBooleanOrFault (mean value None (typed_view condition)))

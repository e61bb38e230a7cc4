-- What the text of a condition says of values: the grammar gives it a tree, and the shape of `result` gives the tree
-- kinds.
use Rattle.std.specs.Prelude.{◌≡◌, Bool, Some, None, Result, Ok}
use Rattle.ar_value.specs.Terms.{Text}
use Rattle.ar_value.specs.Shape.{Shape}
use Rattle.ar_value.specs.Value.{Value}
use Rattle.ar_value.specs.declared.fault.Fault.{Fault}
use Rattle.ar_tree.specs.Expression.{Expression}
use Rattle.ar_tree.specs.Meaning.{answer_of, mean}
use Rattle.ar_tree.specs.Typed.{Typed}
use Rattle.ar_syntax.specs.Condition.{SaysTree}
use Rattle.ar_check.specs.Check.{checked}

-- the typed tree of a text where `result` has a shape
pub record HasTree (shape : Shape) (text : Text) (tree : Typed) : Type 0 where
  -- by the grammar the text says an expression,
  pub expression : Expression
  pub grammar : SaysTree text expression
  -- which has kinds
  pub kinds : checked shape expression ≡ Ok tree

-- what a text says of a value, as its typed tree means: true, false or a named fault
pub record TextSays (shape : Shape) (text : Text) (value : Value) (answer : Result Bool Fault) : Type 0 where
  pub tree : Typed
  pub has_tree : HasTree shape text tree
  pub meant : answer_of (mean value None tree) ≡ Some answer

-- Conditions whose kinds are known. Where an operand is unwrapped or converted to decimal, a node says so, and `+a`
-- is `a`.
use Rattle.std.specs.Prelude.{ℕ, suc, List, [], ◌∷◌}
use Rattle.ar_value.specs.Terms.{Text}
use Rattle.ar_tree.specs.declared.tree.Literal.{Literal}
use Rattle.ar_value.specs.declared.operator.Predicate.{Predicate}
use Rattle.ar_value.specs.declared.operator.BinaryOperator.{BinaryOperator}
use Rattle.ar_value.specs.declared.operator.Scalar.{Scalar}
use Rattle.ar_value.specs.declared.operator.UnaryOperator.{UnaryOperator}

mutual
  pub data Typed : Type 0 where
    -- the measured value
    result : Typed
    -- the innermost item
    item : Typed
    literal : Literal → Typed
    field : (whole : Typed) (name : Text) → Typed
    unary : UnaryOperator → (operand : Typed) → Typed
    binary : BinaryOperator → (left right : Typed) → Typed
    both : (left right : Typed) → Typed
    either : (left right : Typed) → Typed
    choice : (condition then_branch else_branch : Typed) → Typed
    listed : Scalar → (items : Typeds) → Typed
    predicate : Predicate → (list body : Typed) → Typed

  pub data Typeds : Type 0 where
    none : Typeds
    more : (first : Typed) (others : Typeds) → Typeds

abbrev pub typeds : List Typed → Typeds
typeds [] = none
typeds (first ∷ others) = more first (typeds others)

abbrev pub how_many : Typeds → ℕ
how_many none = 0
how_many (more first others) = suc (how_many others)

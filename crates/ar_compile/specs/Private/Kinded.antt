-- Which kinds typed trees have. A typed tree says itself where an operand is unwrapped or converted to decimal.
use Rattle.std.specs.Prelude.{◌≡◌, ◌<◌, ℕ, suc, List, Option, Some}
use Rattle.ar_value.specs.Kind.{Kind, shaped, merge, scalar_shape, boolean_kind}
use Rattle.ar_value.specs.Shape.{Shape, FieldShapes, list, object, shape_named}
use Rattle.ar_value.specs.declared.operator.BinaryOperator.{BinaryOperator}
use Rattle.ar_value.specs.declared.operator.Predicate.{Predicate}
use Rattle.ar_value.specs.declared.operator.Scalar.{Scalar}
use Rattle.ar_value.specs.declared.operator.UnaryOperator.{UnaryOperator}
use Rattle.ar_value.specs.Limits.{most_loops}
use Rattle.ar_tree.specs.Typed.{Typed, Typeds, how_many}
use Rattle.ar_tree.specs.Typed as typed
use Rattle.ar_tree.specs.declared.tree.Literal.{Literal}
use Rattle.ar_check.specs.Basics.{literal_kind}
use Rattle.ar_check.specs.Check.{predicate_kind}
use Rattle.ar_safety.specs.Effects.{binary_kind, unary_kind}

mutual
  -- where `result` has a shape, and so has the innermost item, inside n predicates
  pub data Kinded (result : Shape) : Option Shape → ℕ → Typed → Kind → Type 0 where
    measured : {item : Option Shape} {around : ℕ} → Kinded result item around typed.result (shaped result)
    innermost : {shape : Shape} {around : ℕ} → Kinded result (Some shape) around typed.item (shaped shape)
    literally : {item : Option Shape} {around : ℕ} (literal : Literal)
        → Kinded result item around (typed.literal literal) (literal_kind literal)
    of_field : {item : Option Shape} {around : ℕ} {owner : Typed} {name : List ℕ} {shape : Shape} {fields : FieldShapes}
        → Kinded result item around owner (shaped (object fields)) → shape_named name fields ≡ Some shape
        → Kinded result item around (typed.field owner name) (shaped shape)
    of_unary : {item : Option Shape} {around : ℕ} {operator : UnaryOperator} {operand : Typed} {of given : Kind}
        → Kinded result item around operand of → unary_kind operator of ≡ Some given
        → Kinded result item around (typed.unary operator operand) given
    of_binary : {item : Option Shape} {around : ℕ} {operator : BinaryOperator} {left right : Typed}
        {of next_to given : Kind}
        → Kinded result item around left of → Kinded result item around right next_to
        → binary_kind operator of next_to ≡ Some given
        → Kinded result item around (typed.binary operator left right) given
    of_both : {item : Option Shape} {around : ℕ} {left right : Typed}
        → Kinded result item around left boolean_kind → Kinded result item around right boolean_kind
        → Kinded result item around (typed.both left right) boolean_kind
    of_either : {item : Option Shape} {around : ℕ} {left right : Typed}
        → Kinded result item around left boolean_kind → Kinded result item around right boolean_kind
        → Kinded result item around (typed.either left right) boolean_kind
    of_choice : {item : Option Shape} {around : ℕ} {condition then_branch else_branch : Typed} {left right both : Kind}
        → Kinded result item around condition boolean_kind → Kinded result item around then_branch left
        → Kinded result item around else_branch right → merge left right ≡ Some both
        → Kinded result item around (typed.choice condition then_branch else_branch) both
    of_list : {item : Option Shape} {around : ℕ} {items : Typeds} {scalar : Scalar}
        → AllKinded result item around items scalar
        → Kinded result item around (typed.listed scalar items) (shaped (list (scalar_shape scalar) (how_many items)))
    of_predicate : {item : Option Shape} {around max : ℕ} {predicate : Predicate} {items body : Typed} {shape : Shape}
        → Kinded result item around items (shaped (list shape max)) → around < most_loops
        → Kinded result (Some shape) (suc around) body boolean_kind
        → Kinded result item around (typed.predicate predicate items body)
        (predicate_kind predicate (shaped (list shape max)))

  -- items that are all one kind of scalar
  pub data AllKinded (result : Shape) : Option Shape → ℕ → Typeds → Scalar → Type 0 where
    none : {item : Option Shape} {around : ℕ} {scalar : Scalar} → AllKinded result item around typed.none scalar
    one_more : {item : Option Shape} {around : ℕ} {scalar : Scalar} {first : Typed} {others : Typeds}
        → Kinded result item around first (shaped (scalar_shape scalar)) → AllKinded result item around others scalar
        → AllKinded result item around (typed.more first others) scalar

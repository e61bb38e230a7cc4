-- Which kinds conditions have, row by row of the table of kinds. `plain` is used where a plain kind is required: an
-- operand of an optional shape is then taken as one of its plain shape.
use Rattle.std.specs.Prelude.{◌≡◌, ◌<◌, ℕ, suc, Option, Some, None}
use Rattle.ar_value.specs.Terms.{Text}
use Rattle.ar_value.specs.Kind.{Kind, nil, shaped, common, plain}
use Rattle.ar_value.specs.Shape.{Shape, FieldShapes, bool, whole, decimal, text, list, object, shape_named}
use Rattle.ar_tree.specs.Expression.{Expression, Expressions, none, more, ResultAt, ItemAt, LiteralAt, FieldAt, IndexAt, UnaryAt, BinaryAt, ChoiceAt, ListAt, LenAt, IsNilAt, DefaultAt, PredicateAt, expression_count}
use Rattle.ar_tree.specs.declared.tree.Comparison.TheVariants as comparisons
use Rattle.ar_tree.specs.declared.tree.Binary.{Binary}
use Rattle.ar_tree.specs.declared.tree.Binary.TheVariants as binaries
use Rattle.ar_tree.specs.declared.tree.Literal.{Literal}
use Rattle.ar_tree.specs.declared.tree.Literal.TheVariants as literals
use Rattle.ar_value.specs.declared.operator.Predicate.{Predicate}
use Rattle.ar_value.specs.declared.operator.Predicate.TheVariants as predicates
use Rattle.ar_value.specs.declared.operator.TextTest.{TextTest}
use Rattle.ar_value.specs.Limits.{most_loops}
use Rattle.ar_tree.specs.declared.tree.Unary.{Unary}
use Rattle.ar_tree.specs.declared.tree.Unary.TheVariants as unaries
use Rattle.ar_check.specs.Basics.{literal_kind}

-- ---- scalars

pub data IsNumber : Shape → Type 0 where
  is_whole : IsNumber whole
  is_decimal : IsNumber decimal

-- scalars that compare with one another
pub data SameFamily : Shape → Shape → Type 0 where
  booleans : SameFamily bool bool
  numbers : {left right : Shape} → IsNumber left → IsNumber right → SameFamily left right
  texts : SameFamily text text

pub data IsScalar : Shape → Type 0 where
  is_boolean : IsScalar bool
  is_number : {shape : Shape} → IsNumber shape → IsScalar shape
  is_text : IsScalar text

-- the numbers of a sum, of a difference and of a product: wholes of two wholes, else decimals
pub data SumOf : Shape → Shape → Shape → Type 0 where
  of_wholes : SumOf whole whole whole
  of_decimal_left : {right : Shape} → IsNumber right → SumOf decimal right decimal
  of_decimal_right : SumOf whole decimal decimal

-- what scalar the items of a list have in common: one kind of scalar, or numbers, as decimals where one is
pub data InCommon : Shape → Shape → Shape → Type 0 where
  two_booleans : InCommon bool bool bool
  two_numbers : {left right both : Shape} → SumOf left right both → InCommon left right both
  two_texts : InCommon text text text

-- ---- operators

pub data Operates : Binary → Shape → Shape → Shape → Type 0 where
  add : {left right both : Shape} → SumOf left right both → Operates binaries.Add left right both
  subtract : {left right both : Shape} → SumOf left right both → Operates binaries.Subtract left right both
  multiply : {left right both : Shape} → SumOf left right both → Operates binaries.Multiply left right both
  divide : {left right : Shape} → IsNumber left → IsNumber right → Operates binaries.Divide left right decimal
  remainder : Operates binaries.Remainder whole whole whole
  less : {left right : Shape} → IsNumber left → IsNumber right
      → Operates (binaries.Comparison comparisons.Less) left right bool
  less_or_equal : {left right : Shape} → IsNumber left → IsNumber right
      → Operates (binaries.Comparison comparisons.LessOrEqual) left right bool
  greater : {left right : Shape} → IsNumber left → IsNumber right
      → Operates (binaries.Comparison comparisons.Greater) left right bool
  greater_or_equal : {left right : Shape} → IsNumber left → IsNumber right
      → Operates (binaries.Comparison comparisons.GreaterOrEqual) left right bool
  equal : {left right : Shape} → SameFamily left right
      → Operates (binaries.Comparison comparisons.Equal) left right bool
  not_equal : {left right : Shape} → SameFamily left right
      → Operates (binaries.Comparison comparisons.NotEqual) left right bool
  both : Operates binaries.And bool bool bool
  either : Operates binaries.Or bool bool bool
  -- a list of scalars, any of which may be nil
  within : {left item : Shape} {max : ℕ} → SameFamily left (plain item) → Operates binaries.In left (list item max) bool
  not_within : {left item : Shape} {max : ℕ} → SameFamily left (plain item)
      → Operates binaries.NotIn left (list item max) bool
  -- whether one text has another, anywhere, at its start or at its end
  text_test : (test : TextTest) → Operates (binaries.TextTest test) text text bool

pub data OperatesOnOne : Unary → Shape → Shape → Type 0 where
  minus : {shape : Shape} → IsNumber shape → OperatesOnOne unaries.Minus shape shape
  plus : {shape : Shape} → IsNumber shape → OperatesOnOne unaries.Plus shape shape
  opposite : OperatesOnOne unaries.Not bool bool

pub data IsEquality : Binary → Type 0 where
  is_equal : IsEquality (binaries.Comparison comparisons.Equal)
  is_unequal : IsEquality (binaries.Comparison comparisons.NotEqual)

-- the kind of a predicate over a plain list
pub data PredicateKind : Predicate → Shape → Shape → Type 0 where
  of_all : {over : Shape} → PredicateKind predicates.All over bool
  of_any : {over : Shape} → PredicateKind predicates.Any over bool
  of_none : {over : Shape} → PredicateKind predicates.None over bool
  of_one : {over : Shape} → PredicateKind predicates.One over bool
  of_number : {over : Shape} → PredicateKind predicates.Count over whole
  of_filter : {over : Shape} → PredicateKind predicates.Filter over over

-- the kind of `default(a, b)`: b's where a is always nil, else the common kind of what isn't nil in a, and of b
pub data DefaultKind : Kind → Kind → Kind → Type 0 where
  of_nil : {other : Kind} → DefaultKind nil other other
  of_shape : {shape : Shape} {other both : Kind} → common (shaped (plain shape)) other ≡ Some both
      → DefaultKind (shaped shape) other both

-- ---- conditions

mutual
  -- a tree has a kind where `result` has a shape, and so has the innermost item, inside n predicates
  pub data HasKind (result : Shape) : Option Shape → ℕ → Expression → Kind → Type 0 where
    measured : {item : Option Shape} {around at : ℕ} → HasKind result item around (ResultAt at) (shaped result)
    innermost : {shape : Shape} {around at : ℕ} → HasKind result (Some shape) around (ItemAt at) (shaped shape)
    literally : {item : Option Shape} {around at : ℕ} (literal : Literal)
        → HasKind result item around (LiteralAt at literal) (literal_kind literal)
    of_field : {item : Option Shape} {around at : ℕ} {owner : Expression} {name : Text} {of shape : Shape}
        {fields : FieldShapes}
        → HasKind result item around owner (shaped of) → plain of ≡ object fields → shape_named name fields ≡ Some shape
        → HasKind result item around (FieldAt at owner name) (shaped shape)
    of_index : {item : Option Shape} {around at max : ℕ} {items index : Expression} {of offset shape : Shape}
        → HasKind result item around items (shaped of) → plain of ≡ list shape max
        → HasKind result item around index (shaped offset) → plain offset ≡ whole
        → HasKind result item around (IndexAt at items index) (shaped shape)
    of_sign : {item : Option Shape} {around at : ℕ} {operator : Unary} {operand : Expression} {of shape : Shape}
        → HasKind result item around operand (shaped of) → OperatesOnOne operator (plain of) shape
        → HasKind result item around (UnaryAt at operator operand) (shaped shape)
    of_operator : {item : Option Shape} {around at : ℕ} {operator : Binary} {left right : Expression}
        {of next_to shape : Shape}
        → HasKind result item around left (shaped of) → HasKind result item around right (shaped next_to)
        → Operates operator (plain of) (plain next_to) shape
        → HasKind result item around (BinaryAt at operator left right) (shaped shape)
    -- anything compares with the literal `nil`
    nil_on_the_left : {item : Option Shape} {around at offset : ℕ} {operator : Binary} {right : Expression}
        {kind : Kind}
        → IsEquality operator → HasKind result item around right kind
        → HasKind result item around (BinaryAt at operator (LiteralAt offset literals.Nil) right) (shaped bool)
    nil_on_the_right : {item : Option Shape} {around at offset : ℕ} {operator : Binary} {left : Expression}
        {kind : Kind}
        → IsEquality operator → HasKind result item around left kind
        → HasKind result item around (BinaryAt at operator left (LiteralAt offset literals.Nil)) (shaped bool)
    of_choice : {item : Option Shape} {around at : ℕ} {condition then_branch else_branch : Expression} {of : Shape}
        {left right both : Kind}
        → HasKind result item around condition (shaped of) → plain of ≡ bool
        → HasKind result item around then_branch left → HasKind result item around else_branch right
        → common left right ≡ Some both
        → HasKind result item around (ChoiceAt at condition then_branch else_branch) both
    of_list : {item : Option Shape} {around at : ℕ} {items : Expressions} {shape : Shape}
        → HaveInCommon result item around items shape
        → HasKind result item around (ListAt at items) (shaped (list shape (expression_count items)))
    of_len : {item : Option Shape} {around at max : ℕ} {items : Expression} {of shape : Shape}
        → HasKind result item around items (shaped of) → plain of ≡ list shape max
        → HasKind result item around (LenAt at items) (shaped whole)
    of_nil_test : {item : Option Shape} {around at : ℕ} {operand : Expression} {kind : Kind}
        → HasKind result item around operand kind → HasKind result item around (IsNilAt at operand) (shaped bool)
    of_default : {item : Option Shape} {around at : ℕ} {operand otherwise : Expression} {left right both : Kind}
        → HasKind result item around operand left → HasKind result item around otherwise right
        → DefaultKind left right both
        → HasKind result item around (DefaultAt at operand otherwise) both
    -- the predicate speaks of an item, and is the innermost one there
    of_predicate : {item : Option Shape} {around at max : ℕ} {predicate : Predicate} {items body : Expression}
        {of shape holds kind : Shape}
        → HasKind result item around items (shaped of) → plain of ≡ list shape max → around < most_loops
        → HasKind result (Some shape) (suc around) body (shaped holds) → plain holds ≡ bool
        → PredicateKind predicate (plain of) kind
        → HasKind result item around (PredicateAt at predicate items body) (shaped kind)

  -- items that are scalars have one in common, each unwrapped
  pub data HaveInCommon (result : Shape) : Option Shape → ℕ → Expressions → Shape → Type 0 where
    one : {item : Option Shape} {around : ℕ} {only : Expression} {of : Shape}
        → HasKind result item around only (shaped of) → IsScalar (plain of)
        → HaveInCommon result item around (more only none) (plain of)
    one_more : {item : Option Shape} {around : ℕ} {first : Expression} {others : Expressions} {of shape both : Shape}
        → HasKind result item around first (shaped of) → HaveInCommon result item around others shape
        → InCommon (plain of) shape both
        → HaveInCommon result item around (more first others) both

-- ---- whole conditions

-- a tree is a condition where `result` has a shape: it is a boolean there, which may be nil
pub record IsCondition (result : Shape) (tree : Expression) : Type 0 where
  pub shape : Shape
  pub typed : HasKind result None 0 tree (shaped shape)
  pub boolean : plain shape ≡ bool

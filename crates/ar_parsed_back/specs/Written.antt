-- Which trees, as a condition writes them, say a part. A tree has offsets, which don't matter here. `Need` and
-- `ToDecimal`, which the check of kinds inserts, aren't written: what says their operand says them.
use Rattle.std.specs.Prelude.{◌≡◌, [], Option, Some, None}
use Rattle.ar_value.specs.Terms.{Offset, Text}
use Rattle.ar_value.specs.declared.operator.Arithmetic.{Arithmetic}
use Rattle.ar_value.specs.declared.operator.Arithmetic.TheVariants as wholes
use Rattle.ar_value.specs.declared.operator.BinaryOperator.{BinaryOperator}
use Rattle.ar_value.specs.declared.operator.BinaryOperator.TheVariants as binary
use Rattle.ar_value.specs.declared.operator.DecimalArithmetic.{DecimalArithmetic}
use Rattle.ar_value.specs.declared.operator.DecimalArithmetic.TheVariants as decimals
use Rattle.ar_value.specs.declared.operator.Numbers.{Numbers}
use Rattle.ar_value.specs.declared.operator.Predicate.{Predicate}
use Rattle.ar_value.specs.declared.operator.Scalar.{Scalar}
use Rattle.ar_value.specs.declared.operator.UnaryOperator.TheVariants as unary
use Rattle.ar_tree.specs.Expression.{Expression, Expressions, ResultAt, ItemAt, LiteralAt, FieldAt, IndexAt, UnaryAt, BinaryAt, ChoiceAt, ListAt, LenAt, IsNilAt, DefaultAt, PredicateAt}
use Rattle.ar_tree.specs.Expression as trees
use Rattle.ar_tree.specs.Typed.{Typed, Typeds}
use Rattle.ar_tree.specs.Typed as typed
use Rattle.ar_tree.specs.declared.tree.Binary.{Binary}
use Rattle.ar_tree.specs.declared.tree.Binary.TheVariants as binaries
use Rattle.ar_tree.specs.declared.tree.Comparison.TheVariants as comparisons
use Rattle.ar_tree.specs.declared.tree.Literal.{Literal}
use Rattle.ar_tree.specs.declared.tree.Unary.TheVariants as unaries
use Rattle.ar_parsed_back.specs.Kinds.{written_order}

abbrev pub arithmetic_of : Arithmetic → Binary
arithmetic_of wholes.Add = binaries.Add
arithmetic_of wholes.Subtract = binaries.Subtract
arithmetic_of wholes.Multiply = binaries.Multiply
arithmetic_of wholes.Divide = binaries.Divide
arithmetic_of wholes.Remainder = binaries.Remainder

abbrev pub decimal_arithmetic_of : DecimalArithmetic → Binary
decimal_arithmetic_of decimals.Add = binaries.Add
decimal_arithmetic_of decimals.Subtract = binaries.Subtract
decimal_arithmetic_of decimals.Multiply = binaries.Multiply
decimal_arithmetic_of decimals.Divide = binaries.Divide

-- the operator that is written between two sides
abbrev pub infix_of : BinaryOperator → Option Binary
infix_of binary.Index = None
infix_of binary.Default = None
infix_of binary.IsIn = Some binaries.In
infix_of (binary.Wholes operator) = Some (arithmetic_of operator)
infix_of (binary.Decimals operator) = Some (decimal_arithmetic_of operator)
infix_of (binary.Compare of way) = Some (binaries.Comparison (written_order way))
infix_of (binary.Equal family) = Some (binaries.Comparison comparisons.Equal)
infix_of (binary.TextTest test) = Some (binaries.TextTest test)

mutual
  -- the tree says the part
  pub data Writes : Expression → Typed → Type 0 where
    result : {at : Offset} → Writes (ResultAt at) typed.result
    item : {at : Offset} → Writes (ItemAt at) typed.item
    literal : {at : Offset} {it : Literal} → Writes (LiteralAt at it) (typed.literal it)
    field : {at : Offset} {owner : Expression} {whole : Typed} {name : Text}
        → Writes owner whole → Writes (FieldAt at owner name) (typed.field whole name)
    needed : {tree : Expression} {operand : Typed} → Writes tree operand → Writes tree (typed.unary unary.Need operand)
    as_decimal : {tree : Expression} {operand : Typed}
        → Writes tree operand → Writes tree (typed.unary unary.ToDecimal operand)
    len : {at : Offset} {tree : Expression} {operand : Typed}
        → Writes tree operand → Writes (LenAt at tree) (typed.unary unary.Len operand)
    is_nil : {at : Offset} {tree : Expression} {operand : Typed}
        → Writes tree operand → Writes (IsNilAt at tree) (typed.unary unary.IsNil operand)
    negation : {at : Offset} {tree : Expression} {operand : Typed}
        → Writes tree operand → Writes (UnaryAt at unaries.Not tree) (typed.unary unary.Not operand)
    minus : {at : Offset} {of : Numbers} {tree : Expression} {operand : Typed}
        → Writes tree operand → Writes (UnaryAt at unaries.Minus tree) (typed.unary (unary.Negate of) operand)
    index : {at : Offset} {list place : Expression} {left right : Typed}
        → Writes list left → Writes place right → Writes (IndexAt at list place) (typed.binary binary.Index left right)
    default : {at : Offset} {first second : Expression} {left right : Typed}
        → Writes first left → Writes second right
        → Writes (DefaultAt at first second) (typed.binary binary.Default left right)
    sides : {at : Offset} {written : Binary} {operator : BinaryOperator} {first second : Expression}
        {left right : Typed}
        → infix_of operator ≡ Some written → Writes first left → Writes second right
        → Writes (BinaryAt at written first second) (typed.binary operator left right)
    both : {at : Offset} {first second : Expression} {left right : Typed}
        → Writes first left → Writes second right
        → Writes (BinaryAt at binaries.And first second) (typed.both left right)
    either : {at : Offset} {first second : Expression} {left right : Typed}
        → Writes first left → Writes second right
        → Writes (BinaryAt at binaries.Or first second) (typed.either left right)
    choice : {at : Offset} {first second third : Expression} {condition then_branch else_branch : Typed}
        → Writes first condition → Writes second then_branch → Writes third else_branch
        → Writes (ChoiceAt at first second third) (typed.choice condition then_branch else_branch)
    list : {at : Offset} {trees : Expressions} {scalar : Scalar} {items : Typeds}
        → WritesEach trees items → Writes (ListAt at trees) (typed.listed scalar items)
    predicate : {at : Offset} {over : Predicate} {first second : Expression} {list body : Typed}
        → Writes first list → Writes second body
        → Writes (PredicateAt at over first second) (typed.predicate over list body)

  -- each tree says the part in its place, and there are as many
  pub data WritesEach : Expressions → Typeds → Type 0 where
    none : WritesEach trees.none typed.none
    more : {tree : Expression} {later : Expressions} {part : Typed} {others : Typeds}
        → Writes tree part → WritesEach later others → WritesEach (trees.more tree later) (typed.more part others)

-- ---- worked rows

a_number_that_is_unwrapped : Writes (UnaryAt 0 unaries.Not (LenAt 1 (FieldAt 5 (ResultAt 4) [])))
    (typed.unary unary.Not (typed.unary unary.Len (typed.unary unary.Need (typed.field typed.result []))))
a_number_that_is_unwrapped = negation (len (needed (field result)))

-- The typed tree of a condition and its kind, or its first type fault. Children come first, from left to right.
use Rattle.ar_value.specs.Operators.{same_family}
use Rattle.std.specs.Prelude.{ℕ, suc, is_some, Bool, true, false, ◌&&◌, if◌then◌else◌, nat_lt, List, [], ◌∷◌, length, map, Option, Some, None, Result, Ok, Err, ◌≡◌, pos, refl}
use Rattle.ar_value.specs.Terms.{Offset, Text}
use Rattle.ar_value.specs.declared.operator.BinaryOperator.TheVariants as binary
use Rattle.ar_value.specs.declared.operator.UnaryOperator.TheVariants as unary
use Rattle.ar_value.specs.Answer.{◌>>=◌}
use Rattle.ar_value.specs.Kind.{Kind, nil, shaped, common, plain, scalar_shape, boolean_kind}
use Rattle.ar_value.specs.Shape.{Shape, shape_named}
use Rattle.ar_value.specs.Shape as shapes
use Rattle.ar_tree.specs.Expression.{Expression, Expressions, offset_of}
use Rattle.ar_tree.specs.Expression as trees
use Rattle.ar_tree.specs.declared.tree.Comparison.{Comparison}
use Rattle.ar_tree.specs.declared.tree.Comparison.TheVariants as comparisons
use Rattle.ar_tree.specs.declared.tree.Binary.{Binary}
use Rattle.ar_tree.specs.declared.tree.Binary.TheVariants as binaries
use Rattle.ar_tree.specs.declared.tree.Literal.TheVariants as literals
use Rattle.ar_value.specs.declared.operator.Predicate.{Predicate}
use Rattle.ar_value.specs.declared.operator.Predicate.TheVariants as predicates
use Rattle.ar_tree.specs.declared.tree.Unary.{Unary}
use Rattle.ar_tree.specs.declared.tree.Unary.TheVariants as unaries
use Rattle.ar_check.specs.Basics.{literal_kind}
use Rattle.ar_check.specs.Operand.{Operand, operand, among, scalar_family, is_text_operand, is_boolean, unwrapped, numbers, plain_of, scalar, scalar_of, converted}
use Rattle.ar_tree.specs.Typed.{Typed, typeds}
use Rattle.ar_tree.specs.Typed as typed
use Rattle.ar_check.specs.declared.error.TypeError.{TypeError}
use Rattle.ar_check.specs.declared.error.TypeError.TheVariants.{WrongOperand, NoSuchField, NotAList, NoCommonKind, NotScalar, NotTruth, PredicatesTooDeep}
use Rattle.ar_value.specs.declared.operator.Arithmetic.{Arithmetic}
use Rattle.ar_value.specs.declared.operator.Arithmetic.TheVariants.{Add, Subtract, Multiply, Divide, Remainder}
use Rattle.ar_value.specs.declared.operator.BinaryOperator.{BinaryOperator}
use Rattle.ar_value.specs.declared.operator.Compared.{Compared}
use Rattle.ar_value.specs.declared.operator.Compared.TheVariants as compared
use Rattle.ar_value.specs.declared.operator.DecimalArithmetic.TheVariants as on_decimals
use Rattle.ar_value.specs.declared.operator.Numbers.{Numbers}
use Rattle.ar_value.specs.declared.operator.Numbers.TheVariants.{Wholes, Decimals}
use Rattle.ar_value.specs.declared.operator.Order.{Order}
use Rattle.ar_value.specs.declared.operator.Order.TheVariants.{Less, LessOrEqual, Greater, GreaterOrEqual}
use Rattle.ar_value.specs.declared.operator.Scalar.{Scalar}
use Rattle.ar_value.specs.declared.operator.Scalar.TheVariants as scalars
use Rattle.ar_value.specs.declared.operator.TextTest.{TextTest}
use Rattle.ar_value.specs.Limits.{most_loops}
use Rattle.ar_tree.specs.Expression.{BinaryAt, LiteralAt, ResultAt}

abbrev pub Answer : Type 0
Answer = Result Operand TypeError

abbrev pub given : Typed → Kind → Answer
given tree kind = Ok (operand tree kind)

-- ---- literals, fields, items

-- `#` appears inside predicates alone, which the grammar ensures
abbrev pub innermost : Offset → Option Shape → Answer
innermost at (Some shape) = given typed.item (shaped shape)
innermost at None = Err (WrongOperand at)

abbrev pub found_field : Offset → Option Shape → Result Shape TypeError
found_field at (Some shape) = Ok shape
found_field at None = Err (NoSuchField at)

-- the shape of a record's field
abbrev pub field_shape : Offset → Text → Option Shape → Result Shape TypeError
field_shape at name (Some (shapes.object fields)) = found_field at (shape_named name fields)
field_shape at name shape = Err (WrongOperand at)

-- the shape of a list's items
abbrev pub item_shape : Offset → Option Shape → Result Shape TypeError
item_shape at (Some (shapes.list shape max)) = Ok shape
item_shape at shape = Err (NotAList at)

abbrev pub field_of : Offset → Text → Operand → Answer
field_of at name owner = do
  shape ← field_shape at name (plain_of owner.kind)
  given (typed.field (unwrapped owner) name) (shaped shape)

abbrev pub len_of : Offset → Operand → Answer
len_of at list = do
  shape ← item_shape at (plain_of list.kind)
  given (typed.unary unary.Len (unwrapped list)) (shaped shapes.whole)

-- a tree of a kind, where its operands are what it requires
abbrev pub where_wanted : Offset → Bool → Typed → Kind → Answer
where_wanted at true tree kind = given tree kind
where_wanted at false tree kind = Err (WrongOperand at)

abbrev pub is_whole_number : Option Scalar → Bool
is_whole_number (Some scalars.Whole) = true
is_whole_number scalar = false

abbrev pub index_of : Offset → Operand → Operand → Answer
index_of at list index = do
  shape ← item_shape at (plain_of list.kind)
  where_wanted at (is_whole_number (scalar index)) (typed.binary binary.Index (unwrapped list) (unwrapped index))
      (shaped shape)

-- ---- numbers

abbrev pub number_kind : Numbers → Kind
number_kind Wholes = shaped shapes.whole
number_kind Decimals = shaped shapes.decimal

-- wholes alone stay wholes
abbrev pub widened : Numbers → Numbers → Numbers
widened Wholes Wholes = Wholes
widened left right = Decimals

abbrev pub negation_of : Offset → Option Numbers → Typed → Answer
negation_of at (Some numbers) tree = given (typed.unary (unary.Negate numbers) tree) (number_kind numbers)
negation_of at None tree = Err (WrongOperand at)

abbrev pub plus_of : Offset → Option Numbers → Typed → Answer
plus_of at (Some numbers) tree = given tree (number_kind numbers)
plus_of at None tree = Err (WrongOperand at)

-- quotients are decimals, also of wholes
abbrev pub arithmetic_kind : Arithmetic → Numbers → Kind
arithmetic_kind Divide numbers = shaped shapes.decimal
arithmetic_kind operator numbers = number_kind numbers

-- arithmetic of two numbers of one kind; remainders are of wholes alone
abbrev pub arithmetic_in : Numbers → Arithmetic → Option BinaryOperator
arithmetic_in Wholes operator = Some (binary.Wholes operator)
arithmetic_in Decimals Add = Some (binary.Decimals on_decimals.Add)
arithmetic_in Decimals Subtract = Some (binary.Decimals on_decimals.Subtract)
arithmetic_in Decimals Multiply = Some (binary.Decimals on_decimals.Multiply)
arithmetic_in Decimals Divide = Some (binary.Decimals on_decimals.Divide)
arithmetic_in Decimals Remainder = None

-- a tree of an operator, where there is one for its operands
abbrev pub where_there : Offset → Option BinaryOperator → Typed → Typed → Kind → Answer
where_there at (Some operator) left right kind = given (typed.binary operator left right) kind
where_there at None left right kind = Err (WrongOperand at)

abbrev pub arithmetic_among : Offset → Arithmetic → Numbers → Typed → Typed → Answer
arithmetic_among at operator numbers left right =
    where_there at (arithmetic_in numbers operator) left right (arithmetic_kind operator numbers)

abbrev pub arithmetic_on : Offset → Arithmetic → Option Numbers → Option Numbers → Typed → Typed → Answer
arithmetic_on at operator (Some m) (Some n) left right =
    arithmetic_among at operator (widened m n) (among n m left) (among m n right)
arithmetic_on at operator m n left right = Err (WrongOperand at)

-- two wholes and two decimals each have comparisons of their own
abbrev pub compared_of : Numbers → Numbers → Compared
compared_of Wholes Wholes = compared.Wholes
compared_of Decimals Decimals = compared.Decimals
compared_of left right = compared.Mixed

abbrev pub ordered_of : Offset → Order → Option Numbers → Option Numbers → Typed → Typed → Answer
ordered_of at order (Some m) (Some n) left right =
    given (typed.binary (binary.Compare (compared_of m n) order) left right) boolean_kind
ordered_of at order m n left right = Err (WrongOperand at)

-- ---- equality and membership

-- two scalars of one family, each of which may be nil
abbrev pub equal_of : Offset → Option Scalar → Option Scalar → Typed → Typed → Answer
equal_of at (Some m) (Some n) left right =
    where_wanted at (same_family (scalar_family m) (scalar_family n))
    (typed.binary (binary.Equal (scalar_family m)) left right) boolean_kind
equal_of at m n left right = Err (WrongOperand at)

abbrev pub is_nil_literal : Expression → Bool
is_nil_literal (trees.LiteralAt at literals.Nil) = true
is_nil_literal tree = false

-- which operand of an operator is the literal `nil`; where both are, the left one
pub data NilSide : Type 0 where
  LeftIsNil : NilSide
  RightIsNil : NilSide
  NeitherIsNil : NilSide

abbrev pub nil_side : (left right : Expression) → NilSide
nil_side left right =
    if is_nil_literal left then LeftIsNil
    else (if is_nil_literal right then RightIsNil
    else NeitherIsNil)

-- anything compares with the literal `nil`
abbrev pub equality_of : Offset → NilSide → Operand → Operand → Answer
equality_of at LeftIsNil left right = given (typed.unary unary.IsNil right.tree) boolean_kind
equality_of at RightIsNil left right = given (typed.unary unary.IsNil left.tree) boolean_kind
equality_of at NeitherIsNil left right = equal_of at (scalar left) (scalar right) left.tree right.tree

abbrev pub negated : Operand → Answer
negated condition = given (typed.unary unary.Not condition.tree) condition.kind

-- a scalar in a list of scalars of its family, any of which may be nil
abbrev pub member_of : Offset → Option Scalar → Option Scalar → Typed → Typed → Answer
member_of at (Some m) (Some n) operand list =
    where_wanted at (same_family (scalar_family m) (scalar_family n)) (typed.binary binary.IsIn operand list)
    boolean_kind
member_of at m n operand list = Err (WrongOperand at)

-- ---- operators

abbrev pub unary_of : Offset → Unary → Operand → Answer
unary_of at unaries.Minus operand = negation_of at (numbers operand) (unwrapped operand)
unary_of at unaries.Plus operand = plus_of at (numbers operand) (unwrapped operand)
unary_of at unaries.Not operand =
    where_wanted at (is_boolean operand) (typed.unary unary.Not (unwrapped operand)) boolean_kind

abbrev pub calculation_of : Offset → Arithmetic → Operand → Operand → Answer
calculation_of at operator left right =
    arithmetic_on at operator (numbers left) (numbers right) (unwrapped left) (unwrapped right)

abbrev pub ordering_of : Offset → Order → Operand → Operand → Answer
ordering_of at order left right =
    ordered_of at order (numbers left) (numbers right) (unwrapped left) (unwrapped right)

abbrev pub comparison_of : Offset → Comparison → NilSide → Operand → Operand → Answer
comparison_of at comparisons.Equal side left right = equality_of at side left right
comparison_of at comparisons.NotEqual side left right = equality_of at side left right >>= negated
comparison_of at comparisons.Less side left right = ordering_of at Less left right
comparison_of at comparisons.LessOrEqual side left right = ordering_of at LessOrEqual left right
comparison_of at comparisons.Greater side left right = ordering_of at Greater left right
comparison_of at comparisons.GreaterOrEqual side left right = ordering_of at GreaterOrEqual left right

abbrev pub in_of : Offset → Operand → Operand → Answer
in_of at left right =
    item_shape at (plain_of right.kind)
    >>= λ shape. member_of at (scalar left) (scalar_of (plain shape)) left.tree (unwrapped right)

-- a test of two texts, each unwrapped
abbrev pub text_test_of : Offset → TextTest → Operand → Operand → Answer
text_test_of at test left right =
    where_wanted at (is_text_operand left && is_text_operand right)
    (typed.binary (binary.TextTest test) (unwrapped left) (unwrapped right)) boolean_kind

abbrev pub binary_of : Offset → Binary → NilSide → Operand → Operand → Answer
binary_of at binaries.Or side left right =
    where_wanted at (is_boolean left && is_boolean right) (typed.either (unwrapped left) (unwrapped right)) boolean_kind
binary_of at binaries.And side left right =
    where_wanted at (is_boolean left && is_boolean right) (typed.both (unwrapped left) (unwrapped right)) boolean_kind
binary_of at (binaries.Comparison comparison) side left right = comparison_of at comparison side left right
binary_of at binaries.In side left right = in_of at left right
binary_of at binaries.NotIn side left right = in_of at left right >>= negated
binary_of at (binaries.TextTest test) side left right = text_test_of at test left right
binary_of at binaries.Add side left right = calculation_of at Add left right
binary_of at binaries.Subtract side left right = calculation_of at Subtract left right
binary_of at binaries.Multiply side left right = calculation_of at Multiply left right
binary_of at binaries.Divide side left right = calculation_of at Divide left right
binary_of at binaries.Remainder side left right = calculation_of at Remainder left right

-- ---- branches, defaults, lists

abbrev pub choice_in : Offset → Option Kind → Bool → Typed → Answer
choice_in at None is_boolean tree = Err (NoCommonKind at)
choice_in at (Some kind) is_boolean tree = where_wanted at is_boolean tree kind

-- each branch is converted to match the other
abbrev pub choice_tree : Typed → Operand → Operand → Typed
choice_tree condition then_branch else_branch =
    typed.choice condition (converted else_branch.kind then_branch.kind then_branch.tree)
    (converted then_branch.kind else_branch.kind else_branch.tree)

-- both branches have their common kind
abbrev pub choice_of : Offset → Operand → Operand → Operand → Answer
choice_of at condition then_branch else_branch =
    choice_in at (common then_branch.kind else_branch.kind) (is_boolean condition)
    (choice_tree (unwrapped condition) then_branch else_branch)

abbrev pub plain_kind : Kind → Kind
plain_kind nil = nil
plain_kind (shaped shape) = shaped (plain shape)

-- the common kind of what isn't nil, which may be nothing, and of what replaces nil
abbrev pub common_default : Kind → Kind → Option Kind
common_default nil other = Some other
common_default (shaped shape) other = common (shaped shape) other

abbrev pub in_common : Offset → Typed → Option Kind → Answer
in_common at tree (Some kind) = given tree kind
in_common at tree None = Err (NoCommonKind at)

-- each side is converted to match the other
abbrev pub default_tree : Typed → Kind → Typed → Kind → Typed
default_tree first plain other of_other =
    typed.binary binary.Default (converted of_other plain first) (converted plain of_other other)

abbrev pub default_of : Offset → Operand → Operand → Answer
default_of at first other =
    in_common at (default_tree first.tree (plain_kind first.kind) other.tree other.kind)
    (common_default (plain_kind first.kind) other.kind)

-- ---- lists

-- an item of a list literal, unwrapped: its offset, what scalar it is, and its tree
pub record Item : Type 0 where
  pub at : Offset
  pub scalar : Option Scalar
  pub tree : Typed

abbrev pub item_of : Offset → Operand → Item
item_of at operand = record { at = at; scalar = scalar operand; tree = unwrapped operand }

-- the offset of the first item that is no scalar
abbrev pub no_scalar : List Item → Option Offset
no_scalar [] = None
no_scalar (item ∷ items) = if is_some item.scalar then no_scalar items else Some item.at

-- two scalars of one kind, or numbers, of which wholes are converted to decimals
abbrev pub common_scalar : Option Scalar → Option Scalar → Option Scalar
common_scalar (Some scalars.Bool) (Some scalars.Bool) = Some scalars.Bool
common_scalar (Some scalars.Text) (Some scalars.Text) = Some scalars.Text
common_scalar (Some scalars.Whole) (Some scalars.Whole) = Some scalars.Whole
common_scalar (Some scalars.Whole) (Some scalars.Decimal) = Some scalars.Decimal
common_scalar (Some scalars.Decimal) (Some scalars.Whole) = Some scalars.Decimal
common_scalar (Some scalars.Decimal) (Some scalars.Decimal) = Some scalars.Decimal
common_scalar left right = None

-- what all items have in common with a scalar
abbrev pub common_with : Option Scalar → List Item → Option Scalar
common_with found [] = found
common_with found (item ∷ items) = common_with (common_scalar found item.scalar) items

abbrev pub common_of : List Item → Option Scalar
common_of [] = None
common_of (item ∷ items) = common_with item.scalar items

-- an item in a list of scalars
abbrev pub converted_item : Scalar → Option Scalar → Typed → Typed
converted_item scalars.Decimal (Some scalars.Whole) tree = typed.unary unary.ToDecimal tree
converted_item wanted scalar tree = tree

abbrev pub list_in_common : Offset → List Item → Option Scalar → Answer
list_in_common at items (Some scalar) =
    given (typed.listed scalar (typeds (map (λ item. converted_item scalar item.scalar item.tree) items)))
    (shaped (shapes.list (scalar_shape scalar) (length items)))
list_in_common at items None = Err (NoCommonKind at)

abbrev pub list_literal_of : Offset → List Item → Option Offset → Answer
list_literal_of at items (Some offset) = Err (NotScalar offset)
list_literal_of at items None = list_in_common at items (common_of items)

-- ---- predicates

-- one more predicate, inside `around` others
abbrev pub predicate_entered : Offset → ℕ → Shape → Result Shape TypeError
predicate_entered at around shape = if nat_lt around most_loops then Ok shape else Err (PredicatesTooDeep at)

-- what holds of an item: whether that is a boolean, and its tree
abbrev pub body_of : Operand → Result (Bool × Typed) TypeError
body_of body = Ok (is_boolean body, unwrapped body)

-- what holds of the items of a list, by what is typed where an item has their shape
unfoldable pub over_items : Offset → ℕ → Kind → (Shape → Answer) → Result (Bool × Typed) TypeError
over_items at around list typed = do
  shape ← item_shape at (plain_of list)
  inside ← predicate_entered at around shape
  body ← typed inside
  body_of body

-- the kind of what a predicate makes of a list
abbrev pub predicate_kind : Predicate → Kind → Kind
predicate_kind predicates.All list = boolean_kind
predicate_kind predicates.Any list = boolean_kind
predicate_kind predicates.None list = boolean_kind
predicate_kind predicates.One list = boolean_kind
predicate_kind predicates.Count list = shaped shapes.whole
predicate_kind predicates.Filter list = list

abbrev pub predicate_of : Offset → Predicate → Operand → Bool → Typed → Answer
predicate_of at predicate list is_boolean body =
    where_wanted at is_boolean (typed.predicate predicate (unwrapped list) body)
    (predicate_kind predicate (plain_kind list.kind))

-- ---- conditions

abbrev mutual
  -- A tree where `result` has a shape, and so does the innermost item, inside n predicates.
  pub typed_of : Shape → Option Shape → ℕ → Expression → Answer
  typed_of result item around (trees.ResultAt at) = given typed.result (shaped result)
  typed_of result item around (trees.ItemAt at) = innermost at item
  typed_of result item around (trees.LiteralAt at literal) = given (typed.literal literal) (literal_kind literal)
  typed_of result item around (trees.FieldAt at owner name) = do
    owner ← typed_of result item around owner
    field_of at name owner
  typed_of result item around (trees.IndexAt at list index) = do
    list ← typed_of result item around list
    index ← typed_of result item around index
    index_of at list index
  typed_of result item around (trees.UnaryAt at operator operand) = do
    operand ← typed_of result item around operand
    unary_of at operator operand
  typed_of result item around (trees.BinaryAt at operator left right) = do
    first ← typed_of result item around left
    second ← typed_of result item around right
    binary_of at operator (nil_side left right) first second
  typed_of result item around (trees.ChoiceAt at condition then_branch else_branch) = do
    condition ← typed_of result item around condition
    then_branch ← typed_of result item around then_branch
    else_branch ← typed_of result item around else_branch
    choice_of at condition then_branch else_branch
  typed_of result item around (trees.ListAt at items) = do
    items ← items_typed result item around items
    list_literal_of at items (no_scalar items)
  typed_of result item around (trees.LenAt at list) = do
    list ← typed_of result item around list
    len_of at list
  typed_of result item around (trees.IsNilAt at operand) = do
    operand ← typed_of result item around operand
    given (typed.unary unary.IsNil operand.tree) boolean_kind
  typed_of result item around (trees.DefaultAt at operand otherwise) = do
    operand ← typed_of result item around operand
    otherwise ← typed_of result item around otherwise
    default_of at operand otherwise
  typed_of result item around (trees.PredicateAt at predicate list body) = do
    list ← typed_of result item around list
    holds ← over_items at around list.kind (λ shape. typed_of result (Some shape) (suc around) body)
    predicate_of at predicate list holds.0 holds.1

  pub items_typed : Shape → Option Shape → ℕ → Expressions → Result (List Item) TypeError
  items_typed result item around trees.none = Ok []
  items_typed result item around (trees.more first others) = do
    operand ← typed_of result item around first
    items ← items_typed result item around others
    Ok (item_of (offset_of first) operand ∷ items)

-- an item of a list literal
abbrev pub item_typed : Shape → Option Shape → ℕ → Expression → Result Item TypeError
item_typed result item around tree =
    typed_of result item around tree >>= λ operand. Ok (item_of (offset_of tree) operand)

abbrev pub condition_of : Offset → Operand → Result Typed TypeError
condition_of at operand = if is_boolean operand then Ok (unwrapped operand) else Err (NotTruth at)

-- the typed tree of a condition: a boolean, unwrapped
abbrev pub checked : Shape → Expression → Result Typed TypeError
checked result tree = typed_of result None 0 tree >>= condition_of (offset_of tree)

-- ---- worked rows

a_comparison : checked shapes.whole
    (BinaryAt 7 (binaries.Comparison comparisons.Greater) (ResultAt 0) (LiteralAt 9 (literals.Whole (pos 1))))
    ≡ Ok (typed.binary (binary.Compare compared.Wholes Greater) typed.result (typed.literal (literals.Whole (pos 1))))
a_comparison = refl

a_nil_unwrapped : checked (shapes.optional shapes.bool) (ResultAt 0) ≡ Ok (typed.unary unary.Need typed.result)
a_nil_unwrapped = refl

no_boolean : checked shapes.whole (ResultAt 0) ≡ Err (NotTruth 0)
no_boolean = refl

text_and_number : checked shapes.text
    (BinaryAt 7 (binaries.Comparison comparisons.Greater) (ResultAt 0) (LiteralAt 9 (literals.Whole (pos 1))))
    ≡ Err (WrongOperand 7)
text_and_number = refl

-- Operators, as the table of kinds says of them.
use Rattle.ar_value.specs.Operators.{same_family}
use Rattle.std.proofs.Common.{◌≡◌, ℕ, Bool, true, false, Option, Some, None, Ok, refl, ◌∙◌, ap, sym, subst, inl, inr, is_some}
use Rattle.std.specs.Prelude.{◌&&◌, ◌⊎◌}
use Rattle.ar_value.specs.declared.operator.BinaryOperator.{BinaryOperator}
use Rattle.ar_value.specs.declared.operator.BinaryOperator.TheVariants as binary
use Rattle.ar_value.specs.declared.operator.UnaryOperator.TheVariants as unary
use Rattle.ar_value.specs.Answer.{◌>>=◌}
use Rattle.ar_value.specs.Kind.{Kind, shaped, plain, scalar_shape, boolean_kind}
use Rattle.ar_value.specs.Shape.{Shape}
use Rattle.ar_value.specs.Shape as shapes
use Rattle.ar_tree.specs.declared.tree.Comparison.TheVariants as comparisons
use Rattle.ar_tree.specs.declared.tree.Binary.{Binary}
use Rattle.ar_tree.specs.declared.tree.Binary.TheVariants as binaries
use Rattle.ar_check.specs.Check.{Answer, arithmetic_kind, arithmetic_on, binary_of, equal_of, equality_of, in_of, item_shape, member_of, negated, ordering_of, ordered_of, calculation_of, arithmetic_in, compared_of, where_there, text_test_of, where_wanted, widened}
use Rattle.ar_check.specs.Operand.{Operand, operand, scalar_family, is_text_operand, is_boolean, unwrapped, numbers, plain_of, scalar, scalar_of}
use Rattle.ar_tree.specs.Typed.{Typed}
use Rattle.ar_tree.specs.Typed as typed
use Rattle.ar_check.specs.Typing.{InCommon, IsEquality, IsNumber, IsScalar, Operates, OperatesOnOne, SameFamily, SumOf}
use Rattle.ar_check.specs.Typing as typing
use Rattle.ar_value.specs.declared.operator.Arithmetic.{Arithmetic}
use Rattle.ar_value.specs.declared.operator.Arithmetic.TheVariants.{Add, Subtract, Multiply, Divide, Remainder}
use Rattle.ar_value.specs.declared.operator.Numbers.{Numbers}
use Rattle.ar_value.specs.declared.operator.Numbers.TheVariants.{Wholes, Decimals}
use Rattle.ar_value.specs.declared.operator.Order.{Order}
use Rattle.ar_value.specs.declared.operator.Order.TheVariants.{Less, LessOrEqual, Greater, GreaterOrEqual}
use Rattle.ar_value.specs.declared.operator.Scalar.{Scalar}
use Rattle.ar_value.specs.declared.operator.Scalar.TheVariants as scalars
use Rattle.ar_value.specs.declared.operator.TextTest.{TextTest}
use Rattle.ar_check.proofs.Means.{both_hold}
use Rattle.ar_check.proofs.Means as means
use Rattle.ar_check.proofs.Tables.{IsTyped, are_numbers, bind_typed, from_bind, given_kind, is_scalar, items_are, kind_of_numbers, list_within, number_scalar, number_shape, numbers_within, same_kind, scalar_within, shape_of_scalar, text_is, text_within, then_typed, boolean_is, boolean_within, wanted_kind, wanted_typed}
use Rattle.ar_check.specs.Private.Inside.{side_by}

-- ---- the rows of scalars

-- numbers are numbers
pub number_row : (numbers : Numbers) → IsNumber (number_shape numbers)
number_row Wholes = typing.is_whole
number_row Decimals = typing.is_decimal

-- what is a number has numbers
pub numbers_row : {shape : Shape} → IsNumber shape → (numbers : Numbers) × (shape ≡ number_shape numbers)
numbers_row typing.is_whole = (Wholes, refl)
numbers_row typing.is_decimal = (Decimals, refl)

-- the sum of two numbers
sum_row : (m n : Numbers) → SumOf (number_shape m) (number_shape n) (number_shape (widened m n))
sum_row Wholes Wholes = typing.of_wholes
sum_row Wholes Decimals = typing.of_decimal_right
sum_row Decimals n = typing.of_decimal_left (number_row n)

-- what has a sum are two numbers
summed_row : {left right both : Shape} → SumOf left right both
    → (m n : Numbers) × (left ≡ number_shape m) × (right ≡ number_shape n) × (both ≡ number_shape (widened m n))
summed_row typing.of_wholes = (Wholes, Wholes, refl, refl, refl)
summed_row (typing.of_decimal_left is) = let found = numbers_row is in (Decimals, found.0, refl, found.1, refl)
summed_row typing.of_decimal_right = (Wholes, Decimals, refl, refl, refl)

-- scalars of one family
family_row : (m n : Scalar) → same_family (scalar_family m) (scalar_family n) ≡ true → SameFamily (scalar_shape m) (scalar_shape n)
family_row scalars.Bool scalars.Bool h = typing.booleans
family_row scalars.Whole scalars.Whole h = typing.numbers typing.is_whole typing.is_whole
family_row scalars.Whole scalars.Decimal h = typing.numbers typing.is_whole typing.is_decimal
family_row scalars.Decimal scalars.Whole h = typing.numbers typing.is_decimal typing.is_whole
family_row scalars.Decimal scalars.Decimal h = typing.numbers typing.is_decimal typing.is_decimal
family_row scalars.Text scalars.Text h = typing.texts
family_row m n h = absurd (cc)

-- numbers are of one family
numbers_family : (m n : Numbers) → same_family (scalar_family (number_scalar m)) (scalar_family (number_scalar n)) ≡ true
numbers_family Wholes Wholes = refl
numbers_family Wholes Decimals = refl
numbers_family Decimals Wholes = refl
numbers_family Decimals Decimals = refl

-- what is of one family are two scalars
families_row : {left right : Shape} → SameFamily left right
    → (m n : Scalar) × (left ≡ scalar_shape m) × (right ≡ scalar_shape n) × (same_family (scalar_family m) (scalar_family n) ≡ true)
families_row typing.booleans = (scalars.Bool, scalars.Bool, refl, refl, refl)
families_row (typing.numbers left right) =
    let m = numbers_row left in let n = numbers_row right in (number_scalar m.0, number_scalar n.0, m.1, n.1, numbers_family m.0 n.0)
families_row typing.texts = (scalars.Text, scalars.Text, refl, refl, refl)

-- ---- arithmetic

-- the operator of arithmetic
abbrev arithmetic_operator : Arithmetic → Binary
arithmetic_operator Add = binaries.Add
arithmetic_operator Subtract = binaries.Subtract
arithmetic_operator Multiply = binaries.Multiply
arithmetic_operator Divide = binaries.Divide
arithmetic_operator Remainder = binaries.Remainder

-- its shape
abbrev arithmetic_shape : Arithmetic → Numbers → Shape
arithmetic_shape Divide numbers = shapes.decimal
arithmetic_shape operator numbers = number_shape numbers

-- its kind
kind_of_arithmetic : (operator : Arithmetic) (numbers : Numbers) → arithmetic_kind operator numbers ≡ shaped (arithmetic_shape operator numbers)
kind_of_arithmetic Add numbers = kind_of_numbers numbers
kind_of_arithmetic Subtract numbers = kind_of_numbers numbers
kind_of_arithmetic Multiply numbers = kind_of_numbers numbers
kind_of_arithmetic Divide numbers = refl
kind_of_arithmetic Remainder numbers = kind_of_numbers numbers

-- arithmetic operates on two numbers
arithmetic_row : (operator : Arithmetic) (m n : Numbers) → is_some (arithmetic_in (widened m n) operator) ≡ true
    → Operates (arithmetic_operator operator) (number_shape m) (number_shape n) (arithmetic_shape operator (widened m n))
arithmetic_row Add m n h = typing.add (sum_row m n)
arithmetic_row Subtract m n h = typing.subtract (sum_row m n)
arithmetic_row Multiply m n h = typing.multiply (sum_row m n)
arithmetic_row Divide m n h = typing.divide (number_row m) (number_row n)
arithmetic_row Remainder Wholes Wholes h = typing.remainder
arithmetic_row Remainder Wholes Decimals h = absurd (cc)
arithmetic_row Remainder Decimals n h = absurd (cc)

-- what is given where there is an operator
there_kind : (at : ℕ) (operator : Option BinaryOperator) (left right : Typed) (kind : Kind) (found : Operand) → where_there at operator left right kind ≡ Ok found → (is_some operator ≡ true) × (kind ≡ found.kind)
there_kind at (Some operator) left right kind found h = (refl, given_kind (typed.binary operator left right) kind found h)
there_kind at None left right kind found h = absurd (cc)

there_typed : (at : ℕ) (operator : Option BinaryOperator) (left right : Typed) (kind : Kind) → is_some operator ≡ true → IsTyped (where_there at operator left right kind) kind
there_typed at (Some operator) left right kind h = (typed.binary operator left right, refl)
there_typed at None left right kind h = absurd (cc)

-- what arithmetic gives
arithmetic_found : (at : ℕ) (operator : Arithmetic) (m n : Option Numbers) (left right : Typed) (found : Operand) → arithmetic_on at operator m n left right ≡ Ok found
    → (a b : Numbers) × (m ≡ Some a) × (n ≡ Some b) × (is_some (arithmetic_in (widened a b) operator) ≡ true) × (arithmetic_kind operator (widened a b) ≡ found.kind)
arithmetic_found at operator (Some a) (Some b) left right found h =
    let given = there_kind at (arithmetic_in (widened a b) operator) _ _ (arithmetic_kind operator (widened a b)) found h in (a, b, refl, refl, given.0, given.1)
arithmetic_found at operator (Some a) None left right found h = absurd (cc)
arithmetic_found at operator None n left right found h = absurd (cc)

-- arithmetic of two numbers
arithmetic_typed : (at : ℕ) (operator : Arithmetic) (m n : Option Numbers) (a b : Numbers) (left right : Typed) → m ≡ Some a → n ≡ Some b → is_some (arithmetic_in (widened a b) operator) ≡ true
    → IsTyped (arithmetic_on at operator m n left right) (arithmetic_kind operator (widened a b))
arithmetic_typed at operator m n a b left right h k is = rw h (rw k (there_typed at (arithmetic_in (widened a b) operator) _ _ (arithmetic_kind operator (widened a b)) is))

-- ---- operators on two operands

-- an operator has a row for two kinds
abbrev pub Applies : Binary → Kind → Kind → Kind → Type 0
Applies operator left right kind = (of next_to shape : Shape) × (left ≡ shaped of) × (right ≡ shaped next_to) × (shaped shape ≡ kind) × Operates operator (plain of) (plain next_to) shape

-- the row of an operator, by other names
row_by : (operator : Binary) (p q of next_to shape : Shape) → of ≡ p → next_to ≡ q → Operates operator p q shape → Operates operator of next_to shape
row_by operator p q of next_to shape h k row = rw h (rw k row)

-- arithmetic has a row
sum_applies : (at : ℕ) (operator : Arithmetic) (left right found : Operand) → calculation_of at operator left right ≡ Ok found → Applies (arithmetic_operator operator) left.kind right.kind found.kind
sum_applies at operator left right found h =
    let sum = arithmetic_found at operator (numbers left) (numbers right) (unwrapped left) (unwrapped right) found h in
    let first = numbers_within left.kind sum.0 sum.2 in
    let second = numbers_within right.kind sum.1 sum.3 in
    let kind : shaped (arithmetic_shape operator (widened sum.0 sum.1)) ≡ found.kind = rw (sym (kind_of_arithmetic operator (widened sum.0 sum.1))) sum.5 in (
      first.0,
      second.0,
      arithmetic_shape operator (widened sum.0 sum.1),
      first.1,
      second.1,
      kind,
      row_by (arithmetic_operator operator) (number_shape sum.0) (number_shape sum.1) (plain first.0) (plain second.0) (arithmetic_shape operator (widened sum.0 sum.1)) first.2 second.2 (arithmetic_row operator sum.0 sum.1 sum.4),
    )

-- the operator of an order
abbrev order_operator : Order → Binary
order_operator Less = binaries.Comparison comparisons.Less
order_operator LessOrEqual = binaries.Comparison comparisons.LessOrEqual
order_operator Greater = binaries.Comparison comparisons.Greater
order_operator GreaterOrEqual = binaries.Comparison comparisons.GreaterOrEqual

-- an order is of two numbers
order_row : (order : Order) {left right : Shape} → IsNumber left → IsNumber right → Operates (order_operator order) left right shapes.bool
order_row Less left right = typing.less left right
order_row LessOrEqual left right = typing.less_or_equal left right
order_row Greater left right = typing.greater left right
order_row GreaterOrEqual left right = typing.greater_or_equal left right

-- what an order gives
ordered_found : (at : ℕ) (order : Order) (m n : Option Numbers) (left right : Typed) (found : Operand) → ordered_of at order m n left right ≡ Ok found
    → (a b : Numbers) × (m ≡ Some a) × (n ≡ Some b) × (boolean_kind ≡ found.kind)
ordered_found at order (Some a) (Some b) left right found h = (a, b, refl, refl, given_kind _ boolean_kind found h)
ordered_found at order (Some a) None left right found h = absurd (cc)
ordered_found at order None n left right found h = absurd (cc)

-- an order has a row
order_applies : (at : ℕ) (order : Order) (left right found : Operand) → ordering_of at order left right ≡ Ok found → Applies (order_operator order) left.kind right.kind found.kind
order_applies at order left right found h =
    let ordered = ordered_found at order (numbers left) (numbers right) (unwrapped left) (unwrapped right) found h in
    let first = numbers_within left.kind ordered.0 ordered.2 in
    let second = numbers_within right.kind ordered.1 ordered.3 in (
      first.0,
      second.0,
      shapes.bool,
      first.1,
      second.1,
      ordered.4,
      row_by (order_operator order) (number_shape ordered.0) (number_shape ordered.1) (plain first.0) (plain second.0) shapes.bool first.2 second.2 (order_row order (number_row ordered.0) (number_row ordered.1)),
    )

-- ---- equality and membership

-- what equality gives
equal_found : (at : ℕ) (m n : Option Scalar) (left right : Typed) (found : Operand) → equal_of at m n left right ≡ Ok found
    → (a b : Scalar) × (m ≡ Some a) × (n ≡ Some b) × (same_family (scalar_family a) (scalar_family b) ≡ true) × (boolean_kind ≡ found.kind)
equal_found at (Some a) (Some b) left right found h =
    let given = wanted_kind at (same_family (scalar_family a) (scalar_family b)) _ boolean_kind found h in (a, b, refl, refl, given.0, given.1)
equal_found at (Some a) None left right found h = absurd (cc)
equal_found at None n left right found h = absurd (cc)

-- an equality is of one family
equality_row : {operator : Binary} {left right : Shape} → IsEquality operator → SameFamily left right → Operates operator left right shapes.bool
equality_row typing.is_equal same = typing.equal same
equality_row typing.is_unequal same = typing.not_equal same

-- equality of two scalars has a row
pub equal_applies : (at : ℕ) (operator : Binary) → IsEquality operator → (left right found : Operand) → equal_of at (scalar left) (scalar right) left.tree right.tree ≡ Ok found
    → Applies operator left.kind right.kind found.kind
equal_applies at operator equality left right found h =
    let equal = equal_found at (scalar left) (scalar right) left.tree right.tree found h in
    let first = scalar_within left.kind equal.0 equal.2 in
    let second = scalar_within right.kind equal.1 equal.3 in (
      first.0,
      second.0,
      shapes.bool,
      first.1,
      second.1,
      equal.5,
      row_by operator (scalar_shape equal.0) (scalar_shape equal.1) (plain first.0) (plain second.0) shapes.bool first.2 second.2 (equality_row equality (family_row equal.0 equal.1 equal.4)),
    )

-- what membership gives
member_found : (at : ℕ) (m n : Option Scalar) (left right : Typed) (found : Operand) → member_of at m n left right ≡ Ok found
    → (a b : Scalar) × (m ≡ Some a) × (n ≡ Some b) × (same_family (scalar_family a) (scalar_family b) ≡ true) × (boolean_kind ≡ found.kind)
member_found at (Some a) (Some b) left right found h =
    let given = wanted_kind at (same_family (scalar_family a) (scalar_family b)) _ boolean_kind found h in (a, b, refl, refl, given.0, given.1)
member_found at (Some a) None left right found h = absurd (cc)
member_found at None n left right found h = absurd (cc)

-- whether it is in a list, or whether it isn't
data IsMembership : Binary → Type 0 where
  is_in : IsMembership binaries.In
  is_not_in : IsMembership binaries.NotIn

-- membership is in a list of scalars
member_row : {operator : Binary} {left item : Shape} {max : ℕ} → IsMembership operator → SameFamily left (plain item) → Operates operator left (shapes.list item max) shapes.bool
member_row is_in same = typing.within same
member_row is_not_in same = typing.not_within same

-- one family, by other names
family_by : (of next_to p q : Shape) → of ≡ p → next_to ≡ q → SameFamily p q → SameFamily of next_to
family_by of next_to p q h k same = rw h (rw k same)

-- membership has a row
in_applies : (at : ℕ) (operator : Binary) → IsMembership operator → (left right found : Operand) → in_of at left right ≡ Ok found → Applies operator left.kind right.kind found.kind
in_applies at operator membership left right found h =
    let item = from_bind (item_shape at (plain_of right.kind)) (λ shape. member_of at (scalar left) (scalar_of (plain shape)) left.tree (unwrapped right)) found h in
    let second = list_within at right.kind item.0 item.1 in
    let member = member_found at (scalar left) (scalar_of (plain item.0)) left.tree (unwrapped right) found item.2 in
    let first = scalar_within left.kind member.0 member.2 in
    let same = family_by (plain first.0) (plain item.0) (scalar_shape member.0) (scalar_shape member.1) first.2 (shape_of_scalar (plain item.0) member.1 member.3) (family_row member.0 member.1 member.4) in (
      first.0,
      second.0,
      shapes.bool,
      first.1,
      second.2,
      member.5,
      row_by operator (plain first.0) (shapes.list item.0 second.1) (plain first.0) (plain second.0) shapes.bool refl second.3 (member_row membership same),
    )

-- what is negated keeps its kind
negated_applies : (operator : Binary) (left right found : Operand) (answer : Answer) → ((found : Operand) → answer ≡ Ok found → Applies operator left.kind right.kind found.kind)
    → (answer >>= negated) ≡ Ok found → Applies operator left.kind right.kind found.kind
negated_applies operator left right found answer applies h =
    let condition = from_bind answer negated found h in
    subst (λ kind. Applies operator left.kind right.kind kind) (given_kind (typed.unary unary.Not condition.0.tree) condition.0.kind found condition.2) (applies condition.0 condition.1)

-- `and` and `or` are of two booleans
booleans_apply : (at : ℕ) (operator : Binary) (left right found : Operand) (tree : Typed) → Operates operator shapes.bool shapes.bool shapes.bool
    → where_wanted at (is_boolean left && is_boolean right) tree boolean_kind ≡ Ok found → Applies operator left.kind right.kind found.kind
booleans_apply at operator left right found tree row h =
    let given = wanted_kind at (is_boolean left && is_boolean right) tree boolean_kind found h in
    let sides = both_hold (is_boolean left) (is_boolean right) given.0 in
    let first = boolean_within left.kind sides.0 in
    let second = boolean_within right.kind sides.1 in
    (first.0, second.0, shapes.bool, first.1, second.1, given.1, row_by operator shapes.bool shapes.bool (plain first.0) (plain second.0) shapes.bool first.2 second.2 row)

-- a test of texts has a row
texts_apply : (at : ℕ) (test : TextTest) (left right found : Operand) → text_test_of at test left right ≡ Ok found → Applies (binaries.TextTest test) left.kind right.kind found.kind
texts_apply at test left right found h =
    let given = wanted_kind at (is_text_operand left && is_text_operand right) (typed.binary (binary.TextTest test) (unwrapped left) (unwrapped right)) boolean_kind found h in
    let sides = both_hold (is_text_operand left) (is_text_operand right) given.0 in
    let first = text_within left.kind sides.0 in
    let second = text_within right.kind sides.1 in
    (first.0, second.0, shapes.bool, first.1, second.1, given.1, row_by (binaries.TextTest test) shapes.text shapes.text (plain first.0) (plain second.0) shapes.bool first.2 second.2 (typing.text_test test))

-- an operator that is no equality has a row for what it is given
pub operator_applies : (at : ℕ) (operator : Binary) (nil_left nil_right : Bool) (left right found : Operand)
    → binary_of at operator (side_by nil_left nil_right) left right ≡ Ok found → IsEquality operator ⊎ Applies operator left.kind right.kind found.kind
operator_applies at binaries.Or nil_left nil_right left right found h = inr (booleans_apply at binaries.Or left right found _ typing.either h)
operator_applies at binaries.And nil_left nil_right left right found h = inr (booleans_apply at binaries.And left right found _ typing.both h)
operator_applies at (binaries.Comparison comparisons.Equal) nil_left nil_right left right found h = inl typing.is_equal
operator_applies at (binaries.Comparison comparisons.NotEqual) nil_left nil_right left right found h = inl typing.is_unequal
operator_applies at (binaries.Comparison comparisons.Less) nil_left nil_right left right found h = inr (order_applies at Less left right found h)
operator_applies at (binaries.Comparison comparisons.LessOrEqual) nil_left nil_right left right found h = inr (order_applies at LessOrEqual left right found h)
operator_applies at (binaries.Comparison comparisons.Greater) nil_left nil_right left right found h = inr (order_applies at Greater left right found h)
operator_applies at (binaries.Comparison comparisons.GreaterOrEqual) nil_left nil_right left right found h = inr (order_applies at GreaterOrEqual left right found h)
operator_applies at binaries.In nil_left nil_right left right found h = inr (in_applies at binaries.In is_in left right found h)
operator_applies at binaries.NotIn nil_left nil_right left right found h = inr (negated_applies binaries.NotIn left right found (in_of at left right) (in_applies at binaries.NotIn is_not_in left right) h)
operator_applies at (binaries.TextTest test) nil_left nil_right left right found h = inr (texts_apply at test left right found h)
operator_applies at binaries.Add nil_left nil_right left right found h = inr (sum_applies at Add left right found h)
operator_applies at binaries.Subtract nil_left nil_right left right found h = inr (sum_applies at Subtract left right found h)
operator_applies at binaries.Multiply nil_left nil_right left right found h = inr (sum_applies at Multiply left right found h)
operator_applies at binaries.Divide nil_left nil_right left right found h = inr (sum_applies at Divide left right found h)
operator_applies at binaries.Remainder nil_left nil_right left right found h = inr (sum_applies at Remainder left right found h)

-- ---- what has a row is typed

-- arithmetic of two numbers
sum_typed : (at : ℕ) (operator : Arithmetic) (of next_to : Shape) (left right : Typed) (m n : Numbers) → plain of ≡ number_shape m → plain next_to ≡ number_shape n → is_some (arithmetic_in (widened m n) operator) ≡ true
    → IsTyped (calculation_of at operator (operand left (shaped of)) (operand right (shaped next_to))) (shaped (arithmetic_shape operator (widened m n)))
sum_typed at operator of next_to left right m n h k is =
    same_kind (calculation_of at operator (operand left (shaped of)) (operand right (shaped next_to))) (arithmetic_kind operator (widened m n)) (shaped (arithmetic_shape operator (widened m n)))
    (kind_of_arithmetic operator (widened m n))
    (arithmetic_typed at operator (numbers (operand left (shaped of))) (numbers (operand right (shaped next_to))) m n (unwrapped (operand left (shaped of))) (unwrapped (operand right (shaped next_to)))
    (are_numbers (plain of) m h) (are_numbers (plain next_to) n k) is)

-- what there is of decimals there is of wholes, too
there_in : (operator : Arithmetic) → is_some (arithmetic_in Decimals operator) ≡ true → (numbers : Numbers) → is_some (arithmetic_in numbers operator) ≡ true
there_in operator h Wholes = refl
there_in operator h Decimals = h

-- sums, differences and products
added_typed : (at : ℕ) (operator : Arithmetic) → ((numbers : Numbers) → arithmetic_shape operator numbers ≡ number_shape numbers) → ((numbers : Numbers) → is_some (arithmetic_in numbers operator) ≡ true)
    → {p q both : Shape} → SumOf p q both → (of next_to : Shape) (left right : Typed) → plain of ≡ p → plain next_to ≡ q
    → IsTyped (calculation_of at operator (operand left (shaped of)) (operand right (shaped next_to))) (shaped both)
added_typed at operator shape there sum of next_to left right h k =
    let row = summed_row sum in
    same_kind (calculation_of at operator (operand left (shaped of)) (operand right (shaped next_to))) (shaped (arithmetic_shape operator (widened row.0 row.1))) _
    (ap shaped (shape (widened row.0 row.1) ∙ sym row.4)) (sum_typed at operator of next_to left right row.0 row.1 (h ∙ row.2) (k ∙ row.3) (there (widened row.0 row.1)))

-- the order of two numbers
ordered_typed : (at : ℕ) (order : Order) (m n : Option Numbers) (a b : Numbers) (left right : Typed) → m ≡ Some a → n ≡ Some b → IsTyped (ordered_of at order m n left right) boolean_kind
ordered_typed at order m n a b left right h k = rw h (rw k (typed.binary (binary.Compare (compared_of a b) order) left right, refl))

-- likewise of two operands
order_typed : (at : ℕ) (order : Order) {p q : Shape} → IsNumber p → IsNumber q → (of next_to : Shape) (left right : Typed) → plain of ≡ p → plain next_to ≡ q
    → IsTyped (ordering_of at order (operand left (shaped of)) (operand right (shaped next_to))) boolean_kind
order_typed at order first second of next_to left right h k =
    let m = numbers_row first in let n = numbers_row second in
    ordered_typed at order (numbers (operand left (shaped of))) (numbers (operand right (shaped next_to))) m.0 n.0 (unwrapped (operand left (shaped of))) (unwrapped (operand right (shaped next_to)))
    (are_numbers (plain of) m.0 (h ∙ m.1)) (are_numbers (plain next_to) n.0 (k ∙ n.1))

-- equality of two scalars
equal_typed : (at : ℕ) (m n : Option Scalar) (a b : Scalar) (left right : Typed) → m ≡ Some a → n ≡ Some b → same_family (scalar_family a) (scalar_family b) ≡ true → IsTyped (equal_of at m n left right) boolean_kind
equal_typed at m n a b left right h k is = rw h (rw k (wanted_typed at (same_family (scalar_family a) (scalar_family b)) _ boolean_kind is))

-- equality, also with nil
equality_typed : (at : ℕ) (nil_left nil_right : Bool) {p q : Shape} → SameFamily p q → (of next_to : Shape) (left right : Typed) → plain of ≡ p → plain next_to ≡ q
    → IsTyped (equality_of at (side_by nil_left nil_right) (operand left (shaped of)) (operand right (shaped next_to))) boolean_kind
equality_typed at true nil_right same of next_to left right h k = (typed.unary unary.IsNil right, refl)
equality_typed at false true same of next_to left right h k = (typed.unary unary.IsNil left, refl)
equality_typed at false false same of next_to left right h k =
    let row = families_row same in
    equal_typed at (scalar (operand left (shaped of))) (scalar (operand right (shaped next_to))) row.0 row.1 left right (is_scalar (plain of) row.0 (h ∙ row.2)) (is_scalar (plain next_to) row.1 (k ∙ row.3)) row.4

-- membership of a scalar
member_typed : (at : ℕ) (m n : Option Scalar) (a b : Scalar) (left right : Typed) → m ≡ Some a → n ≡ Some b → same_family (scalar_family a) (scalar_family b) ≡ true → IsTyped (member_of at m n left right) boolean_kind
member_typed at m n a b left right h k is = rw h (rw k (wanted_typed at (same_family (scalar_family a) (scalar_family b)) _ boolean_kind is))

-- likewise in a list
in_typed : (at : ℕ) {p item : Shape} {max : ℕ} → SameFamily p (plain item) → (of next_to : Shape) (left right : Typed) → plain of ≡ p → plain next_to ≡ shapes.list item max
    → IsTyped (in_of at (operand left (shaped of)) (operand right (shaped next_to))) boolean_kind
in_typed at {item = item} {max = max} same of next_to left right h k =
    let row = families_row same in
    bind_typed (item_shape at (Some (plain next_to))) (λ shape. member_of at (scalar (operand left (shaped of))) (scalar_of (plain shape)) left (unwrapped (operand right (shaped next_to)))) item boolean_kind
    (items_are at (plain next_to) item max k)
    (member_typed at (scalar (operand left (shaped of))) (scalar_of (plain item)) row.0 row.1 left (unwrapped (operand right (shaped next_to)))
    (is_scalar (plain of) row.0 (h ∙ row.2)) (is_scalar (plain item) row.1 row.3) row.4)

-- what is negated keeps its kind
pub negated_typed : (answer : Answer) (kind : Kind) → IsTyped answer kind → IsTyped (answer >>= negated) kind
negated_typed answer kind h = then_typed answer negated kind kind h (λ tree. (typed.unary unary.Not tree, refl))

-- two booleans
booleans_typed : (at : ℕ) (of next_to : Shape) (tree left right : Typed) → plain of ≡ shapes.bool → plain next_to ≡ shapes.bool
    → IsTyped (where_wanted at (is_boolean (operand left (shaped of)) && is_boolean (operand right (shaped next_to))) tree boolean_kind) boolean_kind
booleans_typed at of next_to tree left right h k =
    wanted_typed at (is_boolean (operand left (shaped of)) && is_boolean (operand right (shaped next_to))) tree boolean_kind
    (means.both (is_boolean (operand left (shaped of))) (is_boolean (operand right (shaped next_to))) (boolean_is (plain of) h) (boolean_is (plain next_to) k))

-- two texts
texts_typed : (at : ℕ) (test : TextTest) (of next_to : Shape) (left right : Typed) → plain of ≡ shapes.text → plain next_to ≡ shapes.text
    → IsTyped (text_test_of at test (operand left (shaped of)) (operand right (shaped next_to))) boolean_kind
texts_typed at test of next_to left right h k =
    wanted_typed at (is_text_operand (operand left (shaped of)) && is_text_operand (operand right (shaped next_to)))
    (typed.binary (binary.TextTest test) (unwrapped (operand left (shaped of))) (unwrapped (operand right (shaped next_to)))) boolean_kind
    (means.both (is_text_operand (operand left (shaped of))) (is_text_operand (operand right (shaped next_to))) (text_is (plain of) h) (text_is (plain next_to) k))

-- an operator with a row for two operands is typed
pub operator_typed : (at : ℕ) (nil_left nil_right : Bool) {operator : Binary} {p q shape : Shape} → Operates operator p q shape → (of next_to : Shape) (left right : Typed) → plain of ≡ p → plain next_to ≡ q
    → IsTyped (binary_of at operator (side_by nil_left nil_right) (operand left (shaped of)) (operand right (shaped next_to))) (shaped shape)
operator_typed at nil_left nil_right (typing.add sum) of next_to left right h k = added_typed at Add (λ n. refl) (there_in Add refl) sum of next_to left right h k
operator_typed at nil_left nil_right (typing.subtract sum) of next_to left right h k = added_typed at Subtract (λ n. refl) (there_in Subtract refl) sum of next_to left right h k
operator_typed at nil_left nil_right (typing.multiply sum) of next_to left right h k = added_typed at Multiply (λ n. refl) (there_in Multiply refl) sum of next_to left right h k
operator_typed at nil_left nil_right (typing.divide first second) of next_to left right h k =
    let m = numbers_row first in let n = numbers_row second in sum_typed at Divide of next_to left right m.0 n.0 (h ∙ m.1) (k ∙ n.1) (there_in Divide refl (widened m.0 n.0))
operator_typed at nil_left nil_right typing.remainder of next_to left right h k = sum_typed at Remainder of next_to left right Wholes Wholes h k refl
operator_typed at nil_left nil_right (typing.less first second) of next_to left right h k = order_typed at Less first second of next_to left right h k
operator_typed at nil_left nil_right (typing.less_or_equal first second) of next_to left right h k = order_typed at LessOrEqual first second of next_to left right h k
operator_typed at nil_left nil_right (typing.greater first second) of next_to left right h k = order_typed at Greater first second of next_to left right h k
operator_typed at nil_left nil_right (typing.greater_or_equal first second) of next_to left right h k = order_typed at GreaterOrEqual first second of next_to left right h k
operator_typed at nil_left nil_right (typing.equal same) of next_to left right h k = equality_typed at nil_left nil_right same of next_to left right h k
operator_typed at nil_left nil_right (typing.not_equal same) of next_to left right h k =
    negated_typed (equality_of at (side_by nil_left nil_right) (operand left (shaped of)) (operand right (shaped next_to))) boolean_kind (equality_typed at nil_left nil_right same of next_to left right h k)
operator_typed at nil_left nil_right typing.both of next_to left right h k = booleans_typed at of next_to _ left right h k
operator_typed at nil_left nil_right typing.either of next_to left right h k = booleans_typed at of next_to _ left right h k
operator_typed at nil_left nil_right (typing.within same) of next_to left right h k = in_typed at same of next_to left right h k
operator_typed at nil_left nil_right (typing.not_within same) of next_to left right h k =
    negated_typed (in_of at (operand left (shaped of)) (operand right (shaped next_to))) boolean_kind (in_typed at same of next_to left right h k)
operator_typed at nil_left nil_right (typing.text_test test) of next_to left right h k = texts_typed at test of next_to left right h k

-- Operators on one operand, as the table of kinds says of them.
use Rattle.std.proofs.Common.{◌≡◌, ℕ, Option, Some, None, Ok, refl, ◌∙◌, ap, sym}
use Rattle.std.specs.Prelude.{option_and_then}
use Rattle.ar_value.specs.declared.operator.UnaryOperator.TheVariants as unary
use Rattle.ar_value.specs.Kind.{Kind, shaped, plain, boolean_kind}
use Rattle.ar_value.specs.Shape.{Shape}
use Rattle.ar_value.specs.Shape as shapes
use Rattle.ar_tree.specs.declared.tree.Unary.{Unary}
use Rattle.ar_tree.specs.declared.tree.Unary.TheVariants as unaries
use Rattle.ar_check.specs.Check.{Answer, negation_of, number_kind, plus_of, unary_of}
use Rattle.ar_check.specs.Operand.{Operand, operand, is_boolean, unwrapped, numbers, numbers_in, plain_of, scalar_of}
use Rattle.ar_tree.specs.Typed.{Typed}
use Rattle.ar_tree.specs.Typed as typed
use Rattle.ar_check.specs.Typing.{InCommon, IsEquality, IsNumber, IsScalar, Operates, OperatesOnOne, SameFamily, SumOf}
use Rattle.ar_check.specs.Typing as typing
use Rattle.ar_value.specs.declared.operator.Numbers.{Numbers}
use Rattle.ar_check.proofs.Tables.{IsTyped, are_numbers, given_kind, kind_of_numbers, number_shape, numbers_within, same_kind, boolean_is, boolean_within, wanted_kind, wanted_typed}
use Rattle.ar_check.proofs.OperatorTables.{number_row, numbers_row}

-- an operator has a row for one kind
abbrev pub AppliesToOne : Unary → Kind → Kind → Type 0
AppliesToOne operator kind found = (of shape : Shape) × (kind ≡ shaped of) × (shaped shape ≡ found) × OperatesOnOne operator (plain of) shape

-- the row of an operator, by another name
one_row_by : (operator : Unary) (p of shape : Shape) → of ≡ p → OperatesOnOne operator p shape → OperatesOnOne operator of shape
one_row_by operator p of shape h row = rw h row

-- what a negative gives
negative_found : (at : ℕ) (numbers : Option Numbers) (tree : Typed) (found : Operand) → negation_of at numbers tree ≡ Ok found → (n : Numbers) × (numbers ≡ Some n) × (number_kind n ≡ found.kind)
negative_found at (Some n) tree found h = (n, refl, given_kind _ (number_kind n) found h)
negative_found at None tree found h = absurd (cc)

-- what `+` gives
positive_found : (at : ℕ) (numbers : Option Numbers) (tree : Typed) (found : Operand) → plus_of at numbers tree ≡ Ok found → (n : Numbers) × (numbers ≡ Some n) × (number_kind n ≡ found.kind)
positive_found at (Some n) tree found h = (n, refl, given_kind _ (number_kind n) found h)
positive_found at None tree found h = absurd (cc)

-- a sign comes before a number
sign_applies : (operator : Unary) (kind found : Kind) (n : Numbers) → option_and_then numbers_in (option_and_then scalar_of (plain_of kind)) ≡ Some n → number_kind n ≡ found
    → OperatesOnOne operator (number_shape n) (number_shape n) → AppliesToOne operator kind found
sign_applies operator kind found n h same row =
    let first = numbers_within kind n h in
    (first.0, number_shape n, first.1, sym (kind_of_numbers n) ∙ same, one_row_by operator (number_shape n) (plain first.0) (number_shape n) first.2 row)

-- an operator has a row for what it is given
pub sign_row : (at : ℕ) (operator : Unary) (operand found : Operand) → unary_of at operator operand ≡ Ok found → AppliesToOne operator operand.kind found.kind
sign_row at unaries.Minus operand found h =
    let n = negative_found at (numbers operand) (unwrapped operand) found h in sign_applies unaries.Minus operand.kind found.kind n.0 n.1 n.2 (typing.minus (number_row n.0))
sign_row at unaries.Plus operand found h =
    let n = positive_found at (numbers operand) (unwrapped operand) found h in sign_applies unaries.Plus operand.kind found.kind n.0 n.1 n.2 (typing.plus (number_row n.0))
sign_row at unaries.Not operand found h =
    let given = wanted_kind at (is_boolean operand) _ boolean_kind found h in
    let first = boolean_within operand.kind given.0 in
    (first.0, shapes.bool, first.1, given.1, one_row_by unaries.Not shapes.bool (plain first.0) shapes.bool first.2 typing.opposite)

-- the negative of a number
negative_typed : (at : ℕ) (numbers : Option Numbers) (n : Numbers) (tree : Typed) → numbers ≡ Some n → IsTyped (negation_of at numbers tree) (number_kind n)
negative_typed at numbers n tree h = rw h (typed.unary (unary.Negate n) tree, refl)

-- a number after `+`
positive_typed : (at : ℕ) (numbers : Option Numbers) (n : Numbers) (tree : Typed) → numbers ≡ Some n → IsTyped (plus_of at numbers tree) (number_kind n)
positive_typed at numbers n tree h = rw h (tree, refl)

-- a number's kind, by its shape
by_shape : (answer : Answer) (n : Numbers) (shape : Shape) → shape ≡ number_shape n → IsTyped answer (number_kind n) → IsTyped answer (shaped shape)
by_shape answer n shape h is = same_kind answer (number_kind n) (shaped shape) (kind_of_numbers n ∙ ap shaped (sym h)) is

-- an operator with a row for one operand is typed
pub sign_typed : (at : ℕ) {operator : Unary} {p shape : Shape} → OperatesOnOne operator p shape → (of : Shape) (tree : Typed) → plain of ≡ p → IsTyped (unary_of at operator (operand tree (shaped of))) (shaped shape)
sign_typed at (typing.minus is) of tree h =
    let n = numbers_row is in
    by_shape (unary_of at unaries.Minus (operand tree (shaped of))) n.0 _ n.1
    (negative_typed at (numbers (operand tree (shaped of))) n.0 (unwrapped (operand tree (shaped of))) (are_numbers (plain of) n.0 (h ∙ n.1)))
sign_typed at (typing.plus is) of tree h =
    let n = numbers_row is in
    by_shape (unary_of at unaries.Plus (operand tree (shaped of))) n.0 _ n.1
    (positive_typed at (numbers (operand tree (shaped of))) n.0 (unwrapped (operand tree (shaped of))) (are_numbers (plain of) n.0 (h ∙ n.1)))
sign_typed at typing.opposite of tree h = wanted_typed at (is_boolean (operand tree (shaped of))) _ boolean_kind (boolean_is (plain of) h)

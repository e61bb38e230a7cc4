-- What says a checked tree is checked to the same tree again, where each `Need` is where the check inserts it.
use Rattle.std.proofs.Common.{◌≡◌, ℕ, suc, Bool, true, false, List, [], ◌∷◌, length, map, refl, sym, ◌∙◌, ap, subst, Option, Some, None, Result, Ok, Err}
use Rattle.std.specs.Prelude.{◌&&◌, is_some, if◌then◌else◌, nat_lt, option_and_then}
use Rattle.ar_value.specs.Answer.{◌>>=◌}
use Rattle.ar_value.specs.Kind.{Kind, nil, shaped, common, plain, boolean_kind, is_decimal, is_optional, scalar_shape}
use Rattle.ar_value.specs.Limits.{most_loops}
use Rattle.ar_value.specs.Operators.{same_family}
use Rattle.ar_value.specs.Shape.{FieldShapes, Shape, shape_named}
use Rattle.ar_value.specs.Shape as shapes
use Rattle.ar_value.specs.Terms.{Text}
use Rattle.ar_value.specs.declared.operator.Arithmetic.{Arithmetic}
use Rattle.ar_value.specs.declared.operator.Arithmetic.TheVariants as wholes
use Rattle.ar_value.specs.declared.operator.BinaryOperator.{BinaryOperator}
use Rattle.ar_value.specs.declared.operator.BinaryOperator.TheVariants as binary
use Rattle.ar_value.specs.declared.operator.DecimalArithmetic.TheVariants as decimals
use Rattle.ar_value.specs.declared.operator.Numbers.{Numbers}
use Rattle.ar_value.specs.declared.operator.Numbers.TheVariants.{Wholes, Decimals}
use Rattle.ar_value.specs.declared.operator.Order.{Order}
use Rattle.ar_value.specs.declared.operator.Order.TheVariants as orders
use Rattle.ar_value.specs.declared.operator.Predicate.{Predicate}
use Rattle.ar_value.specs.declared.operator.Scalar.{Scalar}
use Rattle.ar_value.specs.declared.operator.Scalar.TheVariants as scalars
use Rattle.ar_value.specs.declared.operator.TextTest.{TextTest}
use Rattle.ar_value.specs.declared.operator.UnaryOperator.TheVariants as unary
use Rattle.ar_tree.specs.Expression.{Expression, Expressions, ResultAt, ItemAt, LiteralAt, FieldAt, IndexAt, UnaryAt, BinaryAt, ChoiceAt, ListAt, LenAt, IsNilAt, DefaultAt, PredicateAt, offset_of}
use Rattle.ar_tree.specs.Expression as trees
use Rattle.ar_tree.specs.Typed.{Typed, Typeds, typeds}
use Rattle.ar_tree.specs.Typed as typed
use Rattle.ar_tree.specs.declared.tree.Binary.{Binary}
use Rattle.ar_tree.specs.declared.tree.Binary.TheVariants as binaries
use Rattle.ar_tree.specs.declared.tree.Comparison.TheVariants as comparisons
use Rattle.ar_tree.specs.declared.tree.Literal.TheVariants as literals
use Rattle.ar_tree.specs.declared.tree.Unary.{Unary}
use Rattle.ar_tree.specs.declared.tree.Unary.TheVariants as unaries
use Rattle.ar_check.specs.Basics.{literal_kind}
use Rattle.ar_check.specs.Check.{Item, LeftIsNil, NeitherIsNil, NilSide, RightIsNil, arithmetic_in, arithmetic_kind, arithmetic_on, binary_of, body_of, calculation_of, choice_in, choice_of, choice_tree, common_default, common_of, common_with, compared_of, condition_of, checked, converted_item, default_of, default_tree, equal_of, equality_of, field_of, field_shape, found_field, given, in_common, in_of, index_of, innermost, is_nil_literal, is_whole_number, item_of, item_shape, items_typed, len_of, list_literal_of, member_of, negated, negation_of, nil_side, no_scalar, number_kind, ordered_of, ordering_of, over_items, plain_kind, plus_of, predicate_entered, predicate_kind, predicate_of, text_test_of, typed_of, unary_of, where_there, where_wanted, widened}
use Rattle.ar_check.specs.Operand.{Operand, among, converted, is_boolean, is_text_operand, is_whole, numbers, numbers_in, operand, plain_of, plain_tree, scalar, scalar_family, scalar_of, unwrapped}
use Rattle.ar_check.specs.declared.error.TypeError.{TypeError}
use Rattle.ar_check.specs.declared.error.TypeError.TheVariants.{PredicatesTooDeep}
use Rattle.ar_parsed_back.specs.InPlace.{EachInPlace, MayBeNil, NeedsInPlace}
use Rattle.ar_parsed_back.specs.Kinds.{written_order}
use Rattle.ar_parsed_back.specs.Written.{Writes, WritesEach, arithmetic_of, infix_of}
use Rattle.ar_parsed_back.proofs.Parts.{Covers, both_form, choice_form, converts, covered_nil, covered_place, covered_says, covers_both, default_form, either_form, field_form, index_form, infix_form, is_nil_form, item_form, itself, len_form, list_form, literal_form, minus_form, more_form, none_form, not_form, predicate_form, result_form, unwraps}

-- ---- answers

pub bound : {A B : Type 0} (answer : Result A TypeError) (next : A → Result B TypeError) (value : B) → (answer >>= next) ≡ Ok value → (x : A) × (answer ≡ Ok x) × (next x ≡ Ok value)
bound (Ok x) next value e = (x, refl, e)
bound (Err error) next value e = absurd cc

-- an answer doesn't depend on the offset that a refusal would have
field_shape_at : (at other : ℕ) (name : Text) (of : Option Shape) (shape : Shape) → field_shape at name of ≡ Ok shape → field_shape other name of ≡ Ok shape
field_shape_at at other name None shape e = absurd cc
field_shape_at at other name (Some (shapes.object fields)) shape e = by (shape_named name fields) e
  where
    by : (found : Option Shape) → found_field at found ≡ Ok shape → found_field other found ≡ Ok shape
    by None e = absurd cc
    by (Some found) e = e
field_shape_at at other name (Some of) shape e = absurd cc

item_shape_at : (at other : ℕ) (of : Option Shape) (shape : Shape) → item_shape at of ≡ Ok shape → item_shape other of ≡ Ok shape
item_shape_at at other None shape e = absurd cc
item_shape_at at other (Some (shapes.list of max)) shape e = e
item_shape_at at other (Some of) shape e = absurd cc

pub wanted : (at : ℕ) (test : Bool) (tree : Typed) (kind : Kind) (first : Operand) → where_wanted at test tree kind ≡ Ok first → (test ≡ true) × (given tree kind ≡ Ok first)
wanted at true tree kind first e = (refl, e)
wanted at false tree kind first e = absurd cc

-- ---- what covers what

pub plain_covers : (kind : Kind) (tree : Typed) → Covers (plain_tree kind tree) tree
plain_covers nil tree = itself
plain_covers (shaped shape) tree = by (is_optional shape)
  where
    by : (optional : Bool) → Covers (if optional then typed.unary unary.Need tree else tree) tree
    by true = unwraps itself
    by false = itself

pub unwrapped_covers : (of : Operand) → Covers (unwrapped of) of.tree
unwrapped_covers of = plain_covers of.kind of.tree

pub among_covers : (other numbers : Numbers) (tree : Typed) → Covers (among other numbers tree) tree
among_covers Decimals Wholes tree = converts itself
among_covers Decimals Decimals tree = itself
among_covers Wholes numbers tree = itself

pub converted_covers : (other kind : Kind) (tree : Typed) → Covers (converted other kind tree) tree
converted_covers nil kind tree = itself
converted_covers (shaped other) nil tree = itself
converted_covers (shaped other) (shaped shape) tree = by (is_decimal other && is_whole (plain shape))
  where
    by : (turns : Bool) → Covers (if turns then typed.unary unary.ToDecimal tree else tree) tree
    by true = converts itself
    by false = itself

pub item_covers : (wanted_scalar : Scalar) (found : Option Scalar) (tree : Typed) → Covers (converted_item wanted_scalar found tree) tree
item_covers scalars.Decimal (Some scalars.Whole) tree = converts itself
item_covers wanted_scalar found tree = itself

-- ---- the same operand again

-- Unwrapped they are the same, and of the same plain kind. They differ only where the first is unwrapped already.
record Same (again first : Operand) : Type 0 where
  unwrapped_is : unwrapped again ≡ unwrapped first
  plain_is : plain_of again.kind ≡ plain_of first.kind
  whole_is : MayBeNil first.tree → again ≡ first

equal : (first : Operand) → Same first first
equal first = record { unwrapped_is = refl; plain_is = refl; whole_is = λ may. refl }

-- ---- what is made of the same operands again

index_again : (at other : ℕ) (list index again_list again_index : Operand) (shape : Shape) → item_shape at (plain_of list.kind) ≡ Ok shape → is_whole_number (scalar index) ≡ true → Same again_list list → Same again_index index
    → index_of other again_list again_index ≡ given (typed.binary binary.Index (unwrapped list) (unwrapped index)) (shaped shape)
index_again at other list index again_list again_index shape found test of_list of_index =
    rw (of_list.plain_is, item_shape_at at other (plain_of list.kind) shape found, of_index.plain_is, test, of_list.unwrapped_is, of_index.unwrapped_is) refl

-- signs

pub record IsNegation (numbers : Option Numbers) (tree : Typed) (first : Operand) : Type 0 where
  pub of : Numbers
  pub numbers_are : numbers ≡ Some of
  pub is : given (typed.unary (unary.Negate of) tree) (number_kind of) ≡ Ok first

pub negation_found : (at : ℕ) (numbers : Option Numbers) (tree : Typed) (first : Operand) → negation_of at numbers tree ≡ Ok first → IsNegation numbers tree first
negation_found at (Some of) tree first e = record { of = of; numbers_are = refl; is = e }
negation_found at None tree first e = absurd cc

negation_again : (other : ℕ) (of again : Operand) (found : Numbers) → numbers of ≡ Some found → Same again of → unary_of other unaries.Minus again ≡ given (typed.unary (unary.Negate found) (unwrapped of)) (number_kind found)
negation_again other of again found are same = rw (same.plain_is, are, same.unwrapped_is) refl

not_again : (other : ℕ) (of again : Operand) → is_boolean of ≡ true → Same again of → unary_of other unaries.Not again ≡ given (typed.unary unary.Not (unwrapped of)) boolean_kind
not_again other of again is same = rw (same.plain_is, is, same.unwrapped_is) refl

pub plus_found : (at : ℕ) (numbers : Option Numbers) (tree : Typed) (first : Operand) → plus_of at numbers tree ≡ Ok first → (of : Numbers) × (numbers ≡ Some of) × (given tree (number_kind of) ≡ Ok first)
plus_found at (Some of) tree first e = (of, refl, e)
plus_found at None tree first e = absurd cc

pub number_shape : (of : Option Shape) (found : Numbers) → option_and_then numbers_in (option_and_then scalar_of of) ≡ Some found → of ≡ plain_of (number_kind found)
number_shape None found e = absurd cc
number_shape (Some shapes.whole) found e = let same : Wholes ≡ found = cc in ap (λ (n : Numbers). plain_of (number_kind n)) same
number_shape (Some shapes.decimal) found e = let same : Decimals ≡ found = cc in ap (λ (n : Numbers). plain_of (number_kind n)) same
number_shape (Some shapes.bool) found e = absurd cc
number_shape (Some shapes.text) found e = absurd cc
number_shape (Some shape) found e = absurd cc

number_unwrapped : (tree : Typed) (found : Numbers) → unwrapped (operand tree (number_kind found)) ≡ tree
number_unwrapped tree Wholes = refl
number_unwrapped tree Decimals = refl

-- a plain number that isn't unwrapped has a plain kind
plain_number : (kind : Kind) (tree : Typed) (found : Numbers) → plain_of kind ≡ plain_of (number_kind found) → MayBeNil (plain_tree kind tree) → operand tree kind ≡ operand (plain_tree kind tree) (number_kind found)
plain_number nil tree Wholes e may = absurd cc
plain_number nil tree Decimals e may = absurd cc
plain_number (shaped (shapes.optional shape)) tree found e may = absurd cc
plain_number (shaped shapes.whole) tree Wholes e may = refl
plain_number (shaped shapes.decimal) tree Decimals e may = refl
plain_number (shaped shape) tree Wholes e may = absurd cc
plain_number (shaped shape) tree Decimals e may = absurd cc

-- arithmetic

pub record IsArithmetic (operator : Arithmetic) (m n : Option Numbers) (left right : Typed) (first : Operand) : Type 0 where
  pub one : Numbers
  pub other : Numbers
  pub one_is : m ≡ Some one
  pub other_is : n ≡ Some other
  pub found : BinaryOperator
  pub found_is : arithmetic_in (widened one other) operator ≡ Some found
  pub is : given (typed.binary found (among other one left) (among one other right)) (arithmetic_kind operator (widened one other)) ≡ Ok first

pub arithmetic_found : (at : ℕ) (operator : Arithmetic) (m n : Option Numbers) (left right : Typed) (first : Operand) → arithmetic_on at operator m n left right ≡ Ok first → IsArithmetic operator m n left right first
arithmetic_found at operator (Some one) (Some other) left right first e = by (arithmetic_in (widened one other) operator) refl e
  where
    by : (found : Option BinaryOperator) → arithmetic_in (widened one other) operator ≡ found → where_there at found (among other one left) (among one other right) (arithmetic_kind operator (widened one other)) ≡ Ok first
        → IsArithmetic operator (Some one) (Some other) left right first
    by (Some found) is e = record { one = one; other = other; one_is = refl; other_is = refl; found = found; found_is = is; is = e }
    by None is e = absurd cc
arithmetic_found at operator (Some one) None left right first e = absurd cc
arithmetic_found at operator None n left right first e = absurd cc

-- it is written as its operator
pub arithmetic_infix : (numbers : Numbers) (operator : Arithmetic) (found : BinaryOperator) → arithmetic_in numbers operator ≡ Some found → infix_of found ≡ Some (arithmetic_of operator)
arithmetic_infix Wholes operator found e = let same : binary.Wholes operator ≡ found = cc in subst (λ (it : BinaryOperator). infix_of it ≡ Some (arithmetic_of operator)) same refl
arithmetic_infix Decimals wholes.Add found e = let same : binary.Decimals decimals.Add ≡ found = cc in subst (λ (it : BinaryOperator). infix_of it ≡ Some binaries.Add) same refl
arithmetic_infix Decimals wholes.Subtract found e = let same : binary.Decimals decimals.Subtract ≡ found = cc in subst (λ (it : BinaryOperator). infix_of it ≡ Some binaries.Subtract) same refl
arithmetic_infix Decimals wholes.Multiply found e = let same : binary.Decimals decimals.Multiply ≡ found = cc in subst (λ (it : BinaryOperator). infix_of it ≡ Some binaries.Multiply) same refl
arithmetic_infix Decimals wholes.Divide found e = let same : binary.Decimals decimals.Divide ≡ found = cc in subst (λ (it : BinaryOperator). infix_of it ≡ Some binaries.Divide) same refl
arithmetic_infix Decimals wholes.Remainder found e = absurd cc

-- and checked as that
arithmetic_is : (at : ℕ) (operator : Arithmetic) (side : NilSide) (left right : Operand) → binary_of at (arithmetic_of operator) side left right ≡ calculation_of at operator left right
arithmetic_is at wholes.Add side left right = refl
arithmetic_is at wholes.Subtract side left right = refl
arithmetic_is at wholes.Multiply side left right = refl
arithmetic_is at wholes.Divide side left right = refl
arithmetic_is at wholes.Remainder side left right = refl

arithmetic_again : (other : ℕ) (operator : Arithmetic) (left right again_left again_right first : Operand) → (found : IsArithmetic operator (numbers left) (numbers right) (unwrapped left) (unwrapped right) first) → Same again_left left → Same again_right right
    → calculation_of other operator again_left again_right ≡ given (typed.binary found.found (among found.other found.one (unwrapped left)) (among found.one found.other (unwrapped right))) (arithmetic_kind operator (widened found.one found.other))
arithmetic_again other operator left right again_left again_right first found of_left of_right =
    rw (of_left.plain_is, of_right.plain_is, found.one_is, found.other_is, of_left.unwrapped_is, of_right.unwrapped_is, found.found_is) refl

-- orders

pub record IsOrdered (order : Order) (m n : Option Numbers) (left right : Typed) (first : Operand) : Type 0 where
  pub one : Numbers
  pub other : Numbers
  pub one_is : m ≡ Some one
  pub other_is : n ≡ Some other
  pub is : given (typed.binary (binary.Compare (compared_of one other) order) left right) boolean_kind ≡ Ok first

pub ordered_found : (at : ℕ) (order : Order) (m n : Option Numbers) (left right : Typed) (first : Operand) → ordered_of at order m n left right ≡ Ok first → IsOrdered order m n left right first
ordered_found at order (Some one) (Some other) left right first e = record { one = one; other = other; one_is = refl; other_is = refl; is = e }
ordered_found at order (Some one) None left right first e = absurd cc
ordered_found at order None n left right first e = absurd cc

ordered_is : (at : ℕ) (order : Order) (side : NilSide) (left right : Operand) → binary_of at (binaries.Comparison (written_order order)) side left right ≡ ordering_of at order left right
ordered_is at orders.Less side left right = refl
ordered_is at orders.LessOrEqual side left right = refl
ordered_is at orders.Greater side left right = refl
ordered_is at orders.GreaterOrEqual side left right = refl

ordered_again : (other : ℕ) (order : Order) (left right again_left again_right first : Operand) → (found : IsOrdered order (numbers left) (numbers right) (unwrapped left) (unwrapped right) first) → Same again_left left → Same again_right right
    → ordering_of other order again_left again_right ≡ given (typed.binary (binary.Compare (compared_of found.one found.other) order) (unwrapped left) (unwrapped right)) boolean_kind
ordered_again other order left right again_left again_right first found of_left of_right =
    rw (of_left.plain_is, of_right.plain_is, found.one_is, found.other_is, of_left.unwrapped_is, of_right.unwrapped_is) refl

-- equality

pub record IsEqual (m n : Option Scalar) (left right : Typed) (first : Operand) : Type 0 where
  pub one : Scalar
  pub other : Scalar
  pub one_is : m ≡ Some one
  pub other_is : n ≡ Some other
  pub family : same_family (scalar_family one) (scalar_family other) ≡ true
  pub is : given (typed.binary (binary.Equal (scalar_family one)) left right) boolean_kind ≡ Ok first

pub equal_found : (at : ℕ) (m n : Option Scalar) (left right : Typed) (first : Operand) → equal_of at m n left right ≡ Ok first → IsEqual m n left right first
equal_found at (Some one) (Some other) left right first e =
    let test = wanted at (same_family (scalar_family one) (scalar_family other)) (typed.binary (binary.Equal (scalar_family one)) left right) boolean_kind first e in
    record { one = one; other = other; one_is = refl; other_is = refl; family = test.0; is = test.1 }
equal_found at (Some one) None left right first e = absurd cc
equal_found at None n left right first e = absurd cc

equal_again : (at : ℕ) (left right first : Operand) → (found : IsEqual (scalar left) (scalar right) left.tree right.tree first) → equality_of at NeitherIsNil left right ≡ given (typed.binary (binary.Equal (scalar_family found.one)) left.tree right.tree) boolean_kind
equal_again at left right first found = rw (found.one_is, found.other_is, found.family) refl

-- membership

pub record IsMember (m n : Option Scalar) (left right : Typed) (first : Operand) : Type 0 where
  pub one : Scalar
  pub other : Scalar
  pub one_is : m ≡ Some one
  pub other_is : n ≡ Some other
  pub family : same_family (scalar_family one) (scalar_family other) ≡ true
  pub is : given (typed.binary binary.IsIn left right) boolean_kind ≡ Ok first

pub member_found : (at : ℕ) (m n : Option Scalar) (left right : Typed) (first : Operand) → member_of at m n left right ≡ Ok first → IsMember m n left right first
member_found at (Some one) (Some other) left right first e =
    let test = wanted at (same_family (scalar_family one) (scalar_family other)) (typed.binary binary.IsIn left right) boolean_kind first e in
    record { one = one; other = other; one_is = refl; other_is = refl; family = test.0; is = test.1 }
member_found at (Some one) None left right first e = absurd cc
member_found at None n left right first e = absurd cc

member_again : (at other : ℕ) (left right again first : Operand) (shape : Shape) → item_shape at (plain_of right.kind) ≡ Ok shape → IsMember (scalar left) (scalar_of (plain shape)) left.tree (unwrapped right) first → Same again right
    → in_of other left again ≡ given (typed.binary binary.IsIn left.tree (unwrapped right)) boolean_kind
member_again at other left right again first shape of_items found same =
    rw (same.plain_is, item_shape_at at other (plain_of right.kind) shape of_items, found.one_is, found.other_is, found.family, same.unwrapped_is) refl

-- texts and booleans

text_again : (other : ℕ) (test : TextTest) (left right again_left again_right : Operand) → (is_text_operand left && is_text_operand right) ≡ true → Same again_left left → Same again_right right
    → text_test_of other test again_left again_right ≡ given (typed.binary (binary.TextTest test) (unwrapped left) (unwrapped right)) boolean_kind
text_again other test left right again_left again_right are of_left of_right = rw (of_left.plain_is, of_right.plain_is, are, of_left.unwrapped_is, of_right.unwrapped_is) refl

both_again : (other : ℕ) (side : NilSide) (left right again_left again_right : Operand) → (is_boolean left && is_boolean right) ≡ true → Same again_left left → Same again_right right
    → binary_of other binaries.And side again_left again_right ≡ given (typed.both (unwrapped left) (unwrapped right)) boolean_kind
both_again other side left right again_left again_right are of_left of_right = rw (of_left.plain_is, of_right.plain_is, are, of_left.unwrapped_is, of_right.unwrapped_is) refl

either_again : (other : ℕ) (side : NilSide) (left right again_left again_right : Operand) → (is_boolean left && is_boolean right) ≡ true → Same again_left left → Same again_right right
    → binary_of other binaries.Or side again_left again_right ≡ given (typed.either (unwrapped left) (unwrapped right)) boolean_kind
either_again other side left right again_left again_right are of_left of_right = rw (of_left.plain_is, of_right.plain_is, are, of_left.unwrapped_is, of_right.unwrapped_is) refl

-- what is equal or a member is a boolean

has_kind : (tree : Typed) (kind : Kind) (first : Operand) → given tree kind ≡ Ok first → first.kind ≡ kind
has_kind tree kind first e = let same : operand tree kind ≡ first = cc in ap (λ (of : Operand). of.kind) (sym same)

equality_kind : (at : ℕ) (side : NilSide) (left right first : Operand) → equality_of at side left right ≡ Ok first → first.kind ≡ boolean_kind
equality_kind at LeftIsNil left right first e = has_kind _ boolean_kind first e
equality_kind at RightIsNil left right first e = has_kind _ boolean_kind first e
equality_kind at NeitherIsNil left right first e = has_kind _ boolean_kind first (equal_found at (scalar left) (scalar right) left.tree right.tree first e).is

not_plain_again : (other : ℕ) (of again : Operand) → of.kind ≡ boolean_kind → Same again of → unary_of other unaries.Not again ≡ given (typed.unary unary.Not of.tree) of.kind
not_plain_again other of again kind_is same =
    let test : is_boolean of ≡ true = rw kind_is refl in
    not_again other of again test same ∙ rw kind_is refl

-- choices and defaults

pub choice_found : (at : ℕ) (found : Option Kind) (test : Bool) (tree : Typed) (first : Operand) → choice_in at found test tree ≡ Ok first → (kind : Kind) × (found ≡ Some kind) × (test ≡ true) × (given tree kind ≡ Ok first)
choice_found at None test tree first e = absurd cc
choice_found at (Some kind) test tree first e = let both = wanted at test tree kind first e in (kind, refl, both.0, both.1)

choice_again : (other : ℕ) (condition again then_branch else_branch : Operand) (kind : Kind) → common then_branch.kind else_branch.kind ≡ Some kind → is_boolean condition ≡ true → Same again condition
    → choice_of other again then_branch else_branch ≡ given (choice_tree (unwrapped condition) then_branch else_branch) kind
choice_again other condition again then_branch else_branch kind found test same = rw (found, same.plain_is, test, same.unwrapped_is) refl

pub default_found : (at : ℕ) (tree : Typed) (found : Option Kind) (first : Operand) → in_common at tree found ≡ Ok first → (kind : Kind) × (found ≡ Some kind) × (given tree kind ≡ Ok first)
default_found at tree None first e = absurd cc
default_found at tree (Some kind) first e = (kind, refl, e)

default_again : (other : ℕ) (left right : Operand) (kind : Kind) → common_default (plain_kind left.kind) right.kind ≡ Some kind → default_of other left right ≡ given (default_tree left.tree (plain_kind left.kind) right.tree right.kind) kind
default_again other left right kind found = rw found refl

-- lists

-- items are the same again, at other offsets
abbrev AreSame : List Item → List Item → Type 0
AreSame [] [] = Unit {0}
AreSame [] (first ∷ items) = ⊥
AreSame (again ∷ items) [] = ⊥
AreSame (again ∷ others) (first ∷ items) = (again.scalar ≡ first.scalar) × (again.tree ≡ first.tree) × AreSame others items

no_scalar_again : (again items : List Item) → AreSame again items → no_scalar items ≡ None → no_scalar again ≡ None
no_scalar_again [] [] same e = refl
no_scalar_again [] (first ∷ items) same e = absurd same
no_scalar_again (one ∷ again) [] same e = absurd same
no_scalar_again (one ∷ again) (first ∷ items) same e = rw same.0 (by (is_some first.scalar) (no_scalar_again again items same.2) e)
  where
    by : (there : Bool) → (no_scalar items ≡ None → no_scalar again ≡ None) → (if there then no_scalar items else Some first.at) ≡ None → (if there then no_scalar again else Some one.at) ≡ None
    by true later e = later e
    by false later e = absurd cc

common_with_again : (found : Option Scalar) (again items : List Item) → AreSame again items → common_with found again ≡ common_with found items
common_with_again found [] [] same = refl
common_with_again found [] (first ∷ items) same = absurd same
common_with_again found (one ∷ again) [] same = absurd same
common_with_again found (one ∷ again) (first ∷ items) same = rw same.0 (common_with_again _ again items same.2)

common_again : (again items : List Item) → AreSame again items → common_of again ≡ common_of items
common_again [] [] same = refl
common_again [] (first ∷ items) same = absurd same
common_again (one ∷ again) [] same = absurd same
common_again (one ∷ again) (first ∷ items) same = rw same.0 (common_with_again _ again items same.2)

trees_again : (wanted_scalar : Scalar) (again items : List Item) → AreSame again items → map (λ it. converted_item wanted_scalar it.scalar it.tree) again ≡ map (λ it. converted_item wanted_scalar it.scalar it.tree) items
trees_again wanted_scalar [] [] same = refl
trees_again wanted_scalar [] (first ∷ items) same = absurd same
trees_again wanted_scalar (one ∷ again) [] same = absurd same
trees_again wanted_scalar (one ∷ again) (first ∷ items) same = rw (same.0, same.1, trees_again wanted_scalar again items same.2) refl

length_again : (again items : List Item) → AreSame again items → length again ≡ length items
length_again [] [] same = refl
length_again [] (first ∷ items) same = absurd same
length_again (one ∷ again) [] same = absurd same
length_again (one ∷ again) (first ∷ items) same = ap (λ (n : ℕ). suc n) (length_again again items same.2)

-- the list of these items
abbrev list_of : Scalar → List Item → Typed
list_of wanted_scalar items = typed.listed wanted_scalar (typeds (map (λ it. converted_item wanted_scalar it.scalar it.tree) items))

abbrev list_kind : Scalar → List Item → Kind
list_kind wanted_scalar items = shaped (shapes.list (scalar_shape wanted_scalar) (length items))

pub list_found : (at : ℕ) (items : List Item) (refused : Option ℕ) (found : Option Scalar) (first : Operand) → no_scalar items ≡ refused → common_of items ≡ found → list_literal_of at items refused ≡ Ok first
    → (wanted_scalar : Scalar) × (no_scalar items ≡ None) × (common_of items ≡ Some wanted_scalar) × (given (list_of wanted_scalar items) (list_kind wanted_scalar items) ≡ Ok first)
list_found at items (Some offset) found first none is e = absurd cc
list_found at items None (Some wanted_scalar) first none is e = (wanted_scalar, none, is, rw is at e)
list_found at items None None first none is e = let refusal = rw is at e in absurd cc

list_again : (other : ℕ) (again items : List Item) (wanted_scalar : Scalar) → no_scalar items ≡ None → common_of items ≡ Some wanted_scalar → AreSame again items → list_literal_of other again (no_scalar again) ≡ given (list_of wanted_scalar items) (list_kind wanted_scalar items)
list_again other again items wanted_scalar none common_is same =
    rw (no_scalar_again again items same none, common_again again items same, common_is, trees_again wanted_scalar again items same, length_again again items same) refl

-- predicates

entered_at : (at other around : ℕ) (shape found : Shape) → predicate_entered at around shape ≡ Ok found → predicate_entered other around shape ≡ Ok found
entered_at at other around shape found e = by (nat_lt around most_loops) e
  where
    by : (fits : Bool) → (if fits then Ok shape else Err (PredicatesTooDeep at)) ≡ Ok found → (if fits then Ok shape else Err (PredicatesTooDeep other)) ≡ Ok found
    by true e = e
    by false e = absurd cc

pub record IsOver (at around : ℕ) (kind : Kind) (typed_in : Shape → Result Operand TypeError) (holds : Bool × Typed) : Type 0 where
  pub shape : Shape
  pub of_items : item_shape at (plain_of kind) ≡ Ok shape
  pub inside : Shape
  pub entered : predicate_entered at around shape ≡ Ok inside
  pub body : Operand
  pub typed_is : typed_in inside ≡ Ok body
  pub is : (is_boolean body, unwrapped body) ≡ holds

pub over_found : (at around : ℕ) (kind : Kind) (typed_in : Shape → Result Operand TypeError) (holds : Bool × Typed) → over_items at around kind typed_in ≡ Ok holds → IsOver at around kind typed_in holds
unfolding over_items
over_found at around kind typed_in holds e =
    let items = bound (item_shape at (plain_of kind)) (λ shape. predicate_entered at around shape >>= λ inside. typed_in inside >>= body_of) holds e in
    let entered = bound (predicate_entered at around items.0) (λ inside. typed_in inside >>= body_of) holds items.2 in
    let body = bound (typed_in entered.0) body_of holds entered.2 in
    record { shape = items.0; of_items = items.1; inside = entered.0; entered = entered.1; body = body.0; typed_is = body.1; is = cc }

over_again : (at other around : ℕ) (list again body again_body : Operand) (typed_in : Shape → Result Operand TypeError) (shape inside : Shape) → item_shape at (plain_of list.kind) ≡ Ok shape → predicate_entered at around shape ≡ Ok inside
    → typed_in inside ≡ Ok again_body → Same again list → Same again_body body → over_items other around again.kind typed_in ≡ Ok (is_boolean body, unwrapped body)
unfolding over_items
over_again at other around list again body again_body typed_in shape inside of_items entered typed_is same same_body =
    rw (same.plain_is, item_shape_at at other (plain_of list.kind) shape of_items, entered_at at other around shape inside entered, typed_is, same_body.plain_is, same_body.unwrapped_is) refl

plain_kind_again : (again first : Kind) → plain_of again ≡ plain_of first → plain_kind again ≡ plain_kind first
plain_kind_again nil nil e = refl
plain_kind_again nil (shaped shape) e = absurd cc
plain_kind_again (shaped shape) nil e = absurd cc
plain_kind_again (shaped one) (shaped other) e = let same : plain one ≡ plain other = cc in ap (λ (shape : Shape). shaped shape) same

predicate_again : (other : ℕ) (over : Predicate) (list again : Operand) (test : Bool) (body : Typed) → test ≡ true → Same again list → predicate_of other over again test body ≡ given (typed.predicate over (unwrapped list) body) (predicate_kind over (plain_kind list.kind))
predicate_again other over list again test body is same = rw (is, same.unwrapped_is, plain_kind_again again.kind list.kind same.plain_is) refl

module _ (result : Shape) (item : Option Shape) (around : ℕ) where
  record Back (tree : Expression) (first : Operand) : Type 0 where
    again : Operand
    found : typed_of result item around tree ≡ Ok again
    same : Same again first

  -- whatever says it is checked to it again
  abbrev Finds : Operand → Type 0
  Finds first = NeedsInPlace first.tree → (tree : Expression) → Writes tree first.tree → Back tree first

  exact : (tree form : Expression) (first : Operand) → tree ≡ form → typed_of result item around form ≡ Ok first → Back tree first
  exact tree form first is found = record { again = first; found = ap (typed_of result item around) is ∙ found; same = equal first }

  computed : (one first : Operand) → given one.tree one.kind ≡ Ok first → Finds one → Finds first
  computed one first e finds = subst Finds (cc e) finds

  inner : (first : Operand) → Finds first → (part : Typed) → Covers part first.tree → NeedsInPlace part → (tree : Expression) → Writes tree part → Back tree first
  inner first finds part covers place tree says = finds (covered_place covers place) tree (covered_says covers says)

  -- ---- fields, lengths and indices

  field_finds : (at : ℕ) (name : Text) (owner first : Operand) → Finds owner → field_of at name owner ≡ Ok first → Finds first
  field_finds at name owner first finds e =
      let step = bound (field_shape at name (plain_of owner.kind)) (λ shape. given (typed.field (unwrapped owner) name) (shaped shape)) first e in
      computed (operand (typed.field (unwrapped owner) name) (shaped step.0)) first step.2 (λ place tree says.
      let form = field_form says in
      let back = inner owner finds (unwrapped owner) (unwrapped_covers owner) place form.1 form.3 in
      exact tree (FieldAt form.0 form.1 name) _ form.2 (rw (back.found, back.same.plain_is, field_shape_at at form.0 name (plain_of owner.kind) step.0 step.1, back.same.unwrapped_is) refl))

  len_finds : (at : ℕ) (list first : Operand) → Finds list → len_of at list ≡ Ok first → Finds first
  len_finds at list first finds e =
      let step = bound (item_shape at (plain_of list.kind)) (λ shape. given (typed.unary unary.Len (unwrapped list)) (shaped shapes.whole)) first e in
      computed (operand (typed.unary unary.Len (unwrapped list)) (shaped shapes.whole)) first step.2 (λ place tree says.
      let form = len_form says in
      let back = inner list finds (unwrapped list) (unwrapped_covers list) place.1 form.1 form.3 in
      exact tree (LenAt form.0 form.1) _ form.2 (rw (back.found, back.same.plain_is, item_shape_at at form.0 (plain_of list.kind) step.0 step.1, back.same.unwrapped_is) refl))

  index_finds : (at : ℕ) (list index first : Operand) → Finds list → Finds index → index_of at list index ≡ Ok first → Finds first
  index_finds at list index first finds_list finds_index e =
      let step = bound (item_shape at (plain_of list.kind)) (λ shape. where_wanted at (is_whole_number (scalar index)) (typed.binary binary.Index (unwrapped list) (unwrapped index)) (shaped shape)) first e in
      let test = wanted at (is_whole_number (scalar index)) (typed.binary binary.Index (unwrapped list) (unwrapped index)) (shaped step.0) first step.2 in
      computed (operand (typed.binary binary.Index (unwrapped list) (unwrapped index)) (shaped step.0)) first test.1 (λ place tree says.
      let form = index_form says in
      let left = inner list finds_list (unwrapped list) (unwrapped_covers list) place.1 form.first form.first_says in
      let right = inner index finds_index (unwrapped index) (unwrapped_covers index) place.2 form.second form.second_says in
      exact tree (IndexAt form.at form.first form.second) _ form.is
      (rw (left.found, right.found) (index_again at form.at list index left.again right.again step.0 step.1 test.0 left.same right.same)))

  -- ---- signs

  minus_finds : (at : ℕ) (of first : Operand) → Finds of → unary_of at unaries.Minus of ≡ Ok first → Finds first
  minus_finds at of first finds e =
      let step = negation_found at (numbers of) (unwrapped of) first e in
      computed (operand (typed.unary (unary.Negate step.of) (unwrapped of)) (number_kind step.of)) first step.is (λ place tree says.
      let form = minus_form says in
      let back = inner of finds (unwrapped of) (unwrapped_covers of) place.1 form.1 form.3 in
      exact tree (UnaryAt form.0 unaries.Minus form.1) _ form.2 (rw back.found (negation_again form.0 of back.again step.of step.numbers_are back.same)))

  not_finds : (at : ℕ) (of first : Operand) → Finds of → unary_of at unaries.Not of ≡ Ok first → Finds first
  not_finds at of first finds e =
      let test = wanted at (is_boolean of) (typed.unary unary.Not (unwrapped of)) boolean_kind first e in
      computed (operand (typed.unary unary.Not (unwrapped of)) boolean_kind) first test.1 (λ place tree says.
      let form = not_form says in
      let back = inner of finds (unwrapped of) (unwrapped_covers of) place.1 form.1 form.3 in
      exact tree (UnaryAt form.0 unaries.Not form.1) _ form.2 (rw back.found (not_again form.0 of back.again test.0 back.same)))

  -- `+` isn't shown
  plus_finds : (at : ℕ) (of first : Operand) → Finds of → unary_of at unaries.Plus of ≡ Ok first → Finds first
  plus_finds at of first finds e =
      let step = plus_found at (numbers of) (unwrapped of) first e in
      let plain = number_shape (plain_of of.kind) step.0 step.1 in
      computed (operand (unwrapped of) (number_kind step.0)) first step.2 (λ place tree says.
      let back = inner of finds (unwrapped of) (unwrapped_covers of) place tree says in
      record {
        again = back.again;
        found = back.found;
        same = record {
          unwrapped_is = back.same.unwrapped_is ∙ sym (number_unwrapped (unwrapped of) step.0);
          plain_is = back.same.plain_is ∙ plain;
          whole_is = λ may. back.same.whole_is (covered_nil (unwrapped_covers of) may) ∙ plain_number of.kind of.tree step.0 plain may;
        };
      })

  -- ---- operators

  -- what has a scalar isn't the literal nil
  not_nil_literal : (tree : Expression) (of : Operand) (found : Scalar) → typed_of result item around tree ≡ Ok of → scalar of ≡ Some found → is_nil_literal tree ≡ false
  not_nil_literal (LiteralAt at literals.Nil) of found e is =
      let same : operand (typed.literal literals.Nil) nil ≡ of = cc in
      let none : scalar of ≡ None = ap scalar (sym same) in
      absurd cc
  not_nil_literal (LiteralAt at literal) of found e is = refl
  not_nil_literal tree of found e is = refl

  is_nil_finds : (of first : Operand) → Finds of → given (typed.unary unary.IsNil of.tree) boolean_kind ≡ Ok first → Finds first
  is_nil_finds of first finds e = computed (operand (typed.unary unary.IsNil of.tree) boolean_kind) first e (λ place tree says.
      let form = is_nil_form says in
      let back = finds place.1 form.1 form.3 in
      let whole = back.same.whole_is place.0 in
      exact tree (IsNilAt form.0 form.1) _ form.2 (rw back.found (ap (λ (again : Operand). given (typed.unary unary.IsNil again.tree) boolean_kind) whole)))

  equality_finds : (at : ℕ) (side : NilSide) (left right first : Operand) → Finds left → Finds right → equality_of at side left right ≡ Ok first → Finds first
  equality_finds at LeftIsNil left right first finds_left finds_right e = is_nil_finds right first finds_right e
  equality_finds at RightIsNil left right first finds_left finds_right e = is_nil_finds left first finds_left e
  equality_finds at NeitherIsNil left right first finds_left finds_right e =
      let found = equal_found at (scalar left) (scalar right) left.tree right.tree first e in
      computed (operand (typed.binary (binary.Equal (scalar_family found.one)) left.tree right.tree) boolean_kind) first found.is (λ place tree says.
      let form = infix_form (binaries.Comparison comparisons.Equal) refl says in
      let one = finds_left place.1 form.first form.first_says in
      let other = finds_right place.2 form.second form.second_says in
      let one_is : typed_of result item around form.first ≡ Ok left = one.found ∙ ap (λ (again : Operand). Ok again) (one.same.whole_is place.0.0) in
      let other_is : typed_of result item around form.second ≡ Ok right = other.found ∙ ap (λ (again : Operand). Ok again) (other.same.whole_is place.0.1) in
      let no_left = not_nil_literal form.first left found.one one_is found.one_is in
      let no_right = not_nil_literal form.second right found.other other_is found.other_is in
      exact tree (BinaryAt form.at (binaries.Comparison comparisons.Equal) form.first form.second) _ form.is (rw (one_is, other_is, no_left, no_right) (equal_again form.at left right first found)))

  negated_finds : (condition first : Operand) → Finds condition → condition.kind ≡ boolean_kind → negated condition ≡ Ok first → Finds first
  negated_finds condition first finds kind_is e = computed (operand (typed.unary unary.Not condition.tree) condition.kind) first e (λ place tree says.
      let form = not_form says in
      let back = finds place.1 form.1 form.3 in
      exact tree (UnaryAt form.0 unaries.Not form.1) _ form.2 (rw back.found (not_plain_again form.0 condition back.again kind_is back.same)))

  in_finds : (at : ℕ) (left right first : Operand) → Finds left → Finds right → in_of at left right ≡ Ok first → Finds first × (first.kind ≡ boolean_kind)
  in_finds at left right first finds_left finds_right e =
      let step = bound (item_shape at (plain_of right.kind)) (λ shape. member_of at (scalar left) (scalar_of (plain shape)) left.tree (unwrapped right)) first e in
      let found = member_found at (scalar left) (scalar_of (plain step.0)) left.tree (unwrapped right) first step.2 in (
        computed (operand (typed.binary binary.IsIn left.tree (unwrapped right)) boolean_kind) first found.is (λ place tree says.
            let form = infix_form binaries.In refl says in
            let one = finds_left place.1 form.first form.first_says in
            let other = inner right finds_right (unwrapped right) (unwrapped_covers right) place.2 form.second form.second_says in
            let one_is : typed_of result item around form.first ≡ Ok left = one.found ∙ ap (λ (again : Operand). Ok again) (one.same.whole_is place.0) in
            exact tree (BinaryAt form.at binaries.In form.first form.second) _ form.is (rw (one_is, other.found) (member_again at form.at left right other.again first step.0 step.1 found other.same))),
        has_kind (typed.binary binary.IsIn left.tree (unwrapped right)) boolean_kind first found.is,
      )

  calculation_finds : (at : ℕ) (operator : Arithmetic) (left right first : Operand) → Finds left → Finds right → calculation_of at operator left right ≡ Ok first → Finds first
  calculation_finds at operator left right first finds_left finds_right e =
      let found = arithmetic_found at operator (numbers left) (numbers right) (unwrapped left) (unwrapped right) first e in
      computed (operand (typed.binary found.found (among found.other found.one (unwrapped left)) (among found.one found.other (unwrapped right))) (arithmetic_kind operator (widened found.one found.other))) first found.is (λ place tree says.
      let form = infix_form (arithmetic_of operator) (arithmetic_infix (widened found.one found.other) operator found.found found.found_is) says in
      let one = inner left finds_left (among found.other found.one (unwrapped left)) (covers_both (among_covers found.other found.one (unwrapped left)) (unwrapped_covers left)) place.1 form.first form.first_says in
      let other = inner right finds_right (among found.one found.other (unwrapped right)) (covers_both (among_covers found.one found.other (unwrapped right)) (unwrapped_covers right)) place.2 form.second form.second_says in
      exact tree (BinaryAt form.at (arithmetic_of operator) form.first form.second) _ form.is
      (rw (one.found, other.found) (arithmetic_is form.at operator (nil_side form.first form.second) one.again other.again ∙ arithmetic_again form.at operator left right one.again other.again first found one.same other.same)))

  ordering_finds : (at : ℕ) (order : Order) (left right first : Operand) → Finds left → Finds right → ordering_of at order left right ≡ Ok first → Finds first
  ordering_finds at order left right first finds_left finds_right e =
      let found = ordered_found at order (numbers left) (numbers right) (unwrapped left) (unwrapped right) first e in
      computed (operand (typed.binary (binary.Compare (compared_of found.one found.other) order) (unwrapped left) (unwrapped right)) boolean_kind) first found.is (λ place tree says.
      let form = infix_form (binaries.Comparison (written_order order)) refl says in
      let one = inner left finds_left (unwrapped left) (unwrapped_covers left) place.1 form.first form.first_says in
      let other = inner right finds_right (unwrapped right) (unwrapped_covers right) place.2 form.second form.second_says in
      exact tree (BinaryAt form.at (binaries.Comparison (written_order order)) form.first form.second) _ form.is
      (rw (one.found, other.found) (ordered_is form.at order (nil_side form.first form.second) one.again other.again ∙ ordered_again form.at order left right one.again other.again first found one.same other.same)))

  text_finds : (at : ℕ) (test : TextTest) (left right first : Operand) → Finds left → Finds right → text_test_of at test left right ≡ Ok first → Finds first
  text_finds at test left right first finds_left finds_right e =
      let are = wanted at (is_text_operand left && is_text_operand right) (typed.binary (binary.TextTest test) (unwrapped left) (unwrapped right)) boolean_kind first e in
      computed (operand (typed.binary (binary.TextTest test) (unwrapped left) (unwrapped right)) boolean_kind) first are.1 (λ place tree says.
      let form = infix_form (binaries.TextTest test) refl says in
      let one = inner left finds_left (unwrapped left) (unwrapped_covers left) place.1 form.first form.first_says in
      let other = inner right finds_right (unwrapped right) (unwrapped_covers right) place.2 form.second form.second_says in
      exact tree (BinaryAt form.at (binaries.TextTest test) form.first form.second) _ form.is (rw (one.found, other.found) (text_again form.at test left right one.again other.again are.0 one.same other.same)))

  both_finds : (at : ℕ) (left right first : Operand) → Finds left → Finds right → where_wanted at (is_boolean left && is_boolean right) (typed.both (unwrapped left) (unwrapped right)) boolean_kind ≡ Ok first → Finds first
  both_finds at left right first finds_left finds_right e =
      let are = wanted at (is_boolean left && is_boolean right) (typed.both (unwrapped left) (unwrapped right)) boolean_kind first e in
      computed (operand (typed.both (unwrapped left) (unwrapped right)) boolean_kind) first are.1 (λ place tree says.
      let form = both_form says in
      let one = inner left finds_left (unwrapped left) (unwrapped_covers left) place.0 form.first form.first_says in
      let other = inner right finds_right (unwrapped right) (unwrapped_covers right) place.1 form.second form.second_says in
      exact tree (BinaryAt form.at binaries.And form.first form.second) _ form.is (rw (one.found, other.found) (both_again form.at (nil_side form.first form.second) left right one.again other.again are.0 one.same other.same)))

  either_finds : (at : ℕ) (left right first : Operand) → Finds left → Finds right → where_wanted at (is_boolean left && is_boolean right) (typed.either (unwrapped left) (unwrapped right)) boolean_kind ≡ Ok first → Finds first
  either_finds at left right first finds_left finds_right e =
      let are = wanted at (is_boolean left && is_boolean right) (typed.either (unwrapped left) (unwrapped right)) boolean_kind first e in
      computed (operand (typed.either (unwrapped left) (unwrapped right)) boolean_kind) first are.1 (λ place tree says.
      let form = either_form says in
      let one = inner left finds_left (unwrapped left) (unwrapped_covers left) place.0 form.first form.first_says in
      let other = inner right finds_right (unwrapped right) (unwrapped_covers right) place.1 form.second form.second_says in
      exact tree (BinaryAt form.at binaries.Or form.first form.second) _ form.is (rw (one.found, other.found) (either_again form.at (nil_side form.first form.second) left right one.again other.again are.0 one.same other.same)))

  binary_finds : (at : ℕ) (operator : Binary) (side : NilSide) (left right first : Operand) → Finds left → Finds right → binary_of at operator side left right ≡ Ok first → Finds first
  binary_finds at binaries.Or side left right first finds_left finds_right e = either_finds at left right first finds_left finds_right e
  binary_finds at binaries.And side left right first finds_left finds_right e = both_finds at left right first finds_left finds_right e
  binary_finds at (binaries.Comparison comparisons.Equal) side left right first finds_left finds_right e = equality_finds at side left right first finds_left finds_right e
  binary_finds at (binaries.Comparison comparisons.NotEqual) side left right first finds_left finds_right e =
      let step = bound (equality_of at side left right) negated first e in
      negated_finds step.0 first (equality_finds at side left right step.0 finds_left finds_right step.1) (equality_kind at side left right step.0 step.1) step.2
  binary_finds at (binaries.Comparison comparisons.Less) side left right first finds_left finds_right e = ordering_finds at orders.Less left right first finds_left finds_right e
  binary_finds at (binaries.Comparison comparisons.LessOrEqual) side left right first finds_left finds_right e = ordering_finds at orders.LessOrEqual left right first finds_left finds_right e
  binary_finds at (binaries.Comparison comparisons.Greater) side left right first finds_left finds_right e = ordering_finds at orders.Greater left right first finds_left finds_right e
  binary_finds at (binaries.Comparison comparisons.GreaterOrEqual) side left right first finds_left finds_right e = ordering_finds at orders.GreaterOrEqual left right first finds_left finds_right e
  binary_finds at binaries.In side left right first finds_left finds_right e = (in_finds at left right first finds_left finds_right e).0
  binary_finds at binaries.NotIn side left right first finds_left finds_right e =
      let step = bound (in_of at left right) negated first e in
      let found = in_finds at left right step.0 finds_left finds_right step.1 in
      negated_finds step.0 first found.0 found.1 step.2
  binary_finds at (binaries.TextTest test) side left right first finds_left finds_right e = text_finds at test left right first finds_left finds_right e
  binary_finds at binaries.Add side left right first finds_left finds_right e = calculation_finds at wholes.Add left right first finds_left finds_right e
  binary_finds at binaries.Subtract side left right first finds_left finds_right e = calculation_finds at wholes.Subtract left right first finds_left finds_right e
  binary_finds at binaries.Multiply side left right first finds_left finds_right e = calculation_finds at wholes.Multiply left right first finds_left finds_right e
  binary_finds at binaries.Divide side left right first finds_left finds_right e = calculation_finds at wholes.Divide left right first finds_left finds_right e
  binary_finds at binaries.Remainder side left right first finds_left finds_right e = calculation_finds at wholes.Remainder left right first finds_left finds_right e

  -- ---- choices and defaults

  choice_finds : (at : ℕ) (condition then_branch else_branch first : Operand) → Finds condition → Finds then_branch → Finds else_branch → choice_of at condition then_branch else_branch ≡ Ok first → Finds first
  choice_finds at condition then_branch else_branch first finds_condition finds_then finds_else e =
      let step = choice_found at (common then_branch.kind else_branch.kind) (is_boolean condition) (choice_tree (unwrapped condition) then_branch else_branch) first e in
      computed (operand (choice_tree (unwrapped condition) then_branch else_branch) step.0) first step.3 (λ place tree says.
      let form = choice_form says in
      let of_then = converted_covers else_branch.kind then_branch.kind then_branch.tree in
      let of_else = converted_covers then_branch.kind else_branch.kind else_branch.tree in
      let one = inner condition finds_condition (unwrapped condition) (unwrapped_covers condition) place.2 form.first form.first_says in
      let second = inner then_branch finds_then _ of_then place.3 form.second form.second_says in
      let third = inner else_branch finds_else _ of_else place.4 form.third form.third_says in
      let second_is : typed_of result item around form.second ≡ Ok then_branch = second.found ∙ ap (λ (again : Operand). Ok again) (second.same.whole_is (covered_nil of_then place.0)) in
      let third_is : typed_of result item around form.third ≡ Ok else_branch = third.found ∙ ap (λ (again : Operand). Ok again) (third.same.whole_is (covered_nil of_else place.1)) in
      exact tree (ChoiceAt form.at form.first form.second form.third) _ form.is (rw (one.found, second_is, third_is) (choice_again form.at condition one.again then_branch else_branch step.0 step.1 step.2 one.same)))

  default_finds : (at : ℕ) (left right first : Operand) → Finds left → Finds right → default_of at left right ≡ Ok first → Finds first
  default_finds at left right first finds_left finds_right e =
      let tree_is = default_tree left.tree (plain_kind left.kind) right.tree right.kind in
      let step = default_found at (default_tree left.tree (plain_kind left.kind) right.tree right.kind) (common_default (plain_kind left.kind) right.kind) first e in
      computed (operand (default_tree left.tree (plain_kind left.kind) right.tree right.kind) step.0) first step.2 (λ place tree says.
      let form = default_form says in
      let of_left = converted_covers right.kind (plain_kind left.kind) left.tree in
      let of_right = converted_covers (plain_kind left.kind) right.kind right.tree in
      let one = inner left finds_left _ of_left place.1 form.first form.first_says in
      let other = inner right finds_right _ of_right place.2 form.second form.second_says in
      let one_is : typed_of result item around form.first ≡ Ok left = one.found ∙ ap (λ (again : Operand). Ok again) (one.same.whole_is (covered_nil of_left place.0.0)) in
      let other_is : typed_of result item around form.second ≡ Ok right = other.found ∙ ap (λ (again : Operand). Ok again) (other.same.whole_is (covered_nil of_right place.0.1)) in
      exact tree (DefaultAt form.at form.first form.second) _ form.is (rw (one_is, other_is) (default_again form.at left right step.0 step.1)))

  -- ---- lists

  -- whatever says the items of a list of a scalar is checked to the same items
  abbrev FindsItems : List Item → Type 0
  FindsItems items = (wanted_scalar : Scalar) → EachInPlace (typeds (map (λ it. converted_item wanted_scalar it.scalar it.tree) items)) → (trees : Expressions) → WritesEach trees (typeds (map (λ it. converted_item wanted_scalar it.scalar it.tree) items))
      → (again : List Item) × (items_typed result item around trees ≡ Ok again) × AreSame again items

  no_items : FindsItems []
  no_items wanted_scalar place items says = ([], ap (items_typed result item around) (none_form says), tt)

  more_items : (at : ℕ) (of : Operand) (items : List Item) → Finds of → FindsItems items → FindsItems (item_of at of ∷ items)
  more_items at of items finds finds_items wanted_scalar place all says =
      let form = more_form says in
      let covers = covers_both (item_covers wanted_scalar (scalar of) (unwrapped of)) (unwrapped_covers of) in
      let one = inner of finds (converted_item wanted_scalar (scalar of) (unwrapped of)) covers place.0 form.0 form.3 in
      let others = finds_items wanted_scalar place.1 form.1 form.4 in (
        item_of (offset_of form.0) one.again ∷ others.0,
        ap (items_typed result item around) form.2 ∙ rw (one.found, others.1) refl,
        (ap (option_and_then scalar_of) one.same.plain_is, one.same.unwrapped_is, others.2),
      )

  list_finds : (at : ℕ) (items : List Item) (first : Operand) → FindsItems items → list_literal_of at items (no_scalar items) ≡ Ok first → Finds first
  list_finds at items first finds e =
      let step = list_found at items (no_scalar items) (common_of items) first refl refl e in
      computed (operand (list_of step.0 items) (list_kind step.0 items)) first step.3 (λ place tree says.
      let form = list_form says in
      let found = finds step.0 place form.1 form.3 in
      exact tree (ListAt form.0 form.1) _ form.2 (rw found.1 (list_again form.0 found.0 items step.0 step.1 step.2 found.2)))

-- ---- predicates

predicate_finds : (result : Shape) (item : Option Shape) (around at : ℕ) (over : Predicate) (list first : Operand) (body_tree : Expression) (holds : Bool × Typed)
    → Finds result item around list → ((inside : Shape) (body : Operand) → typed_of result (Some inside) (suc around) body_tree ≡ Ok body → Finds result (Some inside) (suc around) body)
    → over_items at around list.kind (λ shape. typed_of result (Some shape) (suc around) body_tree) ≡ Ok holds → predicate_of at over list holds.0 holds.1 ≡ Ok first → Finds result item around first
predicate_finds result item around at over list first body_tree holds finds finds_body over_is e =
    let found = over_found at around list.kind (λ shape. typed_of result (Some shape) (suc around) body_tree) holds over_is in
    let said : predicate_of at over list (is_boolean found.body) (unwrapped found.body) ≡ Ok first = subst (λ (pair : Bool × Typed). predicate_of at over list pair.0 pair.1 ≡ Ok first) (sym found.is) e in
    let test = wanted at (is_boolean found.body) (typed.predicate over (unwrapped list) (unwrapped found.body)) (predicate_kind over (plain_kind list.kind)) first said in
    computed result item around (operand (typed.predicate over (unwrapped list) (unwrapped found.body)) (predicate_kind over (plain_kind list.kind))) first test.1 (λ place tree says.
    let form = predicate_form says in
    let one = inner result item around list finds (unwrapped list) (unwrapped_covers list) place.0 form.first form.first_says in
    let body = inner result (Some found.inside) (suc around) found.body (finds_body found.inside found.body found.typed_is) (unwrapped found.body) (unwrapped_covers found.body) place.1 form.second form.second_says in
    let again = over_again at form.at around list one.again found.body body.again (λ shape. typed_of result (Some shape) (suc around) form.second) found.shape found.inside found.of_items found.entered body.found one.same body.same in
    exact result item around tree (PredicateAt form.at over form.first form.second) _ form.is (rw (one.found, again) (predicate_again form.at over list one.again (is_boolean found.body) (unwrapped found.body) test.0 one.same)))

-- ---- conditions

item_finds : (result : Shape) (item : Option Shape) (around at : ℕ) (first : Operand) → innermost at item ≡ Ok first → Finds result item around first
item_finds result None around at first e = absurd cc
item_finds result (Some shape) around at first e = computed result (Some shape) around (operand typed.item (shaped shape)) first e (λ place tree says.
    let form = item_form says in exact result (Some shape) around tree (ItemAt form.0) _ form.1 refl)

unary_finds : (result : Shape) (item : Option Shape) (around at : ℕ) (operator : Unary) (of first : Operand) → Finds result item around of → unary_of at operator of ≡ Ok first → Finds result item around first
unary_finds result item around at unaries.Minus of first finds e = minus_finds result item around at of first finds e
unary_finds result item around at unaries.Plus of first finds e = plus_finds result item around at of first finds e
unary_finds result item around at unaries.Not of first finds e = not_finds result item around at of first finds e

module _ (result : Shape) where
  mutual
    rechecked : (first_tree : Expression) (item : Option Shape) (around : ℕ) (first : Operand) → typed_of result item around first_tree ≡ Ok first → Finds result item around first
    rechecked (ResultAt at) item around first e = computed result item around (operand typed.result (shaped result)) first e (λ place tree says.
        let form = result_form says in exact result item around tree (ResultAt form.0) _ form.1 refl)
    rechecked (ItemAt at) item around first e = item_finds result item around at first e
    rechecked (LiteralAt at literal) item around first e = computed result item around (operand (typed.literal literal) (literal_kind literal)) first e (λ place tree says.
        let form = literal_form says in exact result item around tree (LiteralAt form.0 literal) _ form.1 refl)
    rechecked (FieldAt at owner name) item around first e =
        let step = bound (typed_of result item around owner) (λ of. field_of at name of) first e in
        field_finds result item around at name step.0 first (rechecked owner item around step.0 step.1) step.2
    rechecked (IndexAt at list index) item around first e =
        let one = bound (typed_of result item around list) (λ of. typed_of result item around index >>= λ place. index_of at of place) first e in
        let other = bound (typed_of result item around index) (λ place. index_of at one.0 place) first one.2 in
        index_finds result item around at one.0 other.0 first (rechecked list item around one.0 one.1) (rechecked index item around other.0 other.1) other.2
    rechecked (UnaryAt at operator operand_tree) item around first e =
        let step = bound (typed_of result item around operand_tree) (λ of. unary_of at operator of) first e in
        unary_finds result item around at operator step.0 first (rechecked operand_tree item around step.0 step.1) step.2
    rechecked (BinaryAt at operator left right) item around first e =
        let one = bound (typed_of result item around left) (λ of. typed_of result item around right >>= λ next. binary_of at operator (nil_side left right) of next) first e in
        let other = bound (typed_of result item around right) (λ next. binary_of at operator (nil_side left right) one.0 next) first one.2 in
        binary_finds result item around at operator (nil_side left right) one.0 other.0 first (rechecked left item around one.0 one.1) (rechecked right item around other.0 other.1) other.2
    rechecked (ChoiceAt at condition then_branch else_branch) item around first e =
        let one = bound (typed_of result item around condition) (λ of. typed_of result item around then_branch >>= λ next. typed_of result item around else_branch >>= λ last. choice_of at of next last) first e in
        let second = bound (typed_of result item around then_branch) (λ next. typed_of result item around else_branch >>= λ last. choice_of at one.0 next last) first one.2 in
        let third = bound (typed_of result item around else_branch) (λ last. choice_of at one.0 second.0 last) first second.2 in
        choice_finds result item around at one.0 second.0 third.0 first (rechecked condition item around one.0 one.1) (rechecked then_branch item around second.0 second.1) (rechecked else_branch item around third.0 third.1) third.2
    rechecked (ListAt at items) item around first e =
        let step = bound (items_typed result item around items) (λ found. list_literal_of at found (no_scalar found)) first e in
        list_finds result item around at step.0 first (items_rechecked items item around step.0 step.1) step.2
    rechecked (LenAt at list) item around first e =
        let step = bound (typed_of result item around list) (λ of. len_of at of) first e in
        len_finds result item around at step.0 first (rechecked list item around step.0 step.1) step.2
    rechecked (IsNilAt at operand_tree) item around first e =
        let step = bound (typed_of result item around operand_tree) (λ of. given (typed.unary unary.IsNil of.tree) boolean_kind) first e in
        is_nil_finds result item around step.0 first (rechecked operand_tree item around step.0 step.1) step.2
    rechecked (DefaultAt at operand_tree otherwise) item around first e =
        let one = bound (typed_of result item around operand_tree) (λ of. typed_of result item around otherwise >>= λ next. default_of at of next) first e in
        let other = bound (typed_of result item around otherwise) (λ next. default_of at one.0 next) first one.2 in
        default_finds result item around at one.0 other.0 first (rechecked operand_tree item around one.0 one.1) (rechecked otherwise item around other.0 other.1) other.2
    rechecked (PredicateAt at over list body) item around first e =
        let one = bound (typed_of result item around list) (λ of. over_items at around of.kind (λ shape. typed_of result (Some shape) (suc around) body) >>= λ holds. predicate_of at over of holds.0 holds.1) first e in
        let holds = bound (over_items at around one.0.kind (λ shape. typed_of result (Some shape) (suc around) body)) (λ holds. predicate_of at over one.0 holds.0 holds.1) first one.2 in
        predicate_finds result item around at over one.0 first body holds.0 (rechecked list item around one.0 one.1) (λ inside found. rechecked body (Some inside) (suc around) found) holds.1 holds.2

    items_rechecked : (all : Expressions) (item : Option Shape) (around : ℕ) (items : List Item) → items_typed result item around all ≡ Ok items → FindsItems result item around items
    items_rechecked trees.none item around items e = subst (FindsItems result item around) (cc e) (no_items result item around)
    items_rechecked (trees.more first_tree others) item around items e =
        let one = bound (typed_of result item around first_tree) (λ of. items_typed result item around others >>= λ later. Ok (item_of (offset_of first_tree) of ∷ later)) items e in
        let later = bound (items_typed result item around others) (λ later. Ok (item_of (offset_of first_tree) one.0 ∷ later)) items one.2 in
        subst (FindsItems result item around) (cc later.2) (more_items result item around (offset_of first_tree) one.0 later.0 (rechecked first_tree item around one.0 one.1) (items_rechecked others item around later.0 later.1))

  pub condition_found : (at : ℕ) (of : Operand) (condition : Typed) (test : Bool) → is_boolean of ≡ test → condition_of at of ≡ Ok condition → (is_boolean of ≡ true) × (unwrapped of ≡ condition)
  condition_found at of condition true is e = (is, cc (rw is at e))
  condition_found at of condition false is e = let refused = rw is at e in absurd cc

  condition_again : (other : ℕ) (of again : Operand) → is_boolean of ≡ true → Same again of → condition_of other again ≡ Ok (unwrapped of)
  condition_again other of again is same = rw (same.plain_is, is, same.unwrapped_is) refl

  -- whatever says a checked condition is checked to it
  pub checked_again : (first_tree : Expression) (condition : Typed) → checked result first_tree ≡ Ok condition → NeedsInPlace condition → (tree : Expression) → Writes tree condition → checked result tree ≡ Ok condition
  checked_again first_tree condition e place tree says =
      let step = bound (typed_of result None 0 first_tree) (λ of. condition_of (offset_of first_tree) of) condition e in
      let found = condition_found (offset_of first_tree) step.0 condition (is_boolean step.0) refl step.2 in
      let whole : NeedsInPlace (unwrapped step.0) = subst NeedsInPlace (sym found.1) place in
      let back = inner result None 0 step.0 (rechecked first_tree None 0 step.0 step.1) (unwrapped step.0) (unwrapped_covers step.0) whole tree (subst (λ (part : Typed). Writes tree part) (sym found.1) says) in
      ap (λ (answer : Result Operand TypeError). answer >>= condition_of (offset_of tree)) back.found ∙ (condition_again (offset_of tree) step.0 back.again found.0 back.same ∙ ap (λ (part : Typed). Ok part) found.1)

  -- whatever says a checked part that may be nil is checked to it
  pub part_again : (item : Option Shape) (around : ℕ) (first_tree : Expression) (first : Operand) → typed_of result item around first_tree ≡ Ok first → NeedsInPlace first.tree → MayBeNil first.tree → (tree : Expression) → Writes tree first.tree
      → typed_of result item around tree ≡ Ok first
  part_again item around first_tree first e place may tree says =
      let back = rechecked first_tree item around first e place tree says in
      back.found ∙ ap (λ (again : Operand). Ok again) (back.same.whole_is may)

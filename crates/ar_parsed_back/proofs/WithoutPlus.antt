-- Without a sign `+`, each `Need` is where the check of kinds inserts it.
use Rattle.std.proofs.Common.{◌≡◌, ℕ, suc, Bool, true, false, List, [], ◌∷◌, map, refl, sym, subst, Option, Some, None, Result, Ok}
use Rattle.std.specs.Prelude.{◌&&◌, if◌then◌else◌}
use Rattle.ar_value.specs.Answer.{◌>>=◌}
use Rattle.ar_value.specs.Kind.{Kind, nil, shaped, common, plain, boolean_kind, is_decimal}
use Rattle.ar_value.specs.Shape.{Shape}
use Rattle.ar_value.specs.Shape as shapes
use Rattle.ar_value.specs.Terms.{Text}
use Rattle.ar_value.specs.declared.operator.Arithmetic.{Arithmetic}
use Rattle.ar_value.specs.declared.operator.Arithmetic.TheVariants as wholes
use Rattle.ar_value.specs.declared.operator.BinaryOperator.{BinaryOperator}
use Rattle.ar_value.specs.declared.operator.BinaryOperator.TheVariants as binary
use Rattle.ar_value.specs.declared.operator.DecimalArithmetic.TheVariants as decimals
use Rattle.ar_value.specs.declared.operator.Numbers.{Numbers}
use Rattle.ar_value.specs.declared.operator.Numbers.TheVariants.{Wholes, Decimals}
use Rattle.ar_value.specs.declared.operator.Order.{Order}
use Rattle.ar_value.specs.declared.operator.Order.TheVariants as orders
use Rattle.ar_value.specs.declared.operator.Predicate.{Predicate}
use Rattle.ar_value.specs.declared.operator.Scalar.{Scalar}
use Rattle.ar_value.specs.declared.operator.TextTest.{TextTest}
use Rattle.ar_value.specs.declared.operator.UnaryOperator.TheVariants as unary
use Rattle.ar_tree.specs.Expression.{Expression, Expressions, ResultAt, ItemAt, LiteralAt, FieldAt, IndexAt, UnaryAt, BinaryAt, ChoiceAt, ListAt, LenAt, IsNilAt, DefaultAt, PredicateAt, expression_count, offset_of}
use Rattle.ar_tree.specs.Expression as trees
use Rattle.ar_tree.specs.Typed.{Typed, Typeds, how_many, typeds}
use Rattle.ar_tree.specs.Typed as typed
use Rattle.ar_tree.specs.declared.tree.Binary.{Binary}
use Rattle.ar_tree.specs.declared.tree.Binary.TheVariants as binaries
use Rattle.ar_tree.specs.declared.tree.Comparison.TheVariants as comparisons
use Rattle.ar_tree.specs.declared.tree.Unary.{Unary}
use Rattle.ar_tree.specs.declared.tree.Unary.TheVariants as unaries
use Rattle.ar_check.specs.Basics.{literal_kind}
use Rattle.ar_check.specs.Check.{Item, LeftIsNil, NeitherIsNil, NilSide, RightIsNil, arithmetic_in, arithmetic_kind, binary_of, calculation_of, checked, choice_of, choice_tree, common_default, common_of, compared_of, condition_of, converted_item, default_of, default_tree, equality_of, field_of, field_shape, given, in_of, index_of, innermost, is_whole_number, item_of, item_shape, items_typed, len_of, list_literal_of, member_of, negated, nil_side, no_scalar, number_kind, ordering_of, over_items, plain_kind, predicate_kind, predicate_of, text_test_of, typed_of, unary_of, where_wanted, widened}
use Rattle.ar_check.specs.Operand.{Operand, among, converted, is_boolean, is_text_operand, is_whole, numbers, operand, plain_of, scalar, scalar_family, scalar_of, unwrapped}
use Rattle.ar_check.specs.declared.error.TypeError.{TypeError}
use Rattle.ar_parsed_back.specs.InPlace.{EachInPlace, HasNoPlus, HaveNoPlus, IsNoPlus, MayBeNil, NeedsInPlace, SidesInPlace}
use Rattle.ar_parsed_back.proofs.Parts.{Covers, converts, itself, unwraps}
use Rattle.ar_parsed_back.proofs.Rechecked.{among_covers, arithmetic_found, bound, choice_found, condition_found, converted_covers, default_found, equal_found, item_covers, list_found, member_found, negation_found, ordered_found, over_found, unwrapped_covers, wanted}

-- ---- what is unwrapped or converted

covers_place : {part inner : Typed} → Covers part inner → NeedsInPlace inner → NeedsInPlace part
covers_place itself place = place
covers_place (unwraps covers) place = (tt, covers_place covers place)
covers_place (converts covers) place = (tt, covers_place covers place)

converted_may : (other kind : Kind) (tree : Typed) → MayBeNil tree → MayBeNil (converted other kind tree)
converted_may nil kind tree may = may
converted_may (shaped other) nil tree may = may
converted_may (shaped other) (shaped shape) tree may = by (is_decimal other && is_whole (plain shape))
  where
    by : (turns : Bool) → MayBeNil (if turns then typed.unary unary.ToDecimal tree else tree)
    by true = may
    by false = may

arithmetic_place : (numbers : Numbers) (operator : Arithmetic) (found : BinaryOperator) (left right : Typed) → arithmetic_in numbers operator ≡ Some found → SidesInPlace found left right
arithmetic_place Wholes operator found left right e = let same : binary.Wholes operator ≡ found = cc in subst (λ (it : BinaryOperator). SidesInPlace it left right) same tt
arithmetic_place Decimals wholes.Add found left right e = let same : binary.Decimals decimals.Add ≡ found = cc in subst (λ (it : BinaryOperator). SidesInPlace it left right) same tt
arithmetic_place Decimals wholes.Subtract found left right e = let same : binary.Decimals decimals.Subtract ≡ found = cc in subst (λ (it : BinaryOperator). SidesInPlace it left right) same tt
arithmetic_place Decimals wholes.Multiply found left right e = let same : binary.Decimals decimals.Multiply ≡ found = cc in subst (λ (it : BinaryOperator). SidesInPlace it left right) same tt
arithmetic_place Decimals wholes.Divide found left right e = let same : binary.Decimals decimals.Divide ≡ found = cc in subst (λ (it : BinaryOperator). SidesInPlace it left right) same tt
arithmetic_place Decimals wholes.Remainder found left right e = absurd cc

-- ---- operands

-- it isn't unwrapped itself
abbrev Placed : Operand → Type 0
Placed of = NeedsInPlace of.tree × MayBeNil of.tree

found_placed : (one first : Operand) → given one.tree one.kind ≡ Ok first → Placed one → Placed first
found_placed one first e placed = let same : operand one.tree one.kind ≡ first = cc in subst Placed same placed

unwrapped_place : (of : Operand) → Placed of → NeedsInPlace (unwrapped of)
unwrapped_place of placed = covers_place (unwrapped_covers of) placed.0

field_placed : (at : ℕ) (name : Text) (owner first : Operand) → Placed owner → field_of at name owner ≡ Ok first → Placed first
field_placed at name owner first placed e =
    let step = bound (field_shape at name (plain_of owner.kind)) (λ shape. given (typed.field (unwrapped owner) name) (shaped shape)) first e in
    found_placed (operand (typed.field (unwrapped owner) name) (shaped step.0)) first step.2 (unwrapped_place owner placed, refl)

len_placed : (at : ℕ) (list first : Operand) → Placed list → len_of at list ≡ Ok first → Placed first
len_placed at list first placed e =
    let step = bound (item_shape at (plain_of list.kind)) (λ shape. given (typed.unary unary.Len (unwrapped list)) (shaped shapes.whole)) first e in
    found_placed (operand (typed.unary unary.Len (unwrapped list)) (shaped shapes.whole)) first step.2 ((tt, unwrapped_place list placed), refl)

index_placed : (at : ℕ) (list index first : Operand) → Placed list → Placed index → index_of at list index ≡ Ok first → Placed first
index_placed at list index first placed_list placed_index e =
    let step = bound (item_shape at (plain_of list.kind)) (λ shape. where_wanted at (is_whole_number (scalar index)) (typed.binary binary.Index (unwrapped list) (unwrapped index)) (shaped shape)) first e in
    let test = wanted at (is_whole_number (scalar index)) (typed.binary binary.Index (unwrapped list) (unwrapped index)) (shaped step.0) first step.2 in
    found_placed (operand (typed.binary binary.Index (unwrapped list) (unwrapped index)) (shaped step.0)) first test.1 ((tt, unwrapped_place list placed_list, unwrapped_place index placed_index), refl)

unary_placed : (at : ℕ) (operator : Unary) (of first : Operand) → IsNoPlus operator → Placed of → unary_of at operator of ≡ Ok first → Placed first
unary_placed at unaries.Minus of first plain_sign placed e =
    let step = negation_found at (numbers of) (unwrapped of) first e in
    found_placed (operand (typed.unary (unary.Negate step.of) (unwrapped of)) (number_kind step.of)) first step.is ((tt, unwrapped_place of placed), refl)
unary_placed at unaries.Plus of first plain_sign placed e = absurd plain_sign
unary_placed at unaries.Not of first plain_sign placed e =
    let test = wanted at (is_boolean of) (typed.unary unary.Not (unwrapped of)) boolean_kind first e in
    found_placed (operand (typed.unary unary.Not (unwrapped of)) boolean_kind) first test.1 ((tt, unwrapped_place of placed), refl)

-- ---- operators

is_nil_placed : (of first : Operand) → Placed of → given (typed.unary unary.IsNil of.tree) boolean_kind ≡ Ok first → Placed first
is_nil_placed of first placed e = found_placed (operand (typed.unary unary.IsNil of.tree) boolean_kind) first e ((placed.1, placed.0), refl)

equality_placed : (at : ℕ) (side : NilSide) (left right first : Operand) → Placed left → Placed right → equality_of at side left right ≡ Ok first → Placed first
equality_placed at LeftIsNil left right first placed_left placed_right e = is_nil_placed right first placed_right e
equality_placed at RightIsNil left right first placed_left placed_right e = is_nil_placed left first placed_left e
equality_placed at NeitherIsNil left right first placed_left placed_right e =
    let found = equal_found at (scalar left) (scalar right) left.tree right.tree first e in
    found_placed (operand (typed.binary (binary.Equal (scalar_family found.one)) left.tree right.tree) boolean_kind) first found.is (((placed_left.1, placed_right.1), placed_left.0, placed_right.0), refl)

negated_placed : (condition first : Operand) → Placed condition → negated condition ≡ Ok first → Placed first
negated_placed condition first placed e = found_placed (operand (typed.unary unary.Not condition.tree) condition.kind) first e ((tt, placed.0), refl)

in_placed : (at : ℕ) (left right first : Operand) → Placed left → Placed right → in_of at left right ≡ Ok first → Placed first
in_placed at left right first placed_left placed_right e =
    let step = bound (item_shape at (plain_of right.kind)) (λ shape. member_of at (scalar left) (scalar_of (plain shape)) left.tree (unwrapped right)) first e in
    let found = member_found at (scalar left) (scalar_of (plain step.0)) left.tree (unwrapped right) first step.2 in
    found_placed (operand (typed.binary binary.IsIn left.tree (unwrapped right)) boolean_kind) first found.is ((placed_left.1, placed_left.0, unwrapped_place right placed_right), refl)

calculation_placed : (at : ℕ) (operator : Arithmetic) (left right first : Operand) → Placed left → Placed right → calculation_of at operator left right ≡ Ok first → Placed first
calculation_placed at operator left right first placed_left placed_right e =
    let found = arithmetic_found at operator (numbers left) (numbers right) (unwrapped left) (unwrapped right) first e in
    found_placed (operand (typed.binary found.found (among found.other found.one (unwrapped left)) (among found.one found.other (unwrapped right))) (arithmetic_kind operator (widened found.one found.other))) first found.is
    ((arithmetic_place (widened found.one found.other) operator found.found _ _ found.found_is, covers_place (among_covers found.other found.one (unwrapped left)) (unwrapped_place left placed_left), covers_place (among_covers found.one found.other (unwrapped right)) (unwrapped_place right placed_right)), refl)

ordering_placed : (at : ℕ) (order : Order) (left right first : Operand) → Placed left → Placed right → ordering_of at order left right ≡ Ok first → Placed first
ordering_placed at order left right first placed_left placed_right e =
    let found = ordered_found at order (numbers left) (numbers right) (unwrapped left) (unwrapped right) first e in
    found_placed (operand (typed.binary (binary.Compare (compared_of found.one found.other) order) (unwrapped left) (unwrapped right)) boolean_kind) first found.is ((tt, unwrapped_place left placed_left, unwrapped_place right placed_right), refl)

text_placed : (at : ℕ) (test : TextTest) (left right first : Operand) → Placed left → Placed right → text_test_of at test left right ≡ Ok first → Placed first
text_placed at test left right first placed_left placed_right e =
    let are = wanted at (is_text_operand left && is_text_operand right) (typed.binary (binary.TextTest test) (unwrapped left) (unwrapped right)) boolean_kind first e in
    found_placed (operand (typed.binary (binary.TextTest test) (unwrapped left) (unwrapped right)) boolean_kind) first are.1 ((tt, unwrapped_place left placed_left, unwrapped_place right placed_right), refl)

binary_placed : (at : ℕ) (operator : Binary) (side : NilSide) (left right first : Operand) → Placed left → Placed right → binary_of at operator side left right ≡ Ok first → Placed first
binary_placed at binaries.Or side left right first placed_left placed_right e =
    let are = wanted at (is_boolean left && is_boolean right) (typed.either (unwrapped left) (unwrapped right)) boolean_kind first e in
    found_placed (operand (typed.either (unwrapped left) (unwrapped right)) boolean_kind) first are.1 ((unwrapped_place left placed_left, unwrapped_place right placed_right), refl)
binary_placed at binaries.And side left right first placed_left placed_right e =
    let are = wanted at (is_boolean left && is_boolean right) (typed.both (unwrapped left) (unwrapped right)) boolean_kind first e in
    found_placed (operand (typed.both (unwrapped left) (unwrapped right)) boolean_kind) first are.1 ((unwrapped_place left placed_left, unwrapped_place right placed_right), refl)
binary_placed at (binaries.Comparison comparisons.Equal) side left right first placed_left placed_right e = equality_placed at side left right first placed_left placed_right e
binary_placed at (binaries.Comparison comparisons.NotEqual) side left right first placed_left placed_right e =
    let step = bound (equality_of at side left right) negated first e in
    negated_placed step.0 first (equality_placed at side left right step.0 placed_left placed_right step.1) step.2
binary_placed at (binaries.Comparison comparisons.Less) side left right first placed_left placed_right e = ordering_placed at orders.Less left right first placed_left placed_right e
binary_placed at (binaries.Comparison comparisons.LessOrEqual) side left right first placed_left placed_right e = ordering_placed at orders.LessOrEqual left right first placed_left placed_right e
binary_placed at (binaries.Comparison comparisons.Greater) side left right first placed_left placed_right e = ordering_placed at orders.Greater left right first placed_left placed_right e
binary_placed at (binaries.Comparison comparisons.GreaterOrEqual) side left right first placed_left placed_right e = ordering_placed at orders.GreaterOrEqual left right first placed_left placed_right e
binary_placed at binaries.In side left right first placed_left placed_right e = in_placed at left right first placed_left placed_right e
binary_placed at binaries.NotIn side left right first placed_left placed_right e =
    let step = bound (in_of at left right) negated first e in
    negated_placed step.0 first (in_placed at left right step.0 placed_left placed_right step.1) step.2
binary_placed at (binaries.TextTest test) side left right first placed_left placed_right e = text_placed at test left right first placed_left placed_right e
binary_placed at binaries.Add side left right first placed_left placed_right e = calculation_placed at wholes.Add left right first placed_left placed_right e
binary_placed at binaries.Subtract side left right first placed_left placed_right e = calculation_placed at wholes.Subtract left right first placed_left placed_right e
binary_placed at binaries.Multiply side left right first placed_left placed_right e = calculation_placed at wholes.Multiply left right first placed_left placed_right e
binary_placed at binaries.Divide side left right first placed_left placed_right e = calculation_placed at wholes.Divide left right first placed_left placed_right e
binary_placed at binaries.Remainder side left right first placed_left placed_right e = calculation_placed at wholes.Remainder left right first placed_left placed_right e

-- ---- choices, defaults, lists and predicates

choice_placed : (at : ℕ) (condition then_branch else_branch first : Operand) → Placed condition → Placed then_branch → Placed else_branch → choice_of at condition then_branch else_branch ≡ Ok first → Placed first
choice_placed at condition then_branch else_branch first placed_condition placed_then placed_else e =
    let step = choice_found at (common then_branch.kind else_branch.kind) (is_boolean condition) (choice_tree (unwrapped condition) then_branch else_branch) first e in
    found_placed (operand (choice_tree (unwrapped condition) then_branch else_branch) step.0) first step.3 (
      (
        converted_may else_branch.kind then_branch.kind then_branch.tree placed_then.1,
        converted_may then_branch.kind else_branch.kind else_branch.tree placed_else.1,
        unwrapped_place condition placed_condition,
        covers_place (converted_covers else_branch.kind then_branch.kind then_branch.tree) placed_then.0,
        covers_place (converted_covers then_branch.kind else_branch.kind else_branch.tree) placed_else.0,
      ),
      refl,
    )

default_placed : (at : ℕ) (left right first : Operand) → Placed left → Placed right → default_of at left right ≡ Ok first → Placed first
default_placed at left right first placed_left placed_right e =
    let step = default_found at (default_tree left.tree (plain_kind left.kind) right.tree right.kind) (common_default (plain_kind left.kind) right.kind) first e in
    found_placed (operand (default_tree left.tree (plain_kind left.kind) right.tree right.kind) step.0) first step.2 (
      (
        (converted_may right.kind (plain_kind left.kind) left.tree placed_left.1, converted_may (plain_kind left.kind) right.kind right.tree placed_right.1),
        covers_place (converted_covers right.kind (plain_kind left.kind) left.tree) placed_left.0,
        covers_place (converted_covers (plain_kind left.kind) right.kind right.tree) placed_right.0,
      ),
      refl,
    )

abbrev PlacedItems : List Item → Type 0
PlacedItems items = (wanted_scalar : Scalar) → EachInPlace (typeds (map (λ it. converted_item wanted_scalar it.scalar it.tree) items))

more_placed : (at : ℕ) (of : Operand) (items : List Item) → Placed of → PlacedItems items → PlacedItems (item_of at of ∷ items)
more_placed at of items placed placed_items wanted_scalar = (covers_place (item_covers wanted_scalar (scalar of) (unwrapped of)) (unwrapped_place of placed), placed_items wanted_scalar)

list_placed : (at : ℕ) (items : List Item) (first : Operand) → PlacedItems items → list_literal_of at items (no_scalar items) ≡ Ok first → Placed first
list_placed at items first placed e =
    let step = list_found at items (no_scalar items) (common_of items) first refl refl e in
    found_placed (operand _ _) first step.3 (placed step.0, refl)

predicate_placed : (around at : ℕ) (over : Predicate) (list first : Operand) (typed_in : Shape → Result Operand TypeError) (holds : Bool × Typed) → Placed list → ((within : Shape) (body : Operand) → typed_in within ≡ Ok body → Placed body)
    → over_items at around list.kind typed_in ≡ Ok holds → predicate_of at over list holds.0 holds.1 ≡ Ok first → Placed first
predicate_placed around at over list first typed_in holds placed placed_body over_is e =
    let found = over_found at around list.kind typed_in holds over_is in
    let said : predicate_of at over list (is_boolean found.body) (unwrapped found.body) ≡ Ok first = subst (λ (pair : Bool × Typed). predicate_of at over list pair.0 pair.1 ≡ Ok first) (sym found.is) e in
    let test = wanted at (is_boolean found.body) (typed.predicate over (unwrapped list) (unwrapped found.body)) (predicate_kind over (plain_kind list.kind)) first said in
    found_placed (operand (typed.predicate over (unwrapped list) (unwrapped found.body)) (predicate_kind over (plain_kind list.kind))) first test.1 ((unwrapped_place list placed, unwrapped_place found.body (placed_body found.inside found.body found.typed_is)), refl)

-- ---- conditions

item_placed : (item : Option Shape) (at : ℕ) (first : Operand) → innermost at item ≡ Ok first → Placed first
item_placed None at first e = absurd cc
item_placed (Some shape) at first e = found_placed (operand typed.item (shaped shape)) first e (tt, refl)

module _ (result : Shape) where
  mutual
    placed : (tree : Expression) (item : Option Shape) (around : ℕ) (first : Operand) → HasNoPlus tree → typed_of result item around tree ≡ Ok first → Placed first
    placed (ResultAt at) item around first has e = found_placed (operand typed.result (shaped result)) first e (tt, refl)
    placed (ItemAt at) item around first has e = item_placed item at first e
    placed (LiteralAt at literal) item around first has e = found_placed (operand (typed.literal literal) (literal_kind literal)) first e (tt, refl)
    placed (FieldAt at owner name) item around first has e =
        let step = bound (typed_of result item around owner) (λ of. field_of at name of) first e in
        field_placed at name step.0 first (placed owner item around step.0 has step.1) step.2
    placed (IndexAt at list index) item around first has e =
        let one = bound (typed_of result item around list) (λ of. typed_of result item around index >>= λ place. index_of at of place) first e in
        let other = bound (typed_of result item around index) (λ place. index_of at one.0 place) first one.2 in
        index_placed at one.0 other.0 first (placed list item around one.0 has.0 one.1) (placed index item around other.0 has.1 other.1) other.2
    placed (UnaryAt at operator operand_tree) item around first has e =
        let step = bound (typed_of result item around operand_tree) (λ of. unary_of at operator of) first e in
        unary_placed at operator step.0 first has.0 (placed operand_tree item around step.0 has.1 step.1) step.2
    placed (BinaryAt at operator left right) item around first has e =
        let one = bound (typed_of result item around left) (λ of. typed_of result item around right >>= λ next. binary_of at operator (nil_side left right) of next) first e in
        let other = bound (typed_of result item around right) (λ next. binary_of at operator (nil_side left right) one.0 next) first one.2 in
        binary_placed at operator (nil_side left right) one.0 other.0 first (placed left item around one.0 has.0 one.1) (placed right item around other.0 has.1 other.1) other.2
    placed (ChoiceAt at condition then_branch else_branch) item around first has e =
        let one = bound (typed_of result item around condition) (λ of. typed_of result item around then_branch >>= λ next. typed_of result item around else_branch >>= λ last. choice_of at of next last) first e in
        let second = bound (typed_of result item around then_branch) (λ next. typed_of result item around else_branch >>= λ last. choice_of at one.0 next last) first one.2 in
        let third = bound (typed_of result item around else_branch) (λ last. choice_of at one.0 second.0 last) first second.2 in
        choice_placed at one.0 second.0 third.0 first (placed condition item around one.0 has.0 one.1) (placed then_branch item around second.0 has.1 second.1) (placed else_branch item around third.0 has.2 third.1) third.2
    placed (ListAt at items) item around first has e =
        let step = bound (items_typed result item around items) (λ found. list_literal_of at found (no_scalar found)) first e in
        list_placed at step.0 first (items_placed items item around step.0 has step.1) step.2
    placed (LenAt at list) item around first has e =
        let step = bound (typed_of result item around list) (λ of. len_of at of) first e in
        len_placed at step.0 first (placed list item around step.0 has step.1) step.2
    placed (IsNilAt at operand_tree) item around first has e =
        let step = bound (typed_of result item around operand_tree) (λ of. given (typed.unary unary.IsNil of.tree) boolean_kind) first e in
        is_nil_placed step.0 first (placed operand_tree item around step.0 has step.1) step.2
    placed (DefaultAt at operand_tree otherwise) item around first has e =
        let one = bound (typed_of result item around operand_tree) (λ of. typed_of result item around otherwise >>= λ next. default_of at of next) first e in
        let other = bound (typed_of result item around otherwise) (λ next. default_of at one.0 next) first one.2 in
        default_placed at one.0 other.0 first (placed operand_tree item around one.0 has.0 one.1) (placed otherwise item around other.0 has.1 other.1) other.2
    placed (PredicateAt at over list body) item around first has e =
        let one = bound (typed_of result item around list) (λ of. over_items at around of.kind (λ shape. typed_of result (Some shape) (suc around) body) >>= λ holds. predicate_of at over of holds.0 holds.1) first e in
        let holds = bound (over_items at around one.0.kind (λ shape. typed_of result (Some shape) (suc around) body)) (λ holds. predicate_of at over one.0 holds.0 holds.1) first one.2 in
        predicate_placed around at over one.0 first (λ shape. typed_of result (Some shape) (suc around) body) holds.0 (placed list item around one.0 has.0 one.1) (λ within found is. placed body (Some within) (suc around) found has.1 is) holds.1 holds.2

    items_placed : (all : Expressions) (item : Option Shape) (around : ℕ) (items : List Item) → HaveNoPlus all → items_typed result item around all ≡ Ok items → PlacedItems items
    items_placed trees.none item around items has e = let none : [] ≡ items = cc in subst PlacedItems none (λ wanted_scalar. tt)
    items_placed (trees.more first_tree others) item around items has e =
        let one = bound (typed_of result item around first_tree) (λ of. items_typed result item around others >>= λ later. Ok (item_of (offset_of first_tree) of ∷ later)) items e in
        let later = bound (items_typed result item around others) (λ later. Ok (item_of (offset_of first_tree) one.0 ∷ later)) items one.2 in
        let same : item_of (offset_of first_tree) one.0 ∷ later.0 ≡ items = cc in
        subst PlacedItems same (more_placed (offset_of first_tree) one.0 later.0 (placed first_tree item around one.0 has.0 one.1) (items_placed others item around later.0 has.1 later.1))

  -- a condition without `+`
  pub needs_in_place : (tree : Expression) (condition : Typed) → checked result tree ≡ Ok condition → HasNoPlus tree → NeedsInPlace condition
  needs_in_place tree condition e has =
      let step = bound (typed_of result None 0 tree) (λ of. condition_of (offset_of tree) of) condition e in
      let found = condition_found result (offset_of tree) step.0 condition (is_boolean step.0) refl step.2 in
      subst NeedsInPlace found.1 (unwrapped_place step.0 (placed tree None 0 step.0 has step.1))

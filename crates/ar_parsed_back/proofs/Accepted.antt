-- What is checked can be written, if its texts can be quoted.
use Rattle.std.proofs.Common.{◌≡◌, ℕ, suc, ◌<◌, ◌≤◌, Bool, true, false, List, [], ◌∷◌, length, map, refl, sym, ◌∙◌, ap, subst, arith, Option, Some, None, Result, Ok}
use Rattle.std.specs.Prelude.{◌&&◌, option_and_then}
use Rattle.std.proofs.lemmas.Bool.{le-leb}
use Rattle.ar_value.specs.Answer.{◌>>=◌}
use Rattle.ar_value.specs.Kind.{shaped, common, plain, boolean_kind}
use Rattle.ar_value.specs.Limits.{most_literal_items}
use Rattle.ar_value.specs.Shape.{Shape}
use Rattle.ar_value.specs.Shape as shapes
use Rattle.ar_value.specs.Terms.{Text}
use Rattle.ar_value.specs.declared.operator.Arithmetic.{Arithmetic}
use Rattle.ar_value.specs.declared.operator.Arithmetic.TheVariants as wholes
use Rattle.ar_value.specs.declared.operator.BinaryOperator.{BinaryOperator}
use Rattle.ar_value.specs.declared.operator.BinaryOperator.TheVariants as binary
use Rattle.ar_value.specs.declared.operator.Numbers.{Numbers}
use Rattle.ar_value.specs.declared.operator.Numbers.TheVariants.{Wholes, Decimals}
use Rattle.ar_value.specs.declared.operator.Order.{Order}
use Rattle.ar_value.specs.declared.operator.Order.TheVariants as orders
use Rattle.ar_value.specs.declared.operator.Predicate.{Predicate}
use Rattle.ar_value.specs.declared.operator.Scalar.{Scalar}
use Rattle.ar_value.specs.declared.operator.TextTest.{TextTest}
use Rattle.ar_value.specs.declared.operator.UnaryOperator.TheVariants as unary
use Rattle.ar_tree.specs.Expression.{Expression, Expressions, ResultAt, ItemAt, LiteralAt, FieldAt, IndexAt, UnaryAt, BinaryAt, ChoiceAt, ListAt, LenAt, IsNilAt, DefaultAt, PredicateAt, expression_count, offset_of}
use Rattle.ar_tree.specs.Expression as trees
use Rattle.ar_tree.specs.Typed.{Typed, Typeds, how_many, typeds}
use Rattle.ar_tree.specs.Typed as typed
use Rattle.ar_tree.specs.declared.tree.Binary.{Binary}
use Rattle.ar_tree.specs.declared.tree.Binary.TheVariants as binaries
use Rattle.ar_tree.specs.declared.tree.Comparison.TheVariants as comparisons
use Rattle.ar_tree.specs.declared.tree.Literal.{Literal}
use Rattle.ar_tree.specs.declared.tree.Literal.TheVariants as literals
use Rattle.ar_tree.specs.declared.tree.Unary.{Unary}
use Rattle.ar_tree.specs.declared.tree.Unary.TheVariants as unaries
use Rattle.ar_check.specs.Basics.{literal_kind}
use Rattle.ar_check.specs.Check.{Item, LeftIsNil, NeitherIsNil, NilSide, RightIsNil, arithmetic_kind, binary_of, calculation_of, checked, choice_of, choice_tree, common_default, common_of, compared_of, condition_of, converted_item, default_of, default_tree, equality_of, field_of, field_shape, given, in_of, index_of, innermost, is_whole_number, item_of, item_shape, items_typed, len_of, list_literal_of, member_of, negated, nil_side, no_scalar, number_kind, ordering_of, over_items, plain_kind, predicate_kind, predicate_of, text_test_of, typed_of, unary_of, where_wanted, widened}
use Rattle.ar_check.specs.Operand.{Operand, among, is_boolean, is_text_operand, numbers, operand, plain_of, scalar, scalar_family, scalar_of, unwrapped}
use Rattle.ar_check.specs.declared.error.TypeError.{TypeError}
use Rattle.ar_show.specs.PartText.{is_below_zero}
use Rattle.ar_parsed_back.specs.Quotable.{EachIsQuotable, IsQuotable, LiteralIsQuotable}
use Rattle.ar_parsed_back.specs.Readable.{CanBeWritten, EachCanBeWritten, IndexCanBeWritten, LiteralCanBeWritten, is_text}
use Rattle.ar_parsed_back.specs.Written.{arithmetic_of, infix_of}
use Rattle.ar_parsed_back.proofs.Formed.{AreFormed, IsFormed}
use Rattle.ar_parsed_back.proofs.Parts.{Covers, converts, covers_both, itself, unwraps}
use Rattle.ar_parsed_back.proofs.Rechecked.{among_covers, arithmetic_found, arithmetic_infix, bound, choice_found, condition_found, converted_covers, default_found, equal_found, item_covers, list_found, member_found, negation_found, number_shape, ordered_found, over_found, plus_found, unwrapped_covers, wanted}

-- ---- what is unwrapped or converted

covered_quotable : {part inner : Typed} → Covers part inner → IsQuotable part → IsQuotable inner
covered_quotable itself quotable = quotable
covered_quotable (unwraps covers) quotable = covered_quotable covers quotable
covered_quotable (converts covers) quotable = covered_quotable covers quotable

covers_written : {part inner : Typed} (inside : Bool) → Covers part inner → CanBeWritten inside inner → CanBeWritten inside part
covers_written inside itself can = can
covers_written inside (unwraps covers) can = covers_written inside covers can
covers_written inside (converts covers) can = covers_written inside covers can

covered_text : {part inner : Typed} → Covers part inner → is_text part ≡ true → is_text inner ≡ true
covered_text itself is = is
covered_text (unwraps covers) is = covered_text covers is
covered_text (converts covers) is = covered_text covers is

-- ---- operands

-- it can be written if its texts can be quoted, and a text is of that kind
abbrev Wrote : Bool → Operand → Type 0
Wrote inside of = IsQuotable of.tree → CanBeWritten inside of.tree × (is_text of.tree ≡ true → plain_of of.kind ≡ Some shapes.text)

no_index : (operator : BinaryOperator) (right : Typed) (written : Binary) → infix_of operator ≡ Some written → IndexCanBeWritten operator right
no_index binary.Index right written e = absurd cc
no_index binary.Default right written e = tt
no_index binary.IsIn right written e = tt
no_index (binary.Wholes operator) right written e = tt
no_index (binary.Decimals operator) right written e = tt
no_index (binary.Compare of way) right written e = tt
no_index (binary.Equal family) right written e = tt
no_index (binary.TextTest test) right written e = tt

whole_no_text : (of : Option Shape) → is_whole_number (option_and_then scalar_of of) ≡ true → of ≡ Some shapes.text → ⊥
whole_no_text of test is = let text = rw is at test in cc

index_no_text : (index : Operand) (text : Bool) → is_text (unwrapped index) ≡ text → (is_text index.tree ≡ true → plain_of index.kind ≡ Some shapes.text) → is_whole_number (scalar index) ≡ true → text ≡ false
index_no_text index false is kind test = refl
index_no_text index true is kind test = absurd (whole_no_text (plain_of index.kind) test (kind (covered_text (unwrapped_covers index) is)))

number_no_text : (found : Numbers) → plain_of (number_kind found) ≡ Some shapes.text → ⊥
number_no_text Wholes e = cc
number_no_text Decimals e = cc

literal_written : (literal : Literal) → is_below_zero literal ≡ false → LiteralIsQuotable literal → LiteralCanBeWritten literal
literal_written literals.Nil below quotable = tt
literal_written (literals.Bool boolean) below quotable = tt
literal_written (literals.Whole whole) below quotable = (below, quotable)
literal_written (literals.Decimal millionths) below quotable = (below, quotable)
literal_written (literals.Text text) below quotable = quotable

literal_text : (literal : Literal) → is_text (typed.literal literal) ≡ true → plain_of (literal_kind literal) ≡ Some shapes.text
literal_text literals.Nil e = absurd cc
literal_text (literals.Bool boolean) e = absurd cc
literal_text (literals.Whole whole) e = absurd cc
literal_text (literals.Decimal millionths) e = absurd cc
literal_text (literals.Text text) e = refl

how_many_items : (items : List Typed) → how_many (typeds items) ≡ length items
how_many_items [] = refl
how_many_items (first ∷ others) = ap (λ (n : ℕ). suc n) (how_many_items others)

length_map_items : (wanted_scalar : Scalar) (items : List Item) → length (map (λ it. converted_item wanted_scalar it.scalar it.tree) items) ≡ length items
length_map_items wanted_scalar [] = refl
length_map_items wanted_scalar (first ∷ items) = ap (λ (n : ℕ). suc n) (length_map_items wanted_scalar items)

module _ (inside : Bool) where
  found_wrote : (one first : Operand) → given one.tree one.kind ≡ Ok first → Wrote inside one → Wrote inside first
  found_wrote one first e wrote = let same : operand one.tree one.kind ≡ first = cc in subst (Wrote inside) same wrote

  can : (of : Operand) → Wrote inside of → (part : Typed) → Covers part of.tree → IsQuotable part → CanBeWritten inside part
  can of wrote part covers quotable = covers_written inside covers (wrote (covered_quotable covers quotable)).0

  can_unwrapped : (of : Operand) → Wrote inside of → IsQuotable (unwrapped of) → CanBeWritten inside (unwrapped of)
  can_unwrapped of wrote quotable = can of wrote (unwrapped of) (unwrapped_covers of) quotable

  field_wrote : (at : ℕ) (name : Text) (owner first : Operand) → Wrote inside owner → field_of at name owner ≡ Ok first → Wrote inside first
  field_wrote at name owner first wrote e =
      let step = bound (field_shape at name (plain_of owner.kind)) (λ shape. given (typed.field (unwrapped owner) name) (shaped shape)) first e in
      found_wrote (operand (typed.field (unwrapped owner) name) (shaped step.0)) first step.2 (λ quotable. ((can_unwrapped owner wrote quotable.0, quotable.1), λ text. absurd cc))

  len_wrote : (at : ℕ) (list first : Operand) → Wrote inside list → len_of at list ≡ Ok first → Wrote inside first
  len_wrote at list first wrote e =
      let step = bound (item_shape at (plain_of list.kind)) (λ shape. given (typed.unary unary.Len (unwrapped list)) (shaped shapes.whole)) first e in
      found_wrote (operand (typed.unary unary.Len (unwrapped list)) (shaped shapes.whole)) first step.2 (λ quotable. (can_unwrapped list wrote quotable, λ text. absurd cc))

  index_wrote : (at : ℕ) (list index first : Operand) → Wrote inside list → Wrote inside index → index_of at list index ≡ Ok first → Wrote inside first
  index_wrote at list index first wrote_list wrote_index e =
      let step = bound (item_shape at (plain_of list.kind)) (λ shape. where_wanted at (is_whole_number (scalar index)) (typed.binary binary.Index (unwrapped list) (unwrapped index)) (shaped shape)) first e in
      let test = wanted at (is_whole_number (scalar index)) (typed.binary binary.Index (unwrapped list) (unwrapped index)) (shaped step.0) first step.2 in
      found_wrote (operand (typed.binary binary.Index (unwrapped list) (unwrapped index)) (shaped step.0)) first test.1 (λ quotable.
      ((can_unwrapped list wrote_list quotable.0, can_unwrapped index wrote_index quotable.1, index_no_text index (is_text (unwrapped index)) refl (wrote_index (covered_quotable (unwrapped_covers index) quotable.1)).1 test.0), λ text. absurd cc))

  unary_wrote : (at : ℕ) (operator : Unary) (of first : Operand) → Wrote inside of → unary_of at operator of ≡ Ok first → Wrote inside first
  unary_wrote at unaries.Minus of first wrote e =
      let step = negation_found at (numbers of) (unwrapped of) first e in
      found_wrote (operand (typed.unary (unary.Negate step.of) (unwrapped of)) (number_kind step.of)) first step.is (λ quotable. (can_unwrapped of wrote quotable, λ text. absurd cc))
  unary_wrote at unaries.Plus of first wrote e =
      let step = plus_found at (numbers of) (unwrapped of) first e in
      let plain_is = number_shape (plain_of of.kind) step.0 step.1 in
      found_wrote (operand (unwrapped of) (number_kind step.0)) first step.2 (λ quotable. (
        can_unwrapped of wrote quotable,
        λ text.
            sym plain_is ∙ (wrote (covered_quotable (unwrapped_covers of) quotable)).1 (covered_text (unwrapped_covers of) text),
      ))
  unary_wrote at unaries.Not of first wrote e =
      let test = wanted at (is_boolean of) (typed.unary unary.Not (unwrapped of)) boolean_kind first e in
      found_wrote (operand (typed.unary unary.Not (unwrapped of)) boolean_kind) first test.1 (λ quotable. (can_unwrapped of wrote quotable, λ text. absurd cc))

  -- ---- operators

  is_nil_wrote : (of first : Operand) → Wrote inside of → given (typed.unary unary.IsNil of.tree) boolean_kind ≡ Ok first → Wrote inside first
  is_nil_wrote of first wrote e = found_wrote (operand (typed.unary unary.IsNil of.tree) boolean_kind) first e (λ quotable. ((wrote quotable).0, λ text. absurd cc))

  equality_wrote : (at : ℕ) (side : NilSide) (left right first : Operand) → Wrote inside left → Wrote inside right → equality_of at side left right ≡ Ok first → Wrote inside first
  equality_wrote at LeftIsNil left right first wrote_left wrote_right e = is_nil_wrote right first wrote_right e
  equality_wrote at RightIsNil left right first wrote_left wrote_right e = is_nil_wrote left first wrote_left e
  equality_wrote at NeitherIsNil left right first wrote_left wrote_right e =
      let found = equal_found at (scalar left) (scalar right) left.tree right.tree first e in
      found_wrote (operand (typed.binary (binary.Equal (scalar_family found.one)) left.tree right.tree) boolean_kind) first found.is (λ quotable. (((wrote_left quotable.0).0, (wrote_right quotable.1).0, tt), λ text. absurd cc))

  negated_wrote : (condition first : Operand) → Wrote inside condition → negated condition ≡ Ok first → Wrote inside first
  negated_wrote condition first wrote e = found_wrote (operand (typed.unary unary.Not condition.tree) condition.kind) first e (λ quotable. ((wrote quotable).0, λ text. absurd cc))

  in_wrote : (at : ℕ) (left right first : Operand) → Wrote inside left → Wrote inside right → in_of at left right ≡ Ok first → Wrote inside first
  in_wrote at left right first wrote_left wrote_right e =
      let step = bound (item_shape at (plain_of right.kind)) (λ shape. member_of at (scalar left) (scalar_of (plain shape)) left.tree (unwrapped right)) first e in
      let found = member_found at (scalar left) (scalar_of (plain step.0)) left.tree (unwrapped right) first step.2 in
      found_wrote (operand (typed.binary binary.IsIn left.tree (unwrapped right)) boolean_kind) first found.is (λ quotable. (((wrote_left quotable.0).0, can_unwrapped right wrote_right quotable.1, tt), λ text. absurd cc))

  calculation_wrote : (at : ℕ) (operator : Arithmetic) (left right first : Operand) → Wrote inside left → Wrote inside right → calculation_of at operator left right ≡ Ok first → Wrote inside first
  calculation_wrote at operator left right first wrote_left wrote_right e =
      let found = arithmetic_found at operator (numbers left) (numbers right) (unwrapped left) (unwrapped right) first e in
      found_wrote (operand (typed.binary found.found (among found.other found.one (unwrapped left)) (among found.one found.other (unwrapped right))) (arithmetic_kind operator (widened found.one found.other))) first found.is (λ quotable. (
        (
          can left wrote_left _ (covers_both (among_covers found.other found.one (unwrapped left)) (unwrapped_covers left)) quotable.0,
          can right wrote_right _ (covers_both (among_covers found.one found.other (unwrapped right)) (unwrapped_covers right)) quotable.1,
          no_index found.found _ (arithmetic_of operator) (arithmetic_infix (widened found.one found.other) operator found.found found.found_is),
        ),
        λ text. absurd cc,
      ))

  ordering_wrote : (at : ℕ) (order : Order) (left right first : Operand) → Wrote inside left → Wrote inside right → ordering_of at order left right ≡ Ok first → Wrote inside first
  ordering_wrote at order left right first wrote_left wrote_right e =
      let found = ordered_found at order (numbers left) (numbers right) (unwrapped left) (unwrapped right) first e in
      found_wrote (operand (typed.binary (binary.Compare (compared_of found.one found.other) order) (unwrapped left) (unwrapped right)) boolean_kind) first found.is (λ quotable.
      ((can_unwrapped left wrote_left quotable.0, can_unwrapped right wrote_right quotable.1, tt), λ text. absurd cc))

  text_wrote : (at : ℕ) (test : TextTest) (left right first : Operand) → Wrote inside left → Wrote inside right → text_test_of at test left right ≡ Ok first → Wrote inside first
  text_wrote at test left right first wrote_left wrote_right e =
      let are = wanted at (is_text_operand left && is_text_operand right) (typed.binary (binary.TextTest test) (unwrapped left) (unwrapped right)) boolean_kind first e in
      found_wrote (operand (typed.binary (binary.TextTest test) (unwrapped left) (unwrapped right)) boolean_kind) first are.1 (λ quotable.
      ((can_unwrapped left wrote_left quotable.0, can_unwrapped right wrote_right quotable.1, tt), λ text. absurd cc))

  binary_wrote : (at : ℕ) (operator : Binary) (side : NilSide) (left right first : Operand) → Wrote inside left → Wrote inside right → binary_of at operator side left right ≡ Ok first → Wrote inside first
  binary_wrote at binaries.Or side left right first wrote_left wrote_right e =
      let are = wanted at (is_boolean left && is_boolean right) (typed.either (unwrapped left) (unwrapped right)) boolean_kind first e in
      found_wrote (operand (typed.either (unwrapped left) (unwrapped right)) boolean_kind) first are.1 (λ quotable. ((can_unwrapped left wrote_left quotable.0, can_unwrapped right wrote_right quotable.1), λ text. absurd cc))
  binary_wrote at binaries.And side left right first wrote_left wrote_right e =
      let are = wanted at (is_boolean left && is_boolean right) (typed.both (unwrapped left) (unwrapped right)) boolean_kind first e in
      found_wrote (operand (typed.both (unwrapped left) (unwrapped right)) boolean_kind) first are.1 (λ quotable. ((can_unwrapped left wrote_left quotable.0, can_unwrapped right wrote_right quotable.1), λ text. absurd cc))
  binary_wrote at (binaries.Comparison comparisons.Equal) side left right first wrote_left wrote_right e = equality_wrote at side left right first wrote_left wrote_right e
  binary_wrote at (binaries.Comparison comparisons.NotEqual) side left right first wrote_left wrote_right e =
      let step = bound (equality_of at side left right) negated first e in
      negated_wrote step.0 first (equality_wrote at side left right step.0 wrote_left wrote_right step.1) step.2
  binary_wrote at (binaries.Comparison comparisons.Less) side left right first wrote_left wrote_right e = ordering_wrote at orders.Less left right first wrote_left wrote_right e
  binary_wrote at (binaries.Comparison comparisons.LessOrEqual) side left right first wrote_left wrote_right e = ordering_wrote at orders.LessOrEqual left right first wrote_left wrote_right e
  binary_wrote at (binaries.Comparison comparisons.Greater) side left right first wrote_left wrote_right e = ordering_wrote at orders.Greater left right first wrote_left wrote_right e
  binary_wrote at (binaries.Comparison comparisons.GreaterOrEqual) side left right first wrote_left wrote_right e = ordering_wrote at orders.GreaterOrEqual left right first wrote_left wrote_right e
  binary_wrote at binaries.In side left right first wrote_left wrote_right e = in_wrote at left right first wrote_left wrote_right e
  binary_wrote at binaries.NotIn side left right first wrote_left wrote_right e =
      let step = bound (in_of at left right) negated first e in
      negated_wrote step.0 first (in_wrote at left right step.0 wrote_left wrote_right step.1) step.2
  binary_wrote at (binaries.TextTest test) side left right first wrote_left wrote_right e = text_wrote at test left right first wrote_left wrote_right e
  binary_wrote at binaries.Add side left right first wrote_left wrote_right e = calculation_wrote at wholes.Add left right first wrote_left wrote_right e
  binary_wrote at binaries.Subtract side left right first wrote_left wrote_right e = calculation_wrote at wholes.Subtract left right first wrote_left wrote_right e
  binary_wrote at binaries.Multiply side left right first wrote_left wrote_right e = calculation_wrote at wholes.Multiply left right first wrote_left wrote_right e
  binary_wrote at binaries.Divide side left right first wrote_left wrote_right e = calculation_wrote at wholes.Divide left right first wrote_left wrote_right e
  binary_wrote at binaries.Remainder side left right first wrote_left wrote_right e = calculation_wrote at wholes.Remainder left right first wrote_left wrote_right e

  -- ---- choices, defaults, lists and predicates

  choice_wrote : (at : ℕ) (condition then_branch else_branch first : Operand) → Wrote inside condition → Wrote inside then_branch → Wrote inside else_branch → choice_of at condition then_branch else_branch ≡ Ok first → Wrote inside first
  choice_wrote at condition then_branch else_branch first wrote_condition wrote_then wrote_else e =
      let step = choice_found at (common then_branch.kind else_branch.kind) (is_boolean condition) (choice_tree (unwrapped condition) then_branch else_branch) first e in
      found_wrote (operand (choice_tree (unwrapped condition) then_branch else_branch) step.0) first step.3 (λ quotable.
      ((can_unwrapped condition wrote_condition quotable.0, can then_branch wrote_then _ (converted_covers else_branch.kind then_branch.kind then_branch.tree) quotable.1, can else_branch wrote_else _ (converted_covers then_branch.kind else_branch.kind else_branch.tree) quotable.2), λ text. absurd cc))

  default_wrote : (at : ℕ) (left right first : Operand) → Wrote inside left → Wrote inside right → default_of at left right ≡ Ok first → Wrote inside first
  default_wrote at left right first wrote_left wrote_right e =
      let step = default_found at (default_tree left.tree (plain_kind left.kind) right.tree right.kind) (common_default (plain_kind left.kind) right.kind) first e in
      found_wrote (operand (default_tree left.tree (plain_kind left.kind) right.tree right.kind) step.0) first step.2 (λ quotable.
      ((can left wrote_left _ (converted_covers right.kind (plain_kind left.kind) left.tree) quotable.0, can right wrote_right _ (converted_covers (plain_kind left.kind) right.kind right.tree) quotable.1, tt), λ text. absurd cc))

  -- the items of a list of a scalar
  abbrev WroteItems : List Item → Type 0
  WroteItems items = (wanted_scalar : Scalar) → EachIsQuotable (typeds (map (λ it. converted_item wanted_scalar it.scalar it.tree) items)) → EachCanBeWritten inside (typeds (map (λ it. converted_item wanted_scalar it.scalar it.tree) items))

  more_wrote : (at : ℕ) (of : Operand) (items : List Item) → Wrote inside of → WroteItems items → WroteItems (item_of at of ∷ items)
  more_wrote at of items wrote wrote_items wanted_scalar quotable =
      (can of wrote _ (covers_both (item_covers wanted_scalar (scalar of) (unwrapped of)) (unwrapped_covers of)) quotable.0, wrote_items wanted_scalar quotable.1)

  list_wrote : (at : ℕ) (items : List Item) (first : Operand) → WroteItems items → 0 < length items → length items ≤ most_literal_items → list_literal_of at items (no_scalar items) ≡ Ok first → Wrote inside first
  list_wrote at items first wrote some few e =
      let step = list_found at items (no_scalar items) (common_of items) first refl refl e in
      let count : how_many (typeds (map (λ it. converted_item step.0 it.scalar it.tree) items)) ≡ length items = how_many_items (map (λ it. converted_item step.0 it.scalar it.tree) items) ∙ length_map_items step.0 items in
      found_wrote (operand _ _) first step.3 (λ quotable.
      ((le-leb 1 _ (omega (arith, count)), le-leb _ most_literal_items (omega (arith, count)), wrote step.0 quotable), λ text. absurd cc))

  predicate_wrote : (around at : ℕ) (over : Predicate) (list first : Operand) (typed_in : Shape → Result Operand TypeError) (holds : Bool × Typed) → Wrote inside list → ((within : Shape) (body : Operand) → typed_in within ≡ Ok body → Wrote true body)
      → over_items at around list.kind typed_in ≡ Ok holds → predicate_of at over list holds.0 holds.1 ≡ Ok first → Wrote inside first
  predicate_wrote around at over list first typed_in holds wrote wrote_body over_is e =
      let found = over_found at around list.kind typed_in holds over_is in
      let said : predicate_of at over list (is_boolean found.body) (unwrapped found.body) ≡ Ok first = subst (λ (pair : Bool × Typed). predicate_of at over list pair.0 pair.1 ≡ Ok first) (sym found.is) e in
      let test = wanted at (is_boolean found.body) (typed.predicate over (unwrapped list) (unwrapped found.body)) (predicate_kind over (plain_kind list.kind)) first said in
      found_wrote (operand (typed.predicate over (unwrapped list) (unwrapped found.body)) (predicate_kind over (plain_kind list.kind))) first test.1 (λ quotable.
      ((can_unwrapped list wrote quotable.0, covers_written true (unwrapped_covers found.body) (wrote_body found.inside found.body found.typed_is (covered_quotable (unwrapped_covers found.body) quotable.1)).0), λ text. absurd cc))

-- ---- conditions

item_wrote : (inside : Bool) (item : Option Shape) (at : ℕ) (first : Operand) → inside ≡ true → innermost at item ≡ Ok first → Wrote inside first
item_wrote inside None at first within e = absurd cc
item_wrote inside (Some shape) at first within e = found_wrote inside (operand typed.item (shaped shape)) first e (λ quotable. (within, λ text. absurd cc))

module _ (result : Shape) where
  mutual
    wrote : (tree : Expression) (inside : Bool) (item : Option Shape) (around : ℕ) (first : Operand) → IsFormed inside tree → typed_of result item around tree ≡ Ok first → Wrote inside first
    wrote (ResultAt at) inside item around first formed e = found_wrote inside (operand typed.result (shaped result)) first e (λ quotable. (tt, λ text. absurd cc))
    wrote (ItemAt at) inside item around first formed e = item_wrote inside item at first formed e
    wrote (LiteralAt at literal) inside item around first formed e = found_wrote inside (operand (typed.literal literal) (literal_kind literal)) first e (λ quotable. (literal_written literal formed quotable, literal_text literal))
    wrote (FieldAt at owner name) inside item around first formed e =
        let step = bound (typed_of result item around owner) (λ of. field_of at name of) first e in
        field_wrote inside at name step.0 first (wrote owner inside item around step.0 formed step.1) step.2
    wrote (IndexAt at list index) inside item around first formed e =
        let one = bound (typed_of result item around list) (λ of. typed_of result item around index >>= λ place. index_of at of place) first e in
        let other = bound (typed_of result item around index) (λ place. index_of at one.0 place) first one.2 in
        index_wrote inside at one.0 other.0 first (wrote list inside item around one.0 formed.0 one.1) (wrote index inside item around other.0 formed.1 other.1) other.2
    wrote (UnaryAt at operator operand_tree) inside item around first formed e =
        let step = bound (typed_of result item around operand_tree) (λ of. unary_of at operator of) first e in
        unary_wrote inside at operator step.0 first (wrote operand_tree inside item around step.0 formed step.1) step.2
    wrote (BinaryAt at operator left right) inside item around first formed e =
        let one = bound (typed_of result item around left) (λ of. typed_of result item around right >>= λ next. binary_of at operator (nil_side left right) of next) first e in
        let other = bound (typed_of result item around right) (λ next. binary_of at operator (nil_side left right) one.0 next) first one.2 in
        binary_wrote inside at operator (nil_side left right) one.0 other.0 first (wrote left inside item around one.0 formed.0 one.1) (wrote right inside item around other.0 formed.1 other.1) other.2
    wrote (ChoiceAt at condition then_branch else_branch) inside item around first formed e =
        let one = bound (typed_of result item around condition) (λ of. typed_of result item around then_branch >>= λ next. typed_of result item around else_branch >>= λ last. choice_of at of next last) first e in
        let second = bound (typed_of result item around then_branch) (λ next. typed_of result item around else_branch >>= λ last. choice_of at one.0 next last) first one.2 in
        let third = bound (typed_of result item around else_branch) (λ last. choice_of at one.0 second.0 last) first second.2 in
        choice_wrote inside at one.0 second.0 third.0 first (wrote condition inside item around one.0 formed.0 one.1) (wrote then_branch inside item around second.0 formed.1 second.1) (wrote else_branch inside item around third.0 formed.2 third.1) third.2
    wrote (ListAt at items) inside item around first formed e =
        let step = bound (items_typed result item around items) (λ found. list_literal_of at found (no_scalar found)) first e in
        let all = items_wrote items inside item around step.0 formed.0 step.1 in
        list_wrote inside at step.0 first all.0 (omega (arith, all.1, formed.1)) (omega (arith, all.1, formed.2)) step.2
    wrote (LenAt at list) inside item around first formed e =
        let step = bound (typed_of result item around list) (λ of. len_of at of) first e in
        len_wrote inside at step.0 first (wrote list inside item around step.0 formed step.1) step.2
    wrote (IsNilAt at operand_tree) inside item around first formed e =
        let step = bound (typed_of result item around operand_tree) (λ of. given (typed.unary unary.IsNil of.tree) boolean_kind) first e in
        is_nil_wrote inside step.0 first (wrote operand_tree inside item around step.0 formed step.1) step.2
    wrote (DefaultAt at operand_tree otherwise) inside item around first formed e =
        let one = bound (typed_of result item around operand_tree) (λ of. typed_of result item around otherwise >>= λ next. default_of at of next) first e in
        let other = bound (typed_of result item around otherwise) (λ next. default_of at one.0 next) first one.2 in
        default_wrote inside at one.0 other.0 first (wrote operand_tree inside item around one.0 formed.0 one.1) (wrote otherwise inside item around other.0 formed.1 other.1) other.2
    wrote (PredicateAt at over list body) inside item around first formed e =
        let one = bound (typed_of result item around list) (λ of. over_items at around of.kind (λ shape. typed_of result (Some shape) (suc around) body) >>= λ holds. predicate_of at over of holds.0 holds.1) first e in
        let holds = bound (over_items at around one.0.kind (λ shape. typed_of result (Some shape) (suc around) body)) (λ holds. predicate_of at over one.0 holds.0 holds.1) first one.2 in
        predicate_wrote inside around at over one.0 first (λ shape. typed_of result (Some shape) (suc around) body) holds.0 (wrote list inside item around one.0 formed.0 one.1)
        (λ within found is. wrote body true (Some within) (suc around) found formed.1 is) holds.1 holds.2

    items_wrote : (all : Expressions) (inside : Bool) (item : Option Shape) (around : ℕ) (items : List Item) → AreFormed inside all → items_typed result item around all ≡ Ok items → WroteItems inside items × (length items ≡ expression_count all)
    items_wrote trees.none inside item around items formed e =
        let none : [] ≡ items = cc in
        subst (λ (its : List Item). WroteItems inside its × (length its ≡ 0)) none (λ wanted_scalar quotable. tt, refl)
    items_wrote (trees.more first_tree others) inside item around items formed e =
        let one = bound (typed_of result item around first_tree) (λ of. items_typed result item around others >>= λ later. Ok (item_of (offset_of first_tree) of ∷ later)) items e in
        let later = bound (items_typed result item around others) (λ later. Ok (item_of (offset_of first_tree) one.0 ∷ later)) items one.2 in
        let same : item_of (offset_of first_tree) one.0 ∷ later.0 ≡ items = cc in
        let rest = items_wrote others inside item around later.0 formed.1 later.1 in
        subst (λ (its : List Item). WroteItems inside its × (length its ≡ suc (expression_count others))) same
        (more_wrote inside (offset_of first_tree) one.0 later.0 (wrote first_tree inside item around one.0 formed.0 one.1) rest.0, ap (λ (n : ℕ). suc n) rest.1)

  -- a condition that is accepted
  pub accepted : (tree : Expression) (condition : Typed) → IsFormed false tree → checked result tree ≡ Ok condition → IsQuotable condition → CanBeWritten false condition
  accepted tree condition formed e quotable =
      let step = bound (typed_of result None 0 tree) (λ of. condition_of (offset_of tree) of) condition e in
      let found = condition_found result (offset_of tree) step.0 condition (is_boolean step.0) refl step.2 in
      subst (λ (part : Typed). CanBeWritten false part) found.1 (can_unwrapped false step.0 (wrote tree false None 0 step.0 formed step.1) (subst IsQuotable (sym found.1) quotable))

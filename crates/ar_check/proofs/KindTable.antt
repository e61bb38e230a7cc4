-- What is typed has a row in the table of kinds, what has a row is typed, and so a tree has at most one kind.
use Rattle.std.proofs.Common.{◌≡◌, ℕ, suc, true, List, [], ◌∷◌, length, Option, Some, None, Result, Ok, refl, ◌∙◌, ap, sym, subst, inl, inr}
use Rattle.ar_value.specs.declared.operator.UnaryOperator.TheVariants as unary
use Rattle.ar_value.specs.Answer.{◌>>=◌}
use Rattle.ar_value.specs.Kind.{Kind, nil, shaped, plain, scalar_shape, boolean_kind}
use Rattle.ar_value.specs.Shape.{Shape}
use Rattle.ar_value.specs.Shape as shapes
use Rattle.ar_tree.specs.Expression.{Expression, Expressions, offset_of, expression_count}
use Rattle.ar_tree.specs.Expression as trees
use Rattle.ar_tree.specs.declared.tree.Literal.TheVariants as literals
use Rattle.ar_check.specs.Check.{Item, binary_of, choice_of, common_of, common_scalar, default_of, field_of, given, index_of, is_nil_literal, innermost, item_of, items_typed, len_of, list_literal_of, no_scalar, over_items, predicate_of, typed_of, unary_of}
use Rattle.ar_check.specs.Basics.{literal_kind}
use Rattle.ar_check.specs.Operand.{Operand, operand, scalar}
use Rattle.ar_tree.specs.Typed.{Typed}
use Rattle.ar_tree.specs.Typed as typed
use Rattle.ar_check.specs.Typing.{HasKind, HaveInCommon, InCommon, IsScalar}
use Rattle.ar_check.specs.Typing as typing
use Rattle.ar_check.specs.declared.error.TypeError.{TypeError}
use Rattle.ar_value.specs.declared.operator.Scalar.{Scalar}
use Rattle.ar_check.proofs.Tables.{IsTyped, bind_typed, from_bind, given_kind, into_bind, is_scalar, same_kind, scalar_within, then_typed}
use Rattle.ar_check.proofs.OperatorTables.{operator_typed}
use Rattle.ar_check.proofs.SignTables.{sign_typed}
use Rattle.ar_check.proofs.ListTables.{common_parts, common_row_of, common_whole, commons_row, list_found, list_typed, no_scalar_more, same_scalar, scalar_row_of, scalars_row}
use Rattle.ar_check.proofs.ConstructTables.{both_typed, by_kind, choice_has, choice_typed, default_has, default_typed, field_has, field_typed, index_has, index_typed, len_has, len_typed, nil_typed, operator_has, over_found, predicate_has, predicate_typed, sign_has}
use Rattle.ar_check.specs.Private.Inside.{side_by}

-- ---- items that are typed

-- an answer of items
abbrev answered : List Item → Result (List Item) TypeError
answered items = Ok items

-- no items have nothing in common
nothing_common : (items : List Item) (one : Scalar) → answered [] ≡ Ok items → common_of items ≡ Some one → ⊥
nothing_common [] one h k = absurd (cc)
nothing_common (item ∷ items) one h k = absurd (cc)

-- items by another name
common_by : (items found : List Item) (one : Scalar) → answered items ≡ Ok found → common_of found ≡ Some one → common_of items ≡ Some one
common_by items found one h k = let same : items ≡ found = cc in rw same k

-- likewise of their length
length_by : (items found : List Item) (many : ℕ) → answered items ≡ Ok found → length items ≡ many → length found ≡ many
length_by items found many h k = let same : items ≡ found = cc in rw (sym same) k

module _ (result : Shape) where
  -- as many items are typed as there are
  as_many : (item : Option Shape) (around : ℕ) (items : Expressions) (found : List Item) → items_typed result item around items ≡ Ok found → length found ≡ expression_count items
  as_many item around trees.none found h = length_by [] found 0 h refl
  as_many item around (trees.more first others) found h =
      let operand = from_bind (typed_of result item around first) (λ operand. items_typed result item around others >>= λ items. Ok (item_of (offset_of first) operand ∷ items)) found h in
      let items = from_bind (items_typed result item around others) (λ items. Ok (item_of (offset_of first) operand.0 ∷ items)) found operand.2 in
      length_by (item_of (offset_of first) operand.0 ∷ items.0) found (suc (expression_count others)) items.2 (ap suc (as_many item around others items.0 items.1))

  -- what items have in common, by another name
  in_common_by : (item : Option Shape) (around : ℕ) (items : Expressions) (of shape : Shape) → of ≡ shape → HaveInCommon result item around items of → HaveInCommon result item around items shape
  in_common_by item around items of shape same h = subst (λ shape. HaveInCommon result item around items shape) same h

  -- one item has what is its own in common
  one_has : (item : Option Shape) (around : ℕ) (only : Expression) (operand : Operand) (one : Scalar) → HasKind result item around only operand.kind → scalar operand ≡ Some one
      → HaveInCommon result item around (trees.more only trees.none) (scalar_shape one)
  one_has item around only operand one h is =
      let of = scalar_within operand.kind one is in
      in_common_by item around (trees.more only trees.none) (plain of.0) (scalar_shape one) of.2
      (typing.one (by_kind result item around only operand.kind (shaped of.0) of.1 h) (scalar_row_of one (plain of.0) of.2))

  -- one more item
  more_has : (item : Option Shape) (around : ℕ) (first : Expression) (others : Expressions) (operand : Operand) (m n both : Scalar) → HasKind result item around first operand.kind → scalar operand ≡ Some m
      → HaveInCommon result item around others (scalar_shape n) → common_scalar (Some m) (Some n) ≡ Some both → HaveInCommon result item around (trees.more first others) (scalar_shape both)
  more_has item around first others operand m n both h is k common =
      let of = scalar_within operand.kind m is in
      typing.one_more (by_kind result item around first operand.kind (shaped of.0) of.1 h) k (common_row_of m n both (plain of.0) of.2 common)

  -- ---- what is typed has a row

  -- the innermost item
  item_has : (item : Option Shape) (around at : ℕ) (found : Operand) → innermost at item ≡ Ok found → HasKind result item around (trees.ItemAt at) found.kind
  item_has (Some shape) around at found h = by_kind result (Some shape) around (trees.ItemAt at) (shaped shape) found.kind (given_kind typed.item (shaped shape) found h) typing.innermost
  item_has None around at found h = absurd (cc)

  -- a list literal
  list_has : (item : Option Shape) (around at : ℕ) (items : Expressions) (one : Scalar) (many : ℕ) (kind : Kind) → HaveInCommon result item around items (scalar_shape one) → many ≡ expression_count items
      → shaped (shapes.list (scalar_shape one) many) ≡ kind → HasKind result item around (trees.ListAt at items) kind
  list_has item around at items one many kind h same is =
      by_kind result item around (trees.ListAt at items) (shaped (shapes.list (scalar_shape one) (expression_count items))) kind (ap (λ many. shaped (shapes.list (scalar_shape one) many)) (sym same) ∙ is) (typing.of_list h)

  mutual
    -- a tree that is typed has the kind that is found
    tree_has : (item : Option Shape) (around : ℕ) (tree : Expression) (found : Operand) → typed_of result item around tree ≡ Ok found → HasKind result item around tree found.kind
    tree_has item around (trees.ResultAt at) found h = by_kind result item around (trees.ResultAt at) (shaped result) found.kind (given_kind typed.result (shaped result) found h) typing.measured
    tree_has item around (trees.ItemAt at) found h = item_has item around at found h
    tree_has item around (trees.LiteralAt at literal) found h =
        by_kind result item around (trees.LiteralAt at literal) (literal_kind literal) found.kind (given_kind (typed.literal literal) (literal_kind literal) found h) (typing.literally literal)
    tree_has item around (trees.FieldAt at whole name) found h =
        let a = from_bind (typed_of result item around whole) (field_of at name) found h in
        field_has result item around at name whole a.0 found (tree_has item around whole a.0 a.1) a.2
    tree_has item around (trees.IndexAt at list index) found h =
        let a = from_bind (typed_of result item around list) (λ first. typed_of result item around index >>= index_of at first) found h in
        let b = from_bind (typed_of result item around index) (index_of at a.0) found a.2 in
        index_has result item around at list index a.0 b.0 found (tree_has item around list a.0 a.1) (tree_has item around index b.0 b.1) b.2
    tree_has item around (trees.UnaryAt at operator operand) found h =
        let a = from_bind (typed_of result item around operand) (unary_of at operator) found h in
        sign_has result item around at operator operand a.0 found (tree_has item around operand a.0 a.1) a.2
    tree_has item around (trees.BinaryAt at operator left right) found h =
        let a = from_bind (typed_of result item around left) (λ first. typed_of result item around right >>= binary_of at operator (side_by (is_nil_literal left) (is_nil_literal right)) first) found h in
        let b = from_bind (typed_of result item around right) (binary_of at operator (side_by (is_nil_literal left) (is_nil_literal right)) a.0) found a.2 in
        operator_has result item around at operator left right a.0 b.0 found (tree_has item around left a.0 a.1) (tree_has item around right b.0 b.1) b.2
    tree_has item around (trees.ChoiceAt at condition then_branch else_branch) found h =
        let a = from_bind (typed_of result item around condition) (λ first. typed_of result item around then_branch >>= λ second. typed_of result item around else_branch >>= choice_of at first second) found h in
        let b = from_bind (typed_of result item around then_branch) (λ second. typed_of result item around else_branch >>= choice_of at a.0 second) found a.2 in
        let c = from_bind (typed_of result item around else_branch) (choice_of at a.0 b.0) found b.2 in
        choice_has result item around at condition then_branch else_branch a.0 b.0 c.0 found (tree_has item around condition a.0 a.1) (tree_has item around then_branch b.0 b.1) (tree_has item around else_branch c.0 c.1) c.2
    tree_has item around (trees.ListAt at items) found h =
        let a = from_bind (items_typed result item around items) (λ items. list_literal_of at items (no_scalar items)) found h in
        let b = list_found at a.0 (no_scalar a.0) found a.2 in
        list_has item around at items b.0 (length a.0) found.kind (items_have item around items a.0 a.1 b.0 b.1) (as_many item around items a.0 a.1) b.2
    tree_has item around (trees.LenAt at list) found h =
        let a = from_bind (typed_of result item around list) (len_of at) found h in
        len_has result item around at list a.0 found (tree_has item around list a.0 a.1) a.2
    tree_has item around (trees.IsNilAt at operand) found h =
        let a = from_bind (typed_of result item around operand) (λ operand. given (typed.unary unary.IsNil operand.tree) boolean_kind) found h in
        by_kind result item around (trees.IsNilAt at operand) boolean_kind found.kind (given_kind (typed.unary unary.IsNil a.0.tree) boolean_kind found a.2) (typing.of_nil_test (tree_has item around operand a.0 a.1))
    tree_has item around (trees.DefaultAt at operand otherwise) found h =
        let a = from_bind (typed_of result item around operand) (λ first. typed_of result item around otherwise >>= default_of at first) found h in
        let b = from_bind (typed_of result item around otherwise) (default_of at a.0) found a.2 in
        default_has result item around at operand otherwise a.0 b.0 found (tree_has item around operand a.0 a.1) (tree_has item around otherwise b.0 b.1) b.2
    tree_has item around (trees.PredicateAt at predicate list body) found h =
        let a = from_bind (typed_of result item around list) (λ list. over_items at around list.kind (λ shape. typed_of result (Some shape) (suc around) body) >>= λ holds. predicate_of at predicate list holds.0 holds.1) found h in
        let b = from_bind (over_items at around a.0.kind (λ shape. typed_of result (Some shape) (suc around) body)) (λ holds. predicate_of at predicate a.0 holds.0 holds.1) found a.2 in
        let c = over_found at around a.0.kind (λ shape. typed_of result (Some shape) (suc around) body) b.0 b.1 in
        predicate_has result item around at predicate list body a.0 c.1 found b.0 c.0 (tree_has item around list a.0 a.1) c.2 c.3 (tree_has (Some c.0) (suc around) body c.1 c.4) c.5 b.2

    -- items that are typed have in common what is found
    items_have : (item : Option Shape) (around : ℕ) (items : Expressions) (found : List Item) → items_typed result item around items ≡ Ok found → (one : Scalar) → common_of found ≡ Some one
        → HaveInCommon result item around items (scalar_shape one)
    items_have item around trees.none found h one is = absurd (nothing_common found one h is)
    items_have item around (trees.more first trees.none) found h one is =
        let a = from_bind (typed_of result item around first) (λ operand. Ok (item_of (offset_of first) operand ∷ [])) found h in
        one_has item around first a.0 one (tree_has item around first a.0 a.1) (common_by (item_of (offset_of first) a.0 ∷ []) found one a.2 is)
    items_have item around (trees.more first (trees.more second others)) found h one is =
        let a = from_bind (typed_of result item around first) (λ operand. items_typed result item around (trees.more second others) >>= λ items. Ok (item_of (offset_of first) operand ∷ items)) found h in
        let b = from_bind (items_typed result item around (trees.more second others)) (λ items. Ok (item_of (offset_of first) a.0 ∷ items)) found a.2 in
        let c = common_parts (item_of (offset_of first) a.0) b.0 (expression_count others) one (as_many item around (trees.more second others) b.0 b.1) (common_by (item_of (offset_of first) a.0 ∷ b.0) found one b.2 is) in
        more_has item around first (trees.more second others) a.0 c.0 c.1 one (tree_has item around first a.0 a.1) c.2 (items_have item around (trees.more second others) b.0 b.1 c.1 c.3) c.4

  -- ---- what has a row is typed

  -- items are typed, and have something in common
  abbrev AreTyped : Option Shape → ℕ → Expressions → Shape → Type 0
  AreTyped item around items shape =
      (found : List Item) × (scalar : Scalar) × (items_typed result item around items ≡ Ok found) × (no_scalar found ≡ None) × (common_of found ≡ Some scalar) × (shape ≡ scalar_shape scalar)

  -- one item
  one_typed : (item : Option Shape) (around : ℕ) (only : Expression) (of : Shape) → IsTyped (typed_of result item around only) (shaped of) → IsScalar (plain of) → AreTyped item around (trees.more only trees.none) (plain of)
  one_typed item around only of h is =
      let one = scalars_row is in
      let first = item_of (offset_of only) (operand h.0 (shaped of)) in
      let known : first.scalar ≡ Some one.0 = is_scalar (plain of) one.0 one.1 in (
        first ∷ [],
        one.0,
        into_bind (typed_of result item around only) (λ operand. Ok (item_of (offset_of only) operand ∷ [])) (operand h.0 (shaped of)) (first ∷ []) h.1 refl,
        no_scalar_more first [] one.0 known refl,
        known,
        one.1,
      )

  -- one more item
  more_typed : (item : Option Shape) (around : ℕ) (first : Expression) (others : Expressions) (of shape both : Shape) → IsTyped (typed_of result item around first) (shaped of) → AreTyped item around others shape
      → InCommon (plain of) shape both → AreTyped item around (trees.more first others) both
  more_typed item around first others of shape both h k is =
      let row = commons_row is in
      let one = item_of (offset_of first) (operand h.0 (shaped of)) in
      let known : one.scalar ≡ Some row.0 = is_scalar (plain of) row.0 row.3 in
      let same : k.1 ≡ row.1 = same_scalar k.1 row.1 (sym k.5 ∙ row.4) in (
        one ∷ k.0,
        row.2,
        into_bind (typed_of result item around first) (λ operand. items_typed result item around others >>= λ items. Ok (item_of (offset_of first) operand ∷ items)) (operand h.0 (shaped of)) (one ∷ k.0) h.1
            (into_bind (items_typed result item around others) (λ items. Ok (one ∷ items)) k.0 (one ∷ k.0) k.2 refl),
        no_scalar_more one k.0 row.0 known k.3,
        common_whole one k.0 row.0 row.1 row.2 known (k.4 ∙ ap Some same) row.6,
        row.5,
      )

  -- a list literal
  items_list : (item : Option Shape) (around at : ℕ) (items : Expressions) (shape : Shape) → AreTyped item around items shape → IsTyped (typed_of result item around (trees.ListAt at items)) (shaped (shapes.list shape (expression_count items)))
  items_list item around at items shape h =
      let kind : shaped (shapes.list (scalar_shape h.1) (length h.0)) ≡ shaped (shapes.list shape (expression_count items)) = rw h.5 (ap (λ many. shaped (shapes.list (scalar_shape h.1) many)) (as_many item around items h.0 h.2)) in
      bind_typed (items_typed result item around items) (λ items. list_literal_of at items (no_scalar items)) h.0 (shaped (shapes.list shape (expression_count items))) h.2
      (same_kind (list_literal_of at h.0 (no_scalar h.0)) (shaped (shapes.list (scalar_shape h.1) (length h.0))) (shaped (shapes.list shape (expression_count items))) kind (list_typed at h.0 h.1 h.3 h.4))

  mutual
    -- a tree that has a kind is typed
    tree_typed : {item : Option Shape} {around : ℕ} {tree : Expression} {kind : Kind} → HasKind result item around tree kind → IsTyped (typed_of result item around tree) kind
    tree_typed typing.measured = (typed.result, refl)
    tree_typed typing.innermost = (typed.item, refl)
    tree_typed (typing.literally literal) = (typed.literal literal, refl)
    tree_typed (typing.of_field {at = at} {name = name} h k l) = field_typed at name _ _ _ _ (tree_typed h) k l
    tree_typed (typing.of_index {at = at} h k l whole) = index_typed at _ _ _ _ _ _ (tree_typed h) k (tree_typed l) whole
    tree_typed (typing.of_sign {at = at} {operator = operator} {of = of} {shape = shape} h row) =
        then_typed _ (unary_of at operator) (shaped of) (shaped shape) (tree_typed h) (λ tree. sign_typed at row of tree refl)
    tree_typed (typing.of_operator {at = at} {operator = operator} {left = left} {right = right} {of = of} {next_to = next_to} {shape = shape} h k row) =
        both_typed _ _ (binary_of at operator (side_by (is_nil_literal left) (is_nil_literal right))) (shaped of) (shaped next_to) (shaped shape) (tree_typed h) (tree_typed k)
        (λ first second. operator_typed at (is_nil_literal left) (is_nil_literal right) row of next_to first second refl refl)
    tree_typed (typing.nil_on_the_left {item = item} {around = around} {at = at} {offset = offset} {operator = operator} {right = right} {kind = kind} equality h) =
        then_typed (typed_of result item around right) (binary_of at operator (side_by true (is_nil_literal right)) (operand (typed.literal literals.Nil) nil)) kind boolean_kind (tree_typed h)
        (λ tree. nil_typed at true (is_nil_literal right) equality (operand (typed.literal literals.Nil) nil) (operand tree kind) (inl refl))
    tree_typed (typing.nil_on_the_right {item = item} {around = around} {at = at} {offset = offset} {operator = operator} {left = left} {kind = kind} equality h) =
        then_typed (typed_of result item around left) (λ first. binary_of at operator (side_by (is_nil_literal left) true) first (operand (typed.literal literals.Nil) nil)) kind boolean_kind (tree_typed h)
        (λ tree. nil_typed at (is_nil_literal left) true equality (operand tree kind) (operand (typed.literal literals.Nil) nil) (inr refl))
    tree_typed (typing.of_choice {at = at} h is k l found) = choice_typed at _ _ _ _ _ _ _ (tree_typed h) is (tree_typed k) (tree_typed l) found
    tree_typed (typing.of_list {item = item} {around = around} {at = at} {items = items} {shape = shape} h) = items_list item around at items shape (are_typed h)
    tree_typed (typing.of_len {at = at} h k) = len_typed at _ _ _ _ (tree_typed h) k
    tree_typed (typing.of_nil_test {item = item} {around = around} {operand = operand} {kind = kind} h) =
        then_typed (typed_of result item around operand) (λ operand. given (typed.unary unary.IsNil operand.tree) boolean_kind) kind boolean_kind (tree_typed h) (λ tree. (typed.unary unary.IsNil tree, refl))
    tree_typed (typing.of_default {at = at} h k row) = default_typed at _ _ _ _ _ (tree_typed h) (tree_typed k) row
    tree_typed (typing.of_predicate {item = item} {around = around} {at = at} {predicate = predicate} {items = items} {body = body} h k less l is row) =
        predicate_typed at around predicate (typed_of result item around items) (λ shape. typed_of result (Some shape) (suc around) body) _ _ _ _ _ (tree_typed h) k less (tree_typed l) is row

    -- so are items that have something in common
    are_typed : {item : Option Shape} {around : ℕ} {items : Expressions} {shape : Shape} → HaveInCommon result item around items shape → AreTyped item around items shape
    are_typed (typing.one {item = item} {around = around} {only = only} {of = of} h is) = one_typed item around only of (tree_typed h) is
    are_typed (typing.one_more {item = item} {around = around} {first = first} {others = others} {of = of} {shape = shape} {both = both} h k is) =
        more_typed item around first others of shape both (tree_typed h) (are_typed k) is

-- ---- the laws

-- what is typed has the kind that is found, by the table of kinds
pub has_kind : (result : Shape) (item : Option Shape) (around : ℕ) (tree : Expression) (found : Operand) → typed_of result item around tree ≡ Ok found → HasKind result item around tree found.kind
has_kind result item around tree found h = tree_has result item around tree found h

-- each tree with a kind is typed
pub is_typed : (result : Shape) (item : Option Shape) (around : ℕ) (tree : Expression) (kind : Kind) → HasKind result item around tree kind → (typed : Typed) × (typed_of result item around tree ≡ Ok (operand typed kind))
is_typed result item around tree kind h = tree_typed result h

-- a tree has at most one kind
pub one_kind : (result : Shape) (item : Option Shape) (around : ℕ) (tree : Expression) (first second : Kind) → HasKind result item around tree first → HasKind result item around tree second → first ≡ second
one_kind result item around tree first second h k =
    let a = is_typed result item around tree first h in let b = is_typed result item around tree second k in given_kind a.0 first (operand b.0 second) (sym a.1 ∙ b.1)

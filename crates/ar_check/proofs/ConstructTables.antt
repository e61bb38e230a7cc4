-- Each construct of conditions, as the table of kinds says of it.
use Rattle.std.proofs.Common.{◌≡◌, ◌<◌, ℕ, suc, Bool, true, false, List, Option, Some, None, Ok, Err, refl, ◌∙◌, ap, sym, subst, inl, inr, arith}
use Rattle.std.specs.Prelude.{◌⊎◌, if◌then◌else◌, nat_lt}
use Rattle.std.proofs.lemmas.Bool.Decides.{nat_tests}
use Rattle.ar_value.specs.declared.operator.BinaryOperator.TheVariants as binary
use Rattle.ar_value.specs.declared.operator.UnaryOperator.TheVariants as unary
use Rattle.ar_value.specs.Answer.{◌>>=◌}
use Rattle.ar_value.specs.Kind.{Kind, nil, shaped, common, plain, boolean_kind}
use Rattle.ar_value.specs.Shape.{Shape, FieldShapes}
use Rattle.ar_value.specs.Shape as shapes
use Rattle.ar_tree.specs.Expression.{Expression, Expressions, expression_count}
use Rattle.ar_tree.specs.Expression as trees
use Rattle.ar_tree.specs.declared.tree.Comparison.TheVariants as comparisons
use Rattle.ar_tree.specs.declared.tree.Binary.{Binary}
use Rattle.ar_tree.specs.declared.tree.Binary.TheVariants as binaries
use Rattle.ar_tree.specs.declared.tree.Literal.TheVariants as literals
use Rattle.ar_value.specs.declared.operator.Predicate.{Predicate}
use Rattle.ar_value.specs.declared.operator.Predicate.TheVariants as predicates
use Rattle.ar_tree.specs.declared.tree.Unary.{Unary}
use Rattle.ar_check.specs.Check.{Answer, binary_of, body_of, choice_in, choice_of, common_default, default_of, predicate_entered, equality_of, field_of, field_shape, given, in_common, index_of, is_nil_literal, is_whole_number, item_shape, len_of, negated, over_items, plain_kind, predicate_kind, predicate_of, unary_of, where_wanted}
use Rattle.ar_value.specs.Shape.{shape_named}
use Rattle.ar_value.specs.Limits.{most_loops}
use Rattle.ar_check.specs.Operand.{Operand, operand, is_boolean, unwrapped, plain_of, scalar}
use Rattle.ar_tree.specs.Typed.{Typed}
use Rattle.ar_tree.specs.Typed as typed
use Rattle.ar_check.specs.Typing.{DefaultKind, HasKind, HaveInCommon, InCommon, IsEquality, IsScalar, Operates, OperatesOnOne, PredicateKind}
use Rattle.ar_check.specs.Typing as typing
use Rattle.ar_check.specs.declared.error.TypeError.TheVariants.{PredicatesTooDeep}
use Rattle.ar_check.proofs.Tables.{IsTyped, bind_typed, field_is, from_bind, given_kind, into_bind, items_are, list_within, record_within, same_kind, then_typed, boolean_is, boolean_within, wanted_kind, wanted_typed, whole_is, whole_within}
use Rattle.ar_check.proofs.OperatorTables.{Applies, equal_applies, negated_typed, operator_applies}
use Rattle.ar_check.proofs.SignTables.{sign_row}
use Rattle.ar_check.specs.Private.Inside.{side_by}

-- ---- branches and defaults

-- what a choice gives
choice_found : (at : ℕ) (both : Option Kind) (is_boolean : Bool) (tree : Typed) (found : Operand) → choice_in at both is_boolean tree ≡ Ok found → (both ≡ Some found.kind) × (is_boolean ≡ true)
choice_found at (Some kind) is_boolean tree found h = let given = wanted_kind at is_boolean tree kind found h in (ap Some given.1, given.0)
choice_found at None is_boolean tree found h = absurd (cc)

-- what a default gives
in_common_found : (at : ℕ) (tree : Typed) (both : Option Kind) (found : Operand) → in_common at tree both ≡ Ok found → both ≡ Some found.kind
in_common_found at tree (Some kind) found h = ap Some (given_kind tree kind found h)
in_common_found at tree None found h = absurd (cc)

-- the row of a default
default_row : (first other kind : Kind) → common_default (plain_kind first) other ≡ Some kind → DefaultKind first other kind
default_row nil other kind h = let same : other ≡ kind = cc in subst (λ kind. DefaultKind nil other kind) same typing.of_nil
default_row (shaped shape) other kind h = typing.of_shape h

-- a default with a row has its kind
pub default_by_row : {first other kind : Kind} → DefaultKind first other kind → common_default (plain_kind first) other ≡ Some kind
default_by_row typing.of_nil = refl
default_by_row (typing.of_shape h) = h

-- ---- predicates

-- the row of a predicate
predicate_row : (predicate : Predicate) (over : Shape) → (kind : Shape) × (shaped kind ≡ predicate_kind predicate (shaped over)) × PredicateKind predicate over kind
predicate_row predicates.All over = (shapes.bool, refl, typing.of_all)
predicate_row predicates.Any over = (shapes.bool, refl, typing.of_any)
predicate_row predicates.None over = (shapes.bool, refl, typing.of_none)
predicate_row predicates.One over = (shapes.bool, refl, typing.of_one)
predicate_row predicates.Count over = (shapes.whole, refl, typing.of_number)
predicate_row predicates.Filter over = (over, refl, typing.of_filter)

-- a predicate with a row has its kind
predicate_by_row : {predicate : Predicate} {over kind : Shape} → PredicateKind predicate over kind → predicate_kind predicate (shaped over) ≡ shaped kind
predicate_by_row typing.of_all = refl
predicate_by_row typing.of_any = refl
predicate_by_row typing.of_none = refl
predicate_by_row typing.of_one = refl
predicate_by_row typing.of_number = refl
predicate_by_row typing.of_filter = refl

-- by a test
by_depth : (at : ℕ) (shape inside : Shape) (less : Bool) → (if less then Ok shape else Err (PredicatesTooDeep at)) ≡ Ok inside → (less ≡ true) × (shape ≡ inside)
by_depth at shape inside true h = (refl, let same : shape ≡ inside = cc in same)
by_depth at shape inside false h = absurd (cc)

-- a predicate that is entered isn't too deep
entered_found : (at around : ℕ) (shape inside : Shape) → predicate_entered at around shape ≡ Ok inside → (around < most_loops) × (shape ≡ inside)
entered_found at around shape inside h =
    let less = by_depth at shape inside (nat_lt around most_loops) h in
    let test : nat_lt around most_loops ≡ true = less.0 in
    (grind (arith, nat_tests), less.1)

-- a predicate that isn't too deep is entered
is_entered : (at around : ℕ) (shape : Shape) → around < most_loops → predicate_entered at around shape ≡ Ok shape
is_entered at around shape h = let test : nat_lt around most_loops ≡ true = grind (arith, nat_tests) in rw test refl

-- whether a body is a boolean
body_found : (body : Operand) (holds : Bool × Typed) → body_of body ≡ Ok holds → is_boolean body ≡ holds.0
body_found body holds h = let same : (is_boolean body, unwrapped body) ≡ holds = cc in ap (λ holds. holds.0) same

-- what holds of the items of a list
pub over_found : (at around : ℕ) (list : Kind) (body : Shape → Answer) (holds : Bool × Typed) → over_items at around list body ≡ Ok holds
    → (shape : Shape) × (found : Operand) × (item_shape at (plain_of list) ≡ Ok shape) × (around < most_loops) × (body shape ≡ Ok found) × (is_boolean found ≡ holds.0)
unfolding over_items
over_found at around list body holds h =
    let shape = from_bind (item_shape at (plain_of list)) (λ shape. predicate_entered at around shape >>= λ inside. body inside >>= body_of) holds h in
    let inside = from_bind (predicate_entered at around shape.0) (λ inside. body inside >>= body_of) holds shape.2 in
    let less = entered_found at around shape.0 inside.0 inside.1 in
    let found = from_bind (body inside.0) body_of holds inside.2 in
    (shape.0, found.0, shape.1, less.0, ap body less.1 ∙ found.1, body_found found.0 holds found.2)

-- likewise the other way
over_typed : (at around : ℕ) (list : Kind) (body : Shape → Answer) (shape : Shape) (found : Operand) → item_shape at (plain_of list) ≡ Ok shape → around < most_loops → body shape ≡ Ok found
    → over_items at around list body ≡ Ok (is_boolean found, unwrapped found)
unfolding over_items
over_typed at around list body shape found h less k =
    into_bind (item_shape at (plain_of list)) (λ shape. predicate_entered at around shape >>= λ inside. body inside >>= body_of) shape (is_boolean found, unwrapped found) h
    (into_bind (predicate_entered at around shape) (λ inside. body inside >>= body_of) shape (is_boolean found, unwrapped found) (is_entered at around shape less)
    (into_bind (body shape) body_of found (is_boolean found, unwrapped found) k refl))

-- ---- the literal `nil`

-- the literal `nil` is one
nil_literal : (tree : Expression) → is_nil_literal tree ≡ true → (offset : ℕ) × (tree ≡ trees.LiteralAt offset literals.Nil)
nil_literal (trees.LiteralAt offset literals.Nil) h = (offset, refl)
nil_literal tree h = absurd (cc)

-- ---- what is typed has its row

module _ (result : Shape) (item : Option Shape) (around : ℕ) where
  -- kinds that are the same
  pub by_kind : (tree : Expression) (kind found : Kind) → kind ≡ found → HasKind result item around tree kind → HasKind result item around tree found
  by_kind tree kind found same h = subst (λ kind. HasKind result item around tree kind) same h

  -- a field
  pub field_has : (at : ℕ) (name : List ℕ) (whole : Expression) (owner found : Operand) → HasKind result item around whole owner.kind → field_of at name owner ≡ Ok found
      → HasKind result item around (trees.FieldAt at whole name) found.kind
  field_has at name whole owner found h is =
      let shape = from_bind (field_shape at name (plain_of owner.kind)) (λ shape. given (typed.field (unwrapped owner) name) (shaped shape)) found is in
      let fields = record_within at name owner.kind shape.0 shape.1 in
      by_kind (trees.FieldAt at whole name) (shaped shape.0) found.kind (given_kind _ (shaped shape.0) found shape.2)
      (typing.of_field (by_kind whole owner.kind (shaped fields.0) fields.2 h) fields.3 fields.4)

  -- an item by its number
  pub index_has : (at : ℕ) (items offset : Expression) (list index found : Operand) → HasKind result item around items list.kind → HasKind result item around offset index.kind
      → index_of at list index ≡ Ok found → HasKind result item around (trees.IndexAt at items offset) found.kind
  index_has at items offset list index found h k is =
      let shape = from_bind (item_shape at (plain_of list.kind)) (λ shape. where_wanted at (is_whole_number (scalar index)) (typed.binary binary.Index (unwrapped list) (unwrapped index)) (shaped shape)) found is in
      let of = list_within at list.kind shape.0 shape.1 in
      let given = wanted_kind at (is_whole_number (scalar index)) (typed.binary binary.Index (unwrapped list) (unwrapped index)) (shaped shape.0) found shape.2 in
      let whole = whole_within index.kind given.0 in
      by_kind (trees.IndexAt at items offset) (shaped shape.0) found.kind given.1
      (typing.of_index (by_kind items list.kind (shaped of.0) of.2 h) of.3 (by_kind offset index.kind (shaped whole.0) whole.1 k) whole.2)

  -- a length
  pub len_has : (at : ℕ) (items : Expression) (list found : Operand) → HasKind result item around items list.kind → len_of at list ≡ Ok found → HasKind result item around (trees.LenAt at items) found.kind
  len_has at items list found h is =
      let shape = from_bind (item_shape at (plain_of list.kind)) (λ shape. given (typed.unary unary.Len (unwrapped list)) (shaped shapes.whole)) found is in
      let of = list_within at list.kind shape.0 shape.1 in
      by_kind (trees.LenAt at items) (shaped shapes.whole) found.kind (given_kind (typed.unary unary.Len (unwrapped list)) (shaped shapes.whole) found shape.2)
      (typing.of_len (by_kind items list.kind (shaped of.0) of.2 h) of.3)

  -- an operator on one operand
  pub sign_has : (at : ℕ) (operator : Unary) (tree : Expression) (first found : Operand) → HasKind result item around tree first.kind → unary_of at operator first ≡ Ok found
      → HasKind result item around (trees.UnaryAt at operator tree) found.kind
  sign_has at operator tree first found h is =
      let row = sign_row at operator first found is in
      by_kind (trees.UnaryAt at operator tree) (shaped row.1) found.kind row.3 (typing.of_sign (by_kind tree first.kind (shaped row.0) row.2 h) row.4)

  -- an operator with a row for both kinds
  applied_has : (at : ℕ) (operator : Binary) (left right : Expression) (of next_to kind : Kind) → HasKind result item around left of → HasKind result item around right next_to → Applies operator of next_to kind
      → HasKind result item around (trees.BinaryAt at operator left right) kind
  applied_has at operator left right of next_to kind h k row =
      by_kind (trees.BinaryAt at operator left right) (shaped row.2) kind row.5 (typing.of_operator (by_kind left of (shaped row.0) row.3 h) (by_kind right next_to (shaped row.1) row.4 k) row.6)

  -- equality, also with the literal `nil`
  equality_has : (at : ℕ) (operator : Binary) (left right : Expression) (first second found : Operand) (nil_left nil_right : Bool) → is_nil_literal left ≡ nil_left → is_nil_literal right ≡ nil_right
      → IsEquality operator → HasKind result item around left first.kind → HasKind result item around right second.kind → equality_of at (side_by nil_left nil_right) first second ≡ Ok found
      → HasKind result item around (trees.BinaryAt at operator left right) found.kind
  equality_has at operator left right first second found true nil_right on_left on_right equality h k is =
      let literal = nil_literal left on_left in
      by_kind (trees.BinaryAt at operator left right) boolean_kind found.kind (given_kind (typed.unary unary.IsNil second.tree) boolean_kind found is)
      (subst (λ left. HasKind result item around (trees.BinaryAt at operator left right) boolean_kind) (sym literal.1) (typing.nil_on_the_left equality k))
  equality_has at operator left right first second found false true on_left on_right equality h k is =
      let literal = nil_literal right on_right in
      by_kind (trees.BinaryAt at operator left right) boolean_kind found.kind (given_kind (typed.unary unary.IsNil first.tree) boolean_kind found is)
      (subst (λ right. HasKind result item around (trees.BinaryAt at operator left right) boolean_kind) (sym literal.1) (typing.nil_on_the_right equality h))
  equality_has at operator left right first second found false false on_left on_right equality h k is =
      applied_has at operator left right first.kind second.kind found.kind h k (equal_applies at operator equality first second found is)

  -- likewise where it is negated
  equal_or_not_has : (at : ℕ) (operator : Binary) → IsEquality operator → (left right : Expression) (first second found : Operand) → HasKind result item around left first.kind → HasKind result item around right second.kind
      → binary_of at operator (side_by (is_nil_literal left) (is_nil_literal right)) first second ≡ Ok found → HasKind result item around (trees.BinaryAt at operator left right) found.kind
  equal_or_not_has at operator typing.is_equal left right first second found h k is =
      equality_has at (binaries.Comparison comparisons.Equal) left right first second found (is_nil_literal left) (is_nil_literal right) refl refl typing.is_equal h k is
  equal_or_not_has at operator typing.is_unequal left right first second found h k is =
      let same = from_bind (equality_of at (side_by (is_nil_literal left) (is_nil_literal right)) first second) negated found is in
      by_kind (trees.BinaryAt at (binaries.Comparison comparisons.NotEqual) left right) same.0.kind found.kind (given_kind (typed.unary unary.Not same.0.tree) same.0.kind found same.2)
      (equality_has at (binaries.Comparison comparisons.NotEqual) left right first second same.0 (is_nil_literal left) (is_nil_literal right) refl refl typing.is_unequal h k same.1)

  -- either of them
  either_has : (at : ℕ) (operator : Binary) (left right : Expression) (first second found : Operand) → HasKind result item around left first.kind → HasKind result item around right second.kind
      → binary_of at operator (side_by (is_nil_literal left) (is_nil_literal right)) first second ≡ Ok found → IsEquality operator ⊎ Applies operator first.kind second.kind found.kind
      → HasKind result item around (trees.BinaryAt at operator left right) found.kind
  either_has at operator left right first second found h k is (inl equality) = equal_or_not_has at operator equality left right first second found h k is
  either_has at operator left right first second found h k is (inr row) = applied_has at operator left right first.kind second.kind found.kind h k row

  -- an operator on two operands
  pub operator_has : (at : ℕ) (operator : Binary) (left right : Expression) (first second found : Operand) → HasKind result item around left first.kind → HasKind result item around right second.kind
      → binary_of at operator (side_by (is_nil_literal left) (is_nil_literal right)) first second ≡ Ok found → HasKind result item around (trees.BinaryAt at operator left right) found.kind
  operator_has at operator left right first second found h k is =
      either_has at operator left right first second found h k is (operator_applies at operator (is_nil_literal left) (is_nil_literal right) first second found is)

  -- a choice
  pub choice_has : (at : ℕ) (condition then_branch else_branch : Expression) (first left right found : Operand) → HasKind result item around condition first.kind → HasKind result item around then_branch left.kind
      → HasKind result item around else_branch right.kind → choice_of at first left right ≡ Ok found → HasKind result item around (trees.ChoiceAt at condition then_branch else_branch) found.kind
  choice_has at condition then_branch else_branch first left right found h k l is =
      let both = choice_found at (common left.kind right.kind) (is_boolean first) _ found is in
      let of = boolean_within first.kind both.1 in
      typing.of_choice (by_kind condition first.kind (shaped of.0) of.1 h) of.2 k l both.0

  -- a default
  pub default_has : (at : ℕ) (tree otherwise : Expression) (first other found : Operand) → HasKind result item around tree first.kind → HasKind result item around otherwise other.kind
      → default_of at first other ≡ Ok found → HasKind result item around (trees.DefaultAt at tree otherwise) found.kind
  default_has at tree otherwise first other found h k is =
      typing.of_default h k (default_row first.kind other.kind found.kind (in_common_found at _ (common_default (plain_kind first.kind) other.kind) found is))

  -- what holds of each item is a boolean
  pub predicate_has : (at : ℕ) (predicate : Predicate) (items body : Expression) (list inside found : Operand) (holds : Bool × Typed) (shape : Shape) → HasKind result item around items list.kind
      → item_shape at (plain_of list.kind) ≡ Ok shape → around < most_loops → HasKind result (Some shape) (suc around) body inside.kind → is_boolean inside ≡ holds.0
      → predicate_of at predicate list holds.0 holds.1 ≡ Ok found → HasKind result item around (trees.PredicateAt at predicate items body) found.kind
  predicate_has at predicate items body list inside found holds shape h has less k same is =
      let of = list_within at list.kind shape has in
      let given = wanted_kind at holds.0 _ (predicate_kind predicate (plain_kind list.kind)) found is in
      let row = predicate_row predicate (plain of.0) in
      let boolean_kind = boolean_within inside.kind (same ∙ given.0) in
      let kind : shaped row.0 ≡ found.kind = row.1 ∙ ap (λ kind. predicate_kind predicate (plain_kind kind)) (sym of.2) ∙ given.1 in
      by_kind (trees.PredicateAt at predicate items body) (shaped row.0) found.kind kind
      (typing.of_predicate (by_kind items list.kind (shaped of.0) of.2 h) of.3 less (subst (λ kind. HasKind result (Some shape) (suc around) body kind) boolean_kind.1 k) boolean_kind.2 row.2)

-- ---- what has a row is typed

-- two trees lead on to one
pub both_typed : (a b : Answer) (f : Operand → Operand → Answer) (of next_to kind : Kind) → IsTyped a of → IsTyped b next_to
    → ((left right : Typed) → IsTyped (f (operand left of) (operand right next_to)) kind) → IsTyped (a >>= λ first. b >>= f first) kind
both_typed a b f of next_to kind h k step =
    then_typed a (λ first. b >>= f first) of kind h (λ left. then_typed b (f (operand left of)) next_to kind k (λ right. step left right))

-- a field
pub field_typed : (at : ℕ) (name : List ℕ) (owner : Answer) (of shape : Shape) (fields : FieldShapes) → IsTyped owner (shaped of) → plain of ≡ shapes.object fields → shape_named name fields ≡ Some shape
    → IsTyped (owner >>= field_of at name) (shaped shape)
field_typed at name owner of shape fields h k l =
    then_typed owner (field_of at name) (shaped of) (shaped shape) h
    (λ tree. bind_typed (field_shape at name (Some (plain of))) (λ shape. given (typed.field (unwrapped (operand tree (shaped of))) name) (shaped shape)) shape (shaped shape)
    (field_is at name (plain of) shape fields k l) (typed.field (unwrapped (operand tree (shaped of))) name, refl))

-- an item by its number
pub index_typed : (at : ℕ) (list index : Answer) (of offset shape : Shape) (max : ℕ) → IsTyped list (shaped of) → plain of ≡ shapes.list shape max → IsTyped index (shaped offset) → plain offset ≡ shapes.whole
    → IsTyped (list >>= λ first. index >>= index_of at first) (shaped shape)
index_typed at list index of offset shape max h k l whole =
    both_typed list index (index_of at) (shaped of) (shaped offset) (shaped shape) h l
    (λ left right. bind_typed (item_shape at (Some (plain of)))
    (λ shape. where_wanted at (is_whole_number (scalar (operand right (shaped offset)))) (typed.binary binary.Index (unwrapped (operand left (shaped of))) (unwrapped (operand right (shaped offset)))) (shaped shape)) shape (shaped shape)
    (items_are at (plain of) shape max k)
    (wanted_typed at (is_whole_number (scalar (operand right (shaped offset)))) (typed.binary binary.Index (unwrapped (operand left (shaped of))) (unwrapped (operand right (shaped offset)))) (shaped shape) (whole_is (plain offset) whole)))

-- a length
pub len_typed : (at : ℕ) (list : Answer) (of shape : Shape) (max : ℕ) → IsTyped list (shaped of) → plain of ≡ shapes.list shape max → IsTyped (list >>= len_of at) (shaped shapes.whole)
len_typed at list of shape max h k =
    then_typed list (len_of at) (shaped of) (shaped shapes.whole) h
    (λ tree. bind_typed (item_shape at (Some (plain of))) (λ shape. given (typed.unary unary.Len (unwrapped (operand tree (shaped of)))) (shaped shapes.whole)) shape (shaped shapes.whole)
    (items_are at (plain of) shape max k) (typed.unary unary.Len (unwrapped (operand tree (shaped of))), refl))

-- equality with the literal `nil`
nil_equality : (at : ℕ) (nil_left nil_right : Bool) (left right : Operand) → nil_left ≡ true ⊎ nil_right ≡ true → IsTyped (equality_of at (side_by nil_left nil_right) left right) boolean_kind
nil_equality at true nil_right left right some = (typed.unary unary.IsNil right.tree, refl)
nil_equality at false true left right some = (typed.unary unary.IsNil left.tree, refl)
nil_equality at false false left right (inl is) = absurd (cc)
nil_equality at false false left right (inr is) = absurd (cc)

-- likewise where it is negated
pub nil_typed : (at : ℕ) (nil_left nil_right : Bool) {operator : Binary} → IsEquality operator → (left right : Operand) → nil_left ≡ true ⊎ nil_right ≡ true
    → IsTyped (binary_of at operator (side_by nil_left nil_right) left right) boolean_kind
nil_typed at nil_left nil_right typing.is_equal left right some = nil_equality at nil_left nil_right left right some
nil_typed at nil_left nil_right typing.is_unequal left right some = negated_typed (equality_of at (side_by nil_left nil_right) left right) boolean_kind (nil_equality at nil_left nil_right left right some)

-- branches with a kind in common
found_choice : (at : ℕ) (found : Option Kind) (is_boolean : Bool) (tree : Typed) (kind : Kind) → found ≡ Some kind → is_boolean ≡ true → IsTyped (choice_in at found is_boolean tree) kind
found_choice at found is_boolean tree kind h k = rw h (rw k (tree, refl))

-- a choice
pub choice_typed : (at : ℕ) (condition then_branch else_branch : Answer) (of : Shape) (left right both : Kind) → IsTyped condition (shaped of) → plain of ≡ shapes.bool → IsTyped then_branch left → IsTyped else_branch right → common left right ≡ Some both
    → IsTyped (condition >>= λ first. then_branch >>= λ second. else_branch >>= choice_of at first second) both
choice_typed at condition then_branch else_branch of left right both h is k l found =
    then_typed condition (λ first. then_branch >>= λ second. else_branch >>= choice_of at first second) (shaped of) both h
    (λ tree. both_typed then_branch else_branch (choice_of at (operand tree (shaped of))) left right both k l
    (λ then_branch else_branch. found_choice at (common left right) (is_boolean (operand tree (shaped of))) _ both found (boolean_is (plain of) is)))

-- two sides with a kind in common
found_default : (at : ℕ) (tree : Typed) (found : Option Kind) (kind : Kind) → found ≡ Some kind → IsTyped (in_common at tree found) kind
found_default at tree found kind h = rw h (tree, refl)

-- a default
pub default_typed : (at : ℕ) (first other : Answer) (left right both : Kind) → IsTyped first left → IsTyped other right → DefaultKind left right both → IsTyped (first >>= λ first. other >>= default_of at first) both
default_typed at first other left right both h k row =
    both_typed first other (default_of at) left right both h k (λ tree otherwise. found_default at _ (common_default (plain_kind left) right) both (default_by_row row))

-- a predicate
pub predicate_typed : (at around : ℕ) (predicate : Predicate) (list : Answer) (body : Shape → Answer) (of shape holds kind : Shape) (max : ℕ) → IsTyped list (shaped of) → plain of ≡ shapes.list shape max → around < most_loops
    → IsTyped (body shape) (shaped holds) → plain holds ≡ shapes.bool → PredicateKind predicate (plain of) kind
    → IsTyped (list >>= λ list. over_items at around list.kind body >>= λ holds. predicate_of at predicate list holds.0 holds.1) (shaped kind)
predicate_typed at around predicate list body of shape holds kind max h k less l is row =
    let found : Operand = operand l.0 (shaped holds) in
    then_typed list (λ list. over_items at around list.kind body >>= λ holds. predicate_of at predicate list holds.0 holds.1) (shaped of) (shaped kind) h
    (λ tree. bind_typed (over_items at around (shaped of) body) (λ holds. predicate_of at predicate (operand tree (shaped of)) holds.0 holds.1) (is_boolean found, unwrapped found) (shaped kind)
    (over_typed at around (shaped of) body shape found (items_are at (plain of) shape max k) less l.1)
    (same_kind (predicate_of at predicate (operand tree (shaped of)) (is_boolean found) (unwrapped found)) (predicate_kind predicate (shaped (plain of))) (shaped kind) (predicate_by_row row)
    (wanted_typed at (is_boolean found) _ (predicate_kind predicate (shaped (plain of))) (boolean_is (plain holds) is))))

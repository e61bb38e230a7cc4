-- What is typed has its kind, as a typed tree.
use Rattle.ar_value.specs.Operators.{same_family}
use Rattle.std.proofs.Common.{◌≡◌, ◌<◌, ℕ, suc, Bool, true, false, List, [], ◌∷◌, length, map, Option, Some, None, Ok, Err, IfOk, IfSome, refl, sym, ap, subst}
use Rattle.std.specs.Prelude.{◌&&◌, if◌then◌else◌, nat_lt, option_and_then}
use Rattle.std.proofs.lemmas.Bool.{ltb-true}
use Rattle.ar_value.specs.declared.operator.BinaryOperator.TheVariants as binary
use Rattle.ar_value.specs.declared.operator.UnaryOperator.TheVariants as unary
use Rattle.ar_value.specs.Answer.{◌>>=◌}
use Rattle.ar_value.specs.Kind.{Kind, nil, shaped, common, is_decimal, merge, plain, converted_next_to, whole_as_decimal, scalar_shape, boolean_kind}
use Rattle.ar_value.specs.Shape.{Shape, FieldShapes, shape_named}
use Rattle.ar_value.specs.Shape as shapes
use Rattle.ar_value.specs.declared.operator.Arithmetic.{Arithmetic}
use Rattle.ar_value.specs.declared.operator.Arithmetic.TheVariants.{Add, Subtract, Multiply, Divide, Remainder}
use Rattle.ar_value.specs.declared.operator.BinaryOperator.{BinaryOperator}
use Rattle.ar_value.specs.declared.operator.Family.{Family}
use Rattle.ar_value.specs.declared.operator.Family.TheVariants as families
use Rattle.ar_value.specs.declared.operator.Numbers.{Numbers}
use Rattle.ar_value.specs.declared.operator.Numbers.TheVariants.{Wholes, Decimals}
use Rattle.ar_value.specs.declared.operator.Order.{Order}
use Rattle.ar_value.specs.declared.operator.Order.TheVariants.{Less, LessOrEqual, Greater, GreaterOrEqual}
use Rattle.ar_value.specs.declared.operator.Predicate.{Predicate}
use Rattle.ar_value.specs.declared.operator.Scalar.{Scalar}
use Rattle.ar_value.specs.declared.operator.Scalar.TheVariants as scalars
use Rattle.ar_value.specs.Limits.{most_loops}
use Rattle.ar_tree.specs.Expression.{Expression, Expressions, offset_of}
use Rattle.ar_tree.specs.Expression as trees
use Rattle.ar_tree.specs.declared.tree.Binary.{Binary}
use Rattle.ar_tree.specs.declared.tree.Binary.TheVariants as binaries
use Rattle.ar_tree.specs.declared.tree.Comparison.{Comparison}
use Rattle.ar_tree.specs.declared.tree.Comparison.TheVariants as comparisons
use Rattle.ar_tree.specs.declared.tree.Unary.{Unary}
use Rattle.ar_tree.specs.declared.tree.Unary.TheVariants as unaries
use Rattle.ar_tree.specs.Typed.{Typed, Typeds, typeds, how_many}
use Rattle.ar_tree.specs.Typed as typed
use Rattle.ar_check.specs.Check.{Answer, Item, arithmetic_kind, arithmetic_on, binary_of, body_of, calculation_of, checked, choice_in, choice_of, common_of, comparison_of, condition_of, common_default, default_of, predicate_entered, equal_of, equality_of, field_of, field_shape, found_field, given, in_common, in_of, index_of, innermost as innermost_of, is_nil_literal, is_whole_number, item_of, item_shape, items_typed, len_of, list_in_common, list_literal_of, member_of, negated, negation_of, no_scalar, number_kind, ordered_of, ordering_of, over_items, plain_kind, plus_of, predicate_kind, predicate_of, arithmetic_in, compared_of, where_there, converted_item, typed_of, unary_of, where_wanted, widened}
use Rattle.ar_check.specs.Operand.{Operand, among, scalar_family, is_text_operand, is_text_scalar, is_boolean, is_bool, is_whole, unwrapped, numbers, numbers_in, plain_of, plain_tree, scalar, scalar_of, converted}
use Rattle.ar_check.specs.declared.error.TypeError.TheVariants.{NotTruth, PredicatesTooDeep}
use Rattle.ar_check.proofs.Lists.{all_suit, common_suits, suits}
use Rattle.ar_check.proofs.Means.{answers, both_hold}
use Rattle.ar_check.proofs.Parts.{ListOf, is_list, one_family}
use Rattle.ar_safety.specs.Effects.{binary_kind, family_of, is_family, unary_kind}
use Rattle.ar_safety.specs.Effects as effects
use Rattle.ar_compile.specs.Private.Kinded.{Kinded, AllKinded, measured, innermost, literally, of_field, of_unary, of_binary, of_both, of_either, of_choice, of_list, of_predicate, none, one_more}
use Rattle.ar_check.specs.Private.Inside.{side_by}

module _ (wanted : Shape) (inner : Option Shape) (around : ℕ) where
  abbrev Has : Typed → Kind → Type 0
  Has tree kind = Kinded wanted inner around tree kind

  abbrev Is : Operand → Type 0
  Is operand = Has operand.tree operand.kind

  -- what is given where operands are what is required
  wanted_kinded : (at : ℕ) (is_wanted : Bool) (tree : Typed) (kind : Kind) → (is_wanted ≡ true → Has tree kind) → IfOk (where_wanted at is_wanted tree kind) Is
  wanted_kinded at true tree kind h = h refl
  wanted_kinded at false tree kind h = tt

  -- ---- plain operands, scalars and numbers

  tree_plain : (kind : Kind) (tree : Typed) → Has tree kind → Has (plain_tree kind tree) (plain_kind kind)
  tree_plain nil tree h = h
  tree_plain (shaped (shapes.optional shape)) tree h = of_unary h refl
  tree_plain (shaped shape) tree h = h

  is_plain : (operand : Operand) → Is operand → Has (unwrapped operand) (plain_kind operand.kind)
  is_plain operand h = tree_plain operand.kind operand.tree h

  abbrev HasScalar : Option Scalar → Typed → Type 0
  HasScalar (Some scalar) tree = Has tree (shaped (scalar_shape scalar))
  HasScalar None tree = Unit {0}

  abbrev HasNumbers : Option Numbers → Typed → Type 0
  HasNumbers (Some numbers) tree = Has tree (number_kind numbers)
  HasNumbers None tree = Unit {0}

  of_shape : (shape : Shape) (tree : Typed) → Has tree (shaped shape) → HasScalar (scalar_of shape) tree
  of_shape shapes.bool tree h = h
  of_shape shapes.whole tree h = h
  of_shape shapes.decimal tree h = h
  of_shape shapes.text tree h = h
  of_shape shape tree h = tt

  of_kind : (kind : Kind) (tree : Typed) → Has tree (plain_kind kind) → HasScalar (option_and_then scalar_of (plain_of kind)) tree
  of_kind nil tree h = tt
  of_kind (shaped shape) tree h = of_shape (plain shape) tree h

  is_scalar : (operand : Operand) → Is operand → HasScalar (scalar operand) (unwrapped operand)
  is_scalar operand h = of_kind operand.kind (unwrapped operand) (is_plain operand h)

  of_scalar : (found : Option Scalar) (tree : Typed) → HasScalar found tree → HasNumbers (option_and_then numbers_in found) tree
  of_scalar (Some scalars.Whole) tree h = h
  of_scalar (Some scalars.Decimal) tree h = h
  of_scalar (Some scalars.Bool) tree h = tt
  of_scalar (Some scalars.Text) tree h = tt
  of_scalar None tree h = tt

  are_numbers : (operand : Operand) → Is operand → HasNumbers (numbers operand) (unwrapped operand)
  are_numbers operand h = of_scalar (scalar operand) (unwrapped operand) (is_scalar operand h)

  boolean_of_scalar : (found : Option Scalar) (tree : Typed) → HasScalar found tree → is_bool found ≡ true → Has tree boolean_kind
  boolean_of_scalar (Some scalars.Bool) tree h is = h
  boolean_of_scalar found tree h is = absurd cc

  is_true : (operand : Operand) → Is operand → is_boolean operand ≡ true → Has (unwrapped operand) boolean_kind
  is_true operand h is = boolean_of_scalar (scalar operand) (unwrapped operand) (is_scalar operand h) is

  text_of_scalar : (found : Option Scalar) (tree : Typed) → HasScalar found tree → is_text_scalar found ≡ true → Has tree (shaped shapes.text)
  text_of_scalar (Some scalars.Text) tree h is = h
  text_of_scalar found tree h is = absurd cc

  is_letters : (operand : Operand) → Is operand → is_text_operand operand ≡ true → Has (unwrapped operand) (shaped shapes.text)
  is_letters operand h is = text_of_scalar (scalar operand) (unwrapped operand) (is_scalar operand h) is

  whole_of_scalar : (found : Option Scalar) (tree : Typed) → HasScalar found tree → is_whole_number found ≡ true → Has tree (shaped shapes.whole)
  whole_of_scalar (Some scalars.Whole) tree h is = h
  whole_of_scalar found tree h is = absurd cc

  -- ---- leaves, fields and lists

  item_kinded : (at : ℕ) (shape : Option Shape) → inner ≡ shape → IfOk (innermost_of at shape) Is
  item_kinded at (Some shape) is = subst (λ inner. Kinded wanted inner around typed.item (shaped shape)) (sym is) innermost
  item_kinded at None is = tt

  found_kinded : (at : ℕ) (fields : FieldShapes) (found : Option Shape) (owner : Typed) (name : List ℕ) → shape_named name fields ≡ found → Has owner (shaped (shapes.object fields))
      → IfOk (found_field at found >>= λ shape. given (typed.field owner name) (shaped shape)) Is
  found_kinded at named (Some shape) owner name is h = of_field h is
  found_kinded at named None owner name is h = tt

  shape_kinded : (at : ℕ) (shape : Shape) (owner : Typed) (name : List ℕ) → Has owner (shaped shape) → IfOk (field_shape at name (Some shape) >>= λ shape. given (typed.field owner name) (shaped shape)) Is
  shape_kinded at (shapes.object fields) owner name h = found_kinded at fields (shape_named name fields) owner name refl h
  shape_kinded at shapes.bool owner name h = tt
  shape_kinded at shapes.whole owner name h = tt
  shape_kinded at shapes.decimal owner name h = tt
  shape_kinded at shapes.text owner name h = tt
  shape_kinded at (shapes.list shape max) owner name h = tt
  shape_kinded at (shapes.optional shape) owner name h = tt

  kind_kinded : (at : ℕ) (kind : Kind) (owner : Typed) (name : List ℕ) → Has owner (plain_kind kind) → IfOk (field_shape at name (plain_of kind) >>= λ shape. given (typed.field owner name) (shaped shape)) Is
  kind_kinded at nil owner name h = tt
  kind_kinded at (shaped shape) owner name h = shape_kinded at (plain shape) owner name h

  field_kinded : (at : ℕ) (name : List ℕ) (owner : Operand) → Is owner → IfOk (field_of at name owner) Is
  field_kinded at name owner h = kind_kinded at owner.kind (unwrapped owner) name (is_plain owner h)

  plain_list : (list : Operand) (shape : Shape) → (of : ListOf list.kind shape) → Is list → Has (unwrapped list) (shaped (shapes.list shape of.0))
  plain_list list shape of h = subst (λ kind. Has (unwrapped list) kind) of.1 (is_plain list h)

  len_kinded : (at : ℕ) (list : Operand) → Is list → IfOk (len_of at list) Is
  len_kinded at list h = answers _ _ (item_shape at (plain_of list.kind)) (λ shape. given (typed.unary unary.Len (unwrapped list)) (shaped shapes.whole)) (is_list at list.kind) (λ shape of. of_unary (plain_list list shape of h) refl)

  index_kinded : (at : ℕ) (list position : Operand) → Is list → Is position → IfOk (index_of at list position) Is
  index_kinded at list position h k =
      answers _ _ (item_shape at (plain_of list.kind)) (λ shape. where_wanted at (is_whole_number (scalar position)) (typed.binary binary.Index (unwrapped list) (unwrapped position)) (shaped shape)) (is_list at list.kind)
      (λ shape of. wanted_kinded at (is_whole_number (scalar position)) (typed.binary binary.Index (unwrapped list) (unwrapped position)) (shaped shape)
      (λ is. of_binary (plain_list list shape of h) (whole_of_scalar (scalar position) (unwrapped position) (is_scalar position k) is) refl))

  -- ---- numbers

  left_among : (m n : Numbers) (tree : Typed) → Has tree (number_kind m) → Has (among n m tree) (number_kind (widened m n))
  left_among Wholes Wholes tree h = h
  left_among Wholes Decimals tree h = of_unary h refl
  left_among Decimals Wholes tree h = h
  left_among Decimals Decimals tree h = h

  right_among : (m n : Numbers) (tree : Typed) → Has tree (number_kind n) → Has (among m n tree) (number_kind (widened m n))
  right_among Wholes Wholes tree h = h
  right_among Wholes Decimals tree h = h
  right_among Decimals Wholes tree h = of_unary h refl
  right_among Decimals Decimals tree h = h

  -- arithmetic of two numbers of one kind, where there is any
  calculates : (operator : Arithmetic) (numbers : Numbers) → IfSome (arithmetic_in numbers operator) (λ found. binary_kind found (number_kind numbers) (number_kind numbers) ≡ Some (arithmetic_kind operator numbers))
  calculates Add Wholes = refl
  calculates Subtract Wholes = refl
  calculates Multiply Wholes = refl
  calculates Divide Wholes = refl
  calculates Remainder Wholes = refl
  calculates Add Decimals = refl
  calculates Subtract Decimals = refl
  calculates Multiply Decimals = refl
  calculates Divide Decimals = refl
  calculates Remainder Decimals = tt

  there_kinded : (at : ℕ) (found : Option BinaryOperator) (numbers : Numbers) (left right : Typed) (kind : Kind) → Has left (number_kind numbers) → Has right (number_kind numbers)
      → IfSome found (λ found. binary_kind found (number_kind numbers) (number_kind numbers) ≡ Some kind) → IfOk (where_there at found left right kind) Is
  there_kinded at (Some operator) numbers left right kind h k gives = of_binary h k gives
  there_kinded at None numbers left right kind h k gives = tt

  orders : (m n : Numbers) (way : Order) → binary_kind (binary.Compare (compared_of m n) way) (number_kind m) (number_kind n) ≡ Some boolean_kind
  orders Wholes Wholes way = refl
  orders Wholes Decimals way = refl
  orders Decimals Wholes way = refl
  orders Decimals Decimals way = refl

  negates : (numbers : Numbers) → unary_kind (unary.Negate numbers) (number_kind numbers) ≡ Some (number_kind numbers)
  negates Wholes = refl
  negates Decimals = refl

  arithmetic_kinded : (at : ℕ) (operator : Arithmetic) (m n : Option Numbers) (left right : Typed) → HasNumbers m left → HasNumbers n right → IfOk (arithmetic_on at operator m n left right) Is
  arithmetic_kinded at operator (Some m) (Some n) left right h k =
      there_kinded at (arithmetic_in (widened m n) operator) (widened m n) (among n m left) (among m n right) (arithmetic_kind operator (widened m n)) (left_among m n left h) (right_among m n right k) (calculates operator (widened m n))
  arithmetic_kinded at operator (Some m) None left right h k = tt
  arithmetic_kinded at operator None n left right h k = tt

  sum_kinded : (at : ℕ) (operator : Arithmetic) (left right : Operand) → Is left → Is right → IfOk (calculation_of at operator left right) Is
  sum_kinded at operator left right h k = arithmetic_kinded at operator (numbers left) (numbers right) (unwrapped left) (unwrapped right) (are_numbers left h) (are_numbers right k)

  ordered_kinded : (at : ℕ) (way : Order) (m n : Option Numbers) (left right : Typed) → HasNumbers m left → HasNumbers n right → IfOk (ordered_of at way m n left right) Is
  ordered_kinded at way (Some m) (Some n) left right h k = of_binary h k (orders m n way)
  ordered_kinded at way (Some m) None left right h k = tt
  ordered_kinded at way None n left right h k = tt

  order_kinded : (at : ℕ) (way : Order) (left right : Operand) → Is left → Is right → IfOk (ordering_of at way left right) Is
  order_kinded at way left right h k = ordered_kinded at way (numbers left) (numbers right) (unwrapped left) (unwrapped right) (are_numbers left h) (are_numbers right k)

  negative_kinded : (at : ℕ) (found : Option Numbers) (tree : Typed) → HasNumbers found tree → IfOk (negation_of at found tree) Is
  negative_kinded at (Some found) tree h = of_unary h (negates found)
  negative_kinded at None tree h = tt

  positive_kinded : (at : ℕ) (found : Option Numbers) (tree : Typed) → HasNumbers found tree → IfOk (plus_of at found tree) Is
  positive_kinded at (Some found) tree h = h
  positive_kinded at None tree h = tt

  unary_kinded : (at : ℕ) (operator : Unary) (operand : Operand) → Is operand → IfOk (unary_of at operator operand) Is
  unary_kinded at unaries.Minus operand h = negative_kinded at (numbers operand) (unwrapped operand) (are_numbers operand h)
  unary_kinded at unaries.Plus operand h = positive_kinded at (numbers operand) (unwrapped operand) (are_numbers operand h)
  unary_kinded at unaries.Not operand h = wanted_kinded at (is_boolean operand) (typed.unary unary.Not (unwrapped operand)) boolean_kind (λ is. of_unary (is_true operand h is) refl)

  -- ---- booleans

  abbrev IsBoolean : Operand → Type 0
  IsBoolean operand = (operand.kind ≡ boolean_kind) × Has operand.tree boolean_kind

  boolean_wanted : (at : ℕ) (is_wanted : Bool) (tree : Typed) → (is_wanted ≡ true → Has tree boolean_kind) → IfOk (where_wanted at is_wanted tree boolean_kind) IsBoolean
  boolean_wanted at true tree h = (refl, h refl)
  boolean_wanted at false tree h = tt

  boolean_kinded : (answer : Answer) → IfOk answer IsBoolean → IfOk answer Is
  boolean_kinded (Ok operand) h = subst (λ kind. Has operand.tree kind) (sym h.0) h.1
  boolean_kinded (Err e) h = tt

  negated_kinded : (answer : Answer) → IfOk answer IsBoolean → IfOk (answer >>= negated) Is
  negated_kinded (Ok operand) h = subst (λ kind. Has (typed.unary unary.Not operand.tree) kind) (sym h.0) (of_unary h.1 refl)
  negated_kinded (Err e) h = tt

  -- ---- equality and membership

  -- a scalar is of its family
  shape_family : (shape : Shape) (found : Scalar) → scalar_of shape ≡ Some found → family_of shape ≡ Some (scalar_family found)
  shape_family shapes.bool scalars.Bool is = refl
  shape_family shapes.whole scalars.Whole is = refl
  shape_family shapes.decimal scalars.Decimal is = refl
  shape_family shapes.text scalars.Text is = refl
  shape_family shape found is = absurd cc

  kind_family : (kind : Kind) (found : Scalar) → option_and_then scalar_of (plain_of kind) ≡ Some found → effects.family_in kind ≡ Some (scalar_family found)
  kind_family nil found is = absurd cc
  kind_family (shaped shape) found is = shape_family (plain shape) found is

  is_itself : (family : Family) → is_family family (Some family) ≡ true
  is_itself families.Boolean = refl
  is_itself families.Number = refl
  is_itself families.Text = refl

  equal_kinded : (at : ℕ) (m n : Option Scalar) (left right : Operand) → scalar left ≡ m → scalar right ≡ n → Is left → Is right → IfOk (equal_of at m n left.tree right.tree) IsBoolean
  equal_kinded at (Some m) (Some n) left right of_m of_n h k =
      boolean_wanted at (same_family (scalar_family m) (scalar_family n)) (typed.binary (binary.Equal (scalar_family m)) left.tree right.tree)
      (λ is. of_binary h k (rw (kind_family left.kind m of_m, kind_family right.kind n of_n, one_family m n is, is_itself (scalar_family m)) refl))
  equal_kinded at (Some m) None left right of_m of_n h k = tt
  equal_kinded at None n left right of_m of_n h k = tt

  equality_kinded : (at : ℕ) (nil_left nil_right : Bool) (left right : Operand) → Is left → Is right → IfOk (equality_of at (side_by nil_left nil_right) left right) IsBoolean
  equality_kinded at true nil_right left right h k = (refl, of_unary k refl)
  equality_kinded at false true left right h k = (refl, of_unary h refl)
  equality_kinded at false false left right h k = equal_kinded at (scalar left) (scalar right) left right refl refl h k

  member_kinded : (at : ℕ) (m n : Option Scalar) (left : Operand) (list : Typed) (shape : Shape) (max : ℕ) → scalar left ≡ m → scalar_of (plain shape) ≡ n → Is left → Has list (shaped (shapes.list shape max))
      → IfOk (member_of at m n left.tree list) IsBoolean
  member_kinded at (Some m) (Some n) left list shape max of_m of_n h k =
      boolean_wanted at (same_family (scalar_family m) (scalar_family n)) (typed.binary binary.IsIn left.tree list)
      (λ is. of_binary h k (rw (kind_family left.kind m of_m, shape_family (plain shape) n of_n, one_family m n is, is_itself (scalar_family m)) refl))
  member_kinded at (Some m) None left list shape max of_m of_n h k = tt
  member_kinded at None n left list shape max of_m of_n h k = tt

  in_kinded : (at : ℕ) (left right : Operand) → Is left → Is right → IfOk (in_of at left right) IsBoolean
  in_kinded at left right h k =
      answers _ _ (item_shape at (plain_of right.kind)) (λ shape. member_of at (scalar left) (scalar_of (plain shape)) left.tree (unwrapped right)) (is_list at right.kind)
      (λ shape of. member_kinded at (scalar left) (scalar_of (plain shape)) left (unwrapped right) shape of.0 refl refl h (plain_list right shape of k))

  -- ---- operators

  comparison_kinded : (at : ℕ) (comparison : Comparison) (nil_left nil_right : Bool) (left right : Operand) → Is left → Is right → IfOk (comparison_of at comparison (side_by nil_left nil_right) left right) Is
  comparison_kinded at comparisons.Equal nil_left nil_right left right h k = boolean_kinded (equality_of at (side_by nil_left nil_right) left right) (equality_kinded at nil_left nil_right left right h k)
  comparison_kinded at comparisons.NotEqual nil_left nil_right left right h k = negated_kinded (equality_of at (side_by nil_left nil_right) left right) (equality_kinded at nil_left nil_right left right h k)
  comparison_kinded at comparisons.Less nil_left nil_right left right h k = order_kinded at Less left right h k
  comparison_kinded at comparisons.LessOrEqual nil_left nil_right left right h k = order_kinded at LessOrEqual left right h k
  comparison_kinded at comparisons.Greater nil_left nil_right left right h k = order_kinded at Greater left right h k
  comparison_kinded at comparisons.GreaterOrEqual nil_left nil_right left right h k = order_kinded at GreaterOrEqual left right h k

  binary_kinded : (at : ℕ) (operator : Binary) (nil_left nil_right : Bool) (left right : Operand) → Is left → Is right → IfOk (binary_of at operator (side_by nil_left nil_right) left right) Is
  binary_kinded at binaries.Or nil_left nil_right left right h k =
      wanted_kinded at (is_boolean left && is_boolean right) (typed.either (unwrapped left) (unwrapped right)) boolean_kind
      (λ is. let parts = both_hold (is_boolean left) (is_boolean right) is in of_either (is_true left h parts.0) (is_true right k parts.1))
  binary_kinded at binaries.And nil_left nil_right left right h k =
      wanted_kinded at (is_boolean left && is_boolean right) (typed.both (unwrapped left) (unwrapped right)) boolean_kind
      (λ is. let parts = both_hold (is_boolean left) (is_boolean right) is in of_both (is_true left h parts.0) (is_true right k parts.1))
  binary_kinded at (binaries.Comparison comparison) nil_left nil_right left right h k = comparison_kinded at comparison nil_left nil_right left right h k
  binary_kinded at binaries.In nil_left nil_right left right h k = boolean_kinded (in_of at left right) (in_kinded at left right h k)
  binary_kinded at binaries.NotIn nil_left nil_right left right h k = negated_kinded (in_of at left right) (in_kinded at left right h k)
  binary_kinded at (binaries.TextTest test) nil_left nil_right left right h k =
      wanted_kinded at (is_text_operand left && is_text_operand right) (typed.binary (binary.TextTest test) (unwrapped left) (unwrapped right)) boolean_kind
      (λ is. let parts = both_hold (is_text_operand left) (is_text_operand right) is in of_binary (is_letters left h parts.0) (is_letters right k parts.1) refl)
  binary_kinded at binaries.Add nil_left nil_right left right h k = sum_kinded at Add left right h k
  binary_kinded at binaries.Subtract nil_left nil_right left right h k = sum_kinded at Subtract left right h k
  binary_kinded at binaries.Multiply nil_left nil_right left right h k = sum_kinded at Multiply left right h k
  binary_kinded at binaries.Divide nil_left nil_right left right h k = sum_kinded at Divide left right h k
  binary_kinded at binaries.Remainder nil_left nil_right left right h k = sum_kinded at Remainder left right h k

  -- ---- choices and defaults

  converted_by : (turns : Bool) (shape : Shape) (tree : Typed) → Has tree (shaped shape)
      → Has (if turns && is_whole (plain shape) then typed.unary unary.ToDecimal tree else tree) (if turns then shaped (whole_as_decimal shape) else shaped shape)
  converted_by false shape tree h = h
  converted_by true shapes.whole tree h = of_unary h refl
  converted_by true (shapes.optional shapes.whole) tree h = of_unary h refl
  converted_by true shape tree h = h

  converted_kinded : (other kind : Kind) (tree : Typed) → Has tree kind → Has (converted other kind tree) (converted_next_to other kind)
  converted_kinded nil kind tree h = h
  converted_kinded (shaped other) nil tree h = h
  converted_kinded (shaped other) (shaped shape) tree h = converted_by (is_decimal other) shape tree h

  choice_found : (at : ℕ) (found : Option Kind) (left right : Kind) (condition : Operand) (then_branch else_branch : Typed) → merge left right ≡ found → Is condition → Has then_branch left → Has else_branch right
      → IfOk (choice_in at found (is_boolean condition) (typed.choice (unwrapped condition) then_branch else_branch)) Is
  choice_found at None left right condition then_branch else_branch is h k l = tt
  choice_found at (Some kind) left right condition then_branch else_branch is h k l =
      wanted_kinded at (is_boolean condition) (typed.choice (unwrapped condition) then_branch else_branch) kind (λ holds. of_choice (is_true condition h holds) k l is)

  choice_kinded : (at : ℕ) (condition then_branch else_branch : Operand) → Is condition → Is then_branch → Is else_branch → IfOk (choice_of at condition then_branch else_branch) Is
  choice_kinded at condition then_branch else_branch h k l =
      choice_found at (common then_branch.kind else_branch.kind) (converted_next_to else_branch.kind then_branch.kind) (converted_next_to then_branch.kind else_branch.kind) condition (converted else_branch.kind then_branch.kind then_branch.tree) (converted then_branch.kind else_branch.kind else_branch.tree) refl h
      (converted_kinded else_branch.kind then_branch.kind then_branch.tree k) (converted_kinded then_branch.kind else_branch.kind else_branch.tree l)

  -- what is converted by its plain shape
  record PlainConverted (tree : Typed) (kind : Kind) : Type 0 where
    of : Shape
    has : Has tree (shaped of)
    is : kind ≡ shaped (plain of)

  plain_converted_by : (turns : Bool) (shape : Shape) (tree : Typed) → Has tree (shaped shape)
      → PlainConverted (if turns && is_whole (plain (plain shape)) then typed.unary unary.ToDecimal tree else tree) (if turns then shaped (whole_as_decimal (plain shape)) else shaped (plain shape))
  plain_converted_by false shape tree h = record { of = shape; has = h; is = refl }
  plain_converted_by true shapes.whole tree h = record { of = shapes.decimal; has = of_unary h refl; is = refl }
  plain_converted_by true (shapes.optional shapes.whole) tree h = record { of = shapes.optional shapes.decimal; has = of_unary h refl; is = refl }
  plain_converted_by true (shapes.optional (shapes.optional shapes.whole)) tree h =
      record { of = shapes.optional (shapes.optional shapes.decimal); has = of_unary h refl; is = refl }
  plain_converted_by true shape tree h = record { of = shape; has = h; is = refl }

  plain_converted : (other : Kind) (shape : Shape) (tree : Typed) → Has tree (shaped shape) → PlainConverted (converted other (shaped (plain shape)) tree) (converted_next_to other (shaped (plain shape)))
  plain_converted nil shape tree h = record { of = shape; has = h; is = refl }
  plain_converted (shaped other) shape tree h = plain_converted_by (is_decimal other) shape tree h

  default_found : (at : ℕ) (found : Option Kind) (of right : Kind) (first other : Typed) → PlainConverted first of → merge of right ≡ found → Has other right → IfOk (in_common at (typed.binary binary.Default first other) found) Is
  default_found at None of right first other h is k = tt
  default_found at (Some kind) of right first other h is k = of_binary h.has k (subst (λ of. merge of right ≡ Some kind) h.is is)

  default_kinds : (at : ℕ) (of of_other : Kind) (first other : Typed) → Has first of → Has other of_other
      → IfOk (in_common at (typed.binary binary.Default (converted of_other (plain_kind of) first) (converted (plain_kind of) of_other other)) (common_default (plain_kind of) of_other)) Is
  default_kinds at nil nil first other h k = of_binary h k refl
  default_kinds at nil (shaped shape) first other h k = of_binary h k refl
  default_kinds at (shaped shape) of_other first other h k =
      default_found at (common (shaped (plain shape)) of_other) (converted_next_to of_other (shaped (plain shape))) (converted_next_to (shaped (plain shape)) of_other) (converted of_other (shaped (plain shape)) first)
      (converted (shaped (plain shape)) of_other other) (plain_converted of_other shape first h) refl (converted_kinded (shaped (plain shape)) of_other other k)

  default_kinded : (at : ℕ) (first other : Operand) → Is first → Is other → IfOk (default_of at first other) Is
  default_kinded at first other h k = default_kinds at first.kind other.kind first.tree other.tree h k

  -- ---- lists

  abbrev HaveScalars : List Item → Type 0
  HaveScalars [] = Unit {0}
  HaveScalars (item ∷ items) = HasScalar item.scalar item.tree × HaveScalars items

  item_converted : (found : Scalar) (of : Option Scalar) (tree : Typed) → suits found of ≡ true → HasScalar of tree → Has (converted_item found of tree) (shaped (scalar_shape found))
  item_converted scalars.Bool (Some scalars.Bool) tree is h = h
  item_converted scalars.Whole (Some scalars.Whole) tree is h = h
  item_converted scalars.Decimal (Some scalars.Whole) tree is h = of_unary h refl
  item_converted scalars.Decimal (Some scalars.Decimal) tree is h = h
  item_converted scalars.Text (Some scalars.Text) tree is h = h
  item_converted found of tree is h = absurd cc

  abbrev converted_items : Scalar → List Item → Typeds
  converted_items found items = typeds (map (λ item. converted_item found item.scalar item.tree) items)

  all_converted : (found : Scalar) (items : List Item) → all_suit found items ≡ true → HaveScalars items → AllKinded wanted inner around (converted_items found items) found
  all_converted found [] is h = none
  all_converted found (item ∷ items) is h =
      let parts = both_hold (suits found item.scalar) (all_suit found items) is in
      one_more (item_converted found item.scalar item.tree parts.0 h.0) (all_converted found items parts.1 h.1)

  as_many : (found : Scalar) (items : List Item) → how_many (converted_items found items) ≡ length items
  as_many found [] = refl
  as_many found (item ∷ items) = ap suc (as_many found items)

  in_common_kinded : (at : ℕ) (items : List Item) (found : Option Scalar) → common_of items ≡ found → HaveScalars items → IfOk (list_in_common at items found) Is
  in_common_kinded at items (Some found) is h =
      subst (λ many. Has (typed.listed found (converted_items found items)) (shaped (shapes.list (scalar_shape found) many))) (as_many found items) (of_list (all_converted found items (common_suits found items is) h))
  in_common_kinded at items None is h = tt

  list_kinded : (at : ℕ) (items : List Item) (index : Option ℕ) → HaveScalars items → IfOk (list_literal_of at items index) Is
  list_kinded at items (Some index) h = tt
  list_kinded at items None h = in_common_kinded at items (common_of items) refl h

  -- ---- predicates

  record Body (list : Kind) (body : Bool × Typed) : Type 0 where
    shape : Shape
    of : ListOf list shape
    within : around < most_loops
    has : body.0 ≡ true → Kinded wanted (Some shape) (suc around) body.1 boolean_kind

  record Inside (shape inside : Shape) : Type 0 where
    same : inside ≡ shape
    within : around < most_loops

  entered_by : (at : ℕ) (shape : Shape) (less : Bool) → nat_lt around most_loops ≡ less → IfOk (if less then Ok shape else Err (PredicatesTooDeep at)) (Inside shape)
  entered_by at shape true is = record { same = refl; within = ltb-true around most_loops is }
  entered_by at shape false is = tt

  predicate_kinded : (at : ℕ) (predicate : Predicate) (list : Operand) (body : Bool × Typed) → Is list → Body list.kind body → IfOk (predicate_of at predicate list body.0 body.1) Is
  predicate_kinded at predicate list body h says =
      wanted_kinded at body.0 (typed.predicate predicate (unwrapped list) body.1) (predicate_kind predicate (plain_kind list.kind))
      (λ is. subst (λ kind. Has (typed.predicate predicate (unwrapped list) body.1) (predicate_kind predicate kind)) (sym says.of.1) (of_predicate (plain_list list says.shape says.of h) says.within (says.has is)))

module _ (wanted : Shape) where
  abbrev Typing : Option Shape → ℕ → Operand → Type 0
  Typing inner around operand = Kinded wanted inner around operand.tree operand.kind

  -- what holds of the items of a list, where a body has the kind of booleans
  over_kinded : (inner : Option Shape) (around at : ℕ) (kind : Kind) (found : Shape → Answer) → ((shape : Shape) → IfOk (found shape) (Typing (Some shape) (suc around))) → IfOk (over_items at around kind found) (Body wanted inner around kind)
  unfolding over_items
  over_kinded inner around at kind found has =
      answers (ListOf kind) (Body wanted inner around kind) (item_shape at (plain_of kind)) (λ shape. predicate_entered at around shape >>= λ inside. found inside >>= body_of) (is_list at kind)
      (λ shape of. answers (Inside wanted inner around shape) (Body wanted inner around kind) (predicate_entered at around shape) (λ inside. found inside >>= body_of) (entered_by wanted inner around at shape (nat_lt around most_loops) refl)
      (λ inside enters. answers (Typing (Some inside) (suc around)) (Body wanted inner around kind) (found inside) body_of (has inside)
      (λ body h. record { shape = shape; of = of; within = enters.within; has = λ is. subst (λ (s : Shape). Kinded wanted (Some s) (suc around) (unwrapped body) boolean_kind) enters.same (is_true wanted (Some inside) (suc around) body h is) })))

  mutual
    tree_kinded : (inner : Option Shape) (around : ℕ) (tree : Expression) → IfOk (typed_of wanted inner around tree) (Typing inner around)
    tree_kinded inner around (trees.ResultAt at) = measured
    tree_kinded inner around (trees.ItemAt at) = item_kinded wanted inner around at inner refl
    tree_kinded inner around (trees.LiteralAt at literal) = literally literal
    tree_kinded inner around (trees.FieldAt at owner name) = answers _ _ (typed_of wanted inner around owner) (field_of at name) (tree_kinded inner around owner) (field_kinded wanted inner around at name)
    tree_kinded inner around (trees.IndexAt at list position) =
        answers _ _ (typed_of wanted inner around list) (λ first. typed_of wanted inner around position >>= index_of at first) (tree_kinded inner around list)
        (λ first h. answers _ _ (typed_of wanted inner around position) (index_of at first) (tree_kinded inner around position) (λ second k. index_kinded wanted inner around at first second h k))
    tree_kinded inner around (trees.UnaryAt at operator operand) = answers _ _ (typed_of wanted inner around operand) (unary_of at operator) (tree_kinded inner around operand) (unary_kinded wanted inner around at operator)
    tree_kinded inner around (trees.BinaryAt at operator left right) =
        answers _ _ (typed_of wanted inner around left) (λ first. typed_of wanted inner around right >>= binary_of at operator (side_by (is_nil_literal left) (is_nil_literal right)) first) (tree_kinded inner around left)
        (λ first h. answers _ _ (typed_of wanted inner around right) (binary_of at operator (side_by (is_nil_literal left) (is_nil_literal right)) first) (tree_kinded inner around right)
        (λ second k. binary_kinded wanted inner around at operator (is_nil_literal left) (is_nil_literal right) first second h k))
    tree_kinded inner around (trees.ChoiceAt at condition then_branch else_branch) =
        answers _ _ (typed_of wanted inner around condition) (λ a. typed_of wanted inner around then_branch >>= λ b. typed_of wanted inner around else_branch >>= choice_of at a b) (tree_kinded inner around condition)
        (λ a h. answers _ _ (typed_of wanted inner around then_branch) (λ b. typed_of wanted inner around else_branch >>= choice_of at a b) (tree_kinded inner around then_branch)
        (λ b k. answers _ _ (typed_of wanted inner around else_branch) (choice_of at a b) (tree_kinded inner around else_branch) (λ c l. choice_kinded wanted inner around at a b c h k l)))
    tree_kinded inner around (trees.ListAt at items) =
        answers _ _ (items_typed wanted inner around items) (λ items. list_literal_of at items (no_scalar items)) (items_kinded inner around items) (λ items h. list_kinded wanted inner around at items (no_scalar items) h)
    tree_kinded inner around (trees.LenAt at list) = answers _ _ (typed_of wanted inner around list) (len_of at) (tree_kinded inner around list) (len_kinded wanted inner around at)
    tree_kinded inner around (trees.IsNilAt at operand) = answers _ _ (typed_of wanted inner around operand) (λ operand. given (typed.unary unary.IsNil operand.tree) boolean_kind) (tree_kinded inner around operand) (λ operand h. of_unary h refl)
    tree_kinded inner around (trees.DefaultAt at operand otherwise) =
        answers _ _ (typed_of wanted inner around operand) (λ first. typed_of wanted inner around otherwise >>= default_of at first) (tree_kinded inner around operand)
        (λ first h. answers _ _ (typed_of wanted inner around otherwise) (default_of at first) (tree_kinded inner around otherwise) (λ second k. default_kinded wanted inner around at first second h k))
    tree_kinded inner around (trees.PredicateAt at predicate list body) =
        answers _ _ (typed_of wanted inner around list) (λ list. over_items at around list.kind (λ shape. typed_of wanted (Some shape) (suc around) body) >>= λ body. predicate_of at predicate list body.0 body.1) (tree_kinded inner around list)
        (λ list h. answers (Body wanted inner around list.kind) _ (over_items at around list.kind (λ shape. typed_of wanted (Some shape) (suc around) body)) (λ body. predicate_of at predicate list body.0 body.1)
        (over_kinded inner around at list.kind (λ shape. typed_of wanted (Some shape) (suc around) body) (λ shape. tree_kinded (Some shape) (suc around) body))
        (λ body says. predicate_kinded wanted inner around at predicate list body h says))

    items_kinded : (inner : Option Shape) (around : ℕ) (items : Expressions) → IfOk (items_typed wanted inner around items) (HaveScalars wanted inner around)
    items_kinded inner around trees.none = tt
    items_kinded inner around (trees.more first others) =
        answers _ (HaveScalars wanted inner around) (typed_of wanted inner around first) (λ operand. items_typed wanted inner around others >>= λ items. Ok (item_of (offset_of first) operand ∷ items)) (tree_kinded inner around first)
        (λ operand h. answers (HaveScalars wanted inner around) (HaveScalars wanted inner around) (items_typed wanted inner around others) (λ items. Ok (item_of (offset_of first) operand ∷ items)) (items_kinded inner around others)
        (λ items rest. (is_scalar wanted inner around operand h, rest)))

  condition_kinded : (at : ℕ) (operand : Operand) (holds : Bool) → is_boolean operand ≡ holds → Typing None 0 operand → IfOk (if holds then Ok (unwrapped operand) else Err (NotTruth at)) (λ condition. Kinded wanted None 0 condition boolean_kind)
  condition_kinded at operand true is h = is_true wanted None 0 operand h is
  condition_kinded at operand false is h = tt

  -- what is checked is a boolean, by the kinds of typed trees
  pub checked_kinded : (tree : Expression) → IfOk (checked wanted tree) (λ condition. Kinded wanted None 0 condition boolean_kind)
  checked_kinded tree =
      answers _ _ (typed_of wanted None 0 tree) (condition_of (offset_of tree)) (tree_kinded None 0 tree) (λ operand h. condition_kinded (offset_of tree) operand (is_boolean operand) refl h)

-- Operators mean their kinds.
use Rattle.std.proofs.Common.{◌≡◌, ℕ, Bool, true, false, Option, Some, None, Ok, Err, IfOk, refl, subst}
use Rattle.std.specs.Prelude.{◌&&◌, not, if◌then◌else◌}
use Rattle.ar_value.specs.declared.operator.BinaryOperator.TheVariants as binary
use Rattle.ar_value.specs.declared.operator.UnaryOperator.TheVariants as unary
use Rattle.ar_value.specs.Answer.{◌>>=◌}
use Rattle.ar_value.specs.Kind.{Kind, shaped, fits_kind, boolean_kind}
use Rattle.ar_value.specs.Shape as shapes
use Rattle.ar_value.specs.Value.{Value}
use Rattle.ar_value.specs.Value as values
use Rattle.ar_tree.specs.declared.tree.Comparison.{Comparison}
use Rattle.ar_tree.specs.declared.tree.Comparison.TheVariants as comparisons
use Rattle.ar_tree.specs.declared.tree.Binary.{Binary}
use Rattle.ar_tree.specs.declared.tree.Binary.TheVariants as binaries
use Rattle.ar_tree.specs.declared.tree.Unary.{Unary}
use Rattle.ar_tree.specs.declared.tree.Unary.TheVariants as unaries
use Rattle.ar_check.specs.Check.{Answer, binary_of, comparison_of, equal_of, equality_of, in_of, negated, text_test_of, unary_of}
use Rattle.ar_value.specs.Operators.{Failure, Meaning, same_family}
use Rattle.ar_tree.specs.Meaning.{mean}
use Rattle.ar_value.specs.Operators as operators
use Rattle.ar_check.specs.Operand.{Operand, scalar_family, is_text_operand, is_boolean, unwrapped, numbers, scalar}
use Rattle.ar_tree.specs.Typed.{Typed}
use Rattle.ar_tree.specs.Typed as typed
use Rattle.ar_value.specs.declared.operator.Arithmetic.TheVariants.{Add, Subtract, Multiply, Divide, Remainder}
use Rattle.ar_value.specs.declared.operator.Family.{Family}
use Rattle.ar_value.specs.declared.operator.Order.TheVariants.{Less, LessOrEqual, Greater, GreaterOrEqual}
use Rattle.ar_value.specs.declared.operator.Scalar.{Scalar}
use Rattle.ar_value.specs.declared.operator.TextTest.{TextTest}
use Rattle.ar_check.proofs.Means.{MeansKind, Sound, IsBoolean, both, both_hold, either_means, is_sound, means_then, boolean_wanted, wanted}
use Rattle.ar_check.proofs.Operands.{are_numbers, is_letters, is_true, on_bool, on_text}
use Rattle.ar_check.proofs.Parts.{in_sound, kind_in_family, kinded_means, one_family}
use Rattle.ar_check.proofs.Sums.{negative_sound, order_sound, positive_sound, sum_sound}
use Rattle.ar_check.specs.Private.Inside.{side_by}

-- what a boolean leads to
pub boolean_then : (kind : Kind) (m : Meaning) (f : Bool → Meaning) → MeansKind boolean_kind m → ((b : Bool) → MeansKind kind (f b)) → MeansKind kind (m >>= λ v. operators.boolean v >>= f)
boolean_then kind m f h step =
    means_then _ _ m (λ v. operators.boolean v >>= f) h (λ v fit. on_bool (λ v. MeansKind kind (operators.boolean v >>= f)) step v fit)

module _ (result : Value) (here : Option Value) where
  -- `not` gives a boolean of one
  pub opposite_means : (tree : Typed) → MeansKind boolean_kind (mean result here tree) → MeansKind boolean_kind (mean result here (typed.unary unary.Not tree))
  opposite_means tree h = boolean_then boolean_kind (mean result here tree) (λ b. Ok (values.bool (not b))) h (λ b. refl)

  -- `and` gives a boolean of two
  pub both_means : (left right : Typed) → MeansKind boolean_kind (mean result here left) → MeansKind boolean_kind (mean result here right) → MeansKind boolean_kind (mean result here (typed.both left right))
  both_means left right h k =
      boolean_then boolean_kind (mean result here left) (λ b. if b then mean result here right else Ok (values.bool false)) h
      (λ b. either_means boolean_kind b (mean result here right) (Ok (values.bool false)) k refl)

  -- `or` gives a boolean of two
  pub one_means : (left right : Typed) → MeansKind boolean_kind (mean result here left) → MeansKind boolean_kind (mean result here right) → MeansKind boolean_kind (mean result here (typed.either left right))
  one_means left right h k =
      boolean_then boolean_kind (mean result here left) (λ b. if b then Ok (values.bool true) else mean result here right) h
      (λ b. either_means boolean_kind b (Ok (values.bool true)) (mean result here right) refl k)

  -- whether something is nil is a boolean
  pub is_nil_means : (kind : Kind) (tree : Typed) → MeansKind kind (mean result here tree) → MeansKind boolean_kind (mean result here (typed.unary unary.IsNil tree))
  is_nil_means kind tree h = means_then _ _ (mean result here tree) (λ v. Ok (values.bool (operators.is_nil v))) h (λ v fit. refl)

  -- whether two scalars of a family are equal is a boolean
  equal_means : (l r : Kind) (family : Family) (left right : Typed) → ((v : Value) → fits_kind v l ≡ true → operators.is_in_family family v ≡ true)
      → ((v : Value) → fits_kind v r ≡ true → operators.is_in_family family v ≡ true) → MeansKind l (mean result here left) → MeansKind r (mean result here right)
      → MeansKind boolean_kind (mean result here (typed.binary (binary.Equal family) left right))
  equal_means l r family left right in_left in_right h k =
      means_then _ _ (mean result here left) (λ v. mean result here right >>= λ w. operators.equal family v w) h
      (λ v fit. means_then _ _ (mean result here right) (λ w. operators.equal family v w) k
      (λ w also. kinded_means (operators.is_in_family family v && operators.is_in_family family w) (operators.same v w)
      (both (operators.is_in_family family v) (operators.is_in_family family w) (in_left v fit) (in_right w also))))

  -- a test of two texts gives a boolean
  text_test_means : (test : TextTest) (left right : Typed) → MeansKind (shaped shapes.text) (mean result here left) → MeansKind (shaped shapes.text) (mean result here right)
      → MeansKind boolean_kind (mean result here (typed.binary (binary.TextTest test) left right))
  text_test_means test left right h k =
      means_then _ _ (mean result here left) (λ v. mean result here right >>= λ w. operators.text_test test v w) h
      (λ v fit. means_then _ _ (mean result here right) (λ w. operators.text_test test v w) k
      (λ w also. on_text (λ v. MeansKind boolean_kind (operators.text_test test v w))
      (λ among. on_text (λ w. MeansKind boolean_kind (operators.text_test test (values.text among) w)) (λ part. refl) w also) v fit))

  -- ---- equality

  -- equality of scalars of one family
  equal_sound : (at : ℕ) (m n : Option Scalar) (left right : Operand) → scalar left ≡ m → scalar right ≡ n → Sound result here left → Sound result here right
      → IfOk (equal_of at m n left.tree right.tree) (IsBoolean result here)
  equal_sound at (Some m) (Some n) left right of_m of_n h k =
      boolean_wanted result here at (same_family (scalar_family m) (scalar_family n)) (typed.binary (binary.Equal (scalar_family m)) left.tree right.tree)
      (λ is. equal_means left.kind right.kind (scalar_family m) left.tree right.tree (kind_in_family left.kind m of_m)
      (λ w also. subst (λ family. operators.is_in_family family w ≡ true) (one_family m n is) (kind_in_family right.kind n of_n w also)) h k)
  equal_sound at (Some m) None left right of_m of_n h k = tt
  equal_sound at None n left right of_m of_n h k = tt

  -- equality, also with the literal `nil`
  equality_sound : (at : ℕ) (nil_left nil_right : Bool) (left right : Operand) → Sound result here left → Sound result here right
      → IfOk (equality_of at (side_by nil_left nil_right) left right) (IsBoolean result here)
  equality_sound at true nil_right left right h k = (refl, is_nil_means right.kind right.tree k)
  equality_sound at false true left right h k = (refl, is_nil_means left.kind left.tree h)
  equality_sound at false false left right h k = equal_sound at (scalar left) (scalar right) left right refl refl h k

  -- an answer that is a boolean means its kind
  boolean_sound : (answer : Answer) → IfOk answer (IsBoolean result here) → IfOk answer (Sound result here)
  boolean_sound (Ok operand) h = is_sound result here operand h
  boolean_sound (Err e) h = tt

  -- so does its opposite
  negated_sound : (answer : Answer) → IfOk answer (IsBoolean result here) → IfOk (answer >>= negated) (Sound result here)
  negated_sound (Ok operand) h = is_sound result here (record { tree = typed.unary unary.Not operand.tree; kind = operand.kind }) (h.0, opposite_means operand.tree h.1)
  negated_sound (Err e) h = tt

  -- comparisons mean their kinds
  comparison_sound : (at : ℕ) (comparison : Comparison) (nil_left nil_right : Bool) (left right : Operand) → Sound result here left → Sound result here right
      → IfOk (comparison_of at comparison (side_by nil_left nil_right) left right) (Sound result here)
  comparison_sound at comparisons.Equal nil_left nil_right left right h k =
      boolean_sound (equality_of at (side_by nil_left nil_right) left right) (equality_sound at nil_left nil_right left right h k)
  comparison_sound at comparisons.NotEqual nil_left nil_right left right h k =
      negated_sound (equality_of at (side_by nil_left nil_right) left right) (equality_sound at nil_left nil_right left right h k)
  comparison_sound at comparisons.Less nil_left nil_right left right h k = order_sound result here at Less left right h k
  comparison_sound at comparisons.LessOrEqual nil_left nil_right left right h k = order_sound result here at LessOrEqual left right h k
  comparison_sound at comparisons.Greater nil_left nil_right left right h k = order_sound result here at Greater left right h k
  comparison_sound at comparisons.GreaterOrEqual nil_left nil_right left right h k = order_sound result here at GreaterOrEqual left right h k

  -- ---- operators

  -- operators of one operand mean their kinds
  pub unary_sound : (at : ℕ) (operator : Unary) (operand : Operand) → Sound result here operand → IfOk (unary_of at operator operand) (Sound result here)
  unary_sound at unaries.Minus operand h = negative_sound result here at (numbers operand) (unwrapped operand) (are_numbers result here operand h)
  unary_sound at unaries.Plus operand h = positive_sound result here at (numbers operand) (unwrapped operand) (are_numbers result here operand h)
  unary_sound at unaries.Not operand h =
      wanted result here at (is_boolean operand) (typed.unary unary.Not (unwrapped operand)) boolean_kind (λ is. opposite_means (unwrapped operand) (is_true result here operand h is))

  -- two operands that are booleans, unwrapped
  booleans : (left right : Operand) → Sound result here left → Sound result here right → (is_boolean left && is_boolean right) ≡ true
      → MeansKind boolean_kind (mean result here (unwrapped left)) × MeansKind boolean_kind (mean result here (unwrapped right))
  booleans left right h k is =
      let parts = both_hold (is_boolean left) (is_boolean right) is in (is_true result here left h parts.0, is_true result here right k parts.1)

  -- a test of texts means its kind
  text_test_sound : (at : ℕ) (test : TextTest) (left right : Operand) → Sound result here left → Sound result here right → IfOk (text_test_of at test left right) (Sound result here)
  text_test_sound at test left right h k =
      wanted result here at (is_text_operand left && is_text_operand right) (typed.binary (binary.TextTest test) (unwrapped left) (unwrapped right)) boolean_kind
      (λ is. let parts = both_hold (is_text_operand left) (is_text_operand right) is in
      text_test_means test (unwrapped left) (unwrapped right) (is_letters result here left h parts.0) (is_letters result here right k parts.1))

  -- operators of two operands mean their kinds
  pub binary_sound : (at : ℕ) (operator : Binary) (nil_left nil_right : Bool) (left right : Operand) → Sound result here left → Sound result here right
      → IfOk (binary_of at operator (side_by nil_left nil_right) left right) (Sound result here)
  binary_sound at binaries.Or nil_left nil_right left right h k =
      wanted result here at (is_boolean left && is_boolean right) (typed.either (unwrapped left) (unwrapped right)) boolean_kind
      (λ is. let each = booleans left right h k is in one_means (unwrapped left) (unwrapped right) each.0 each.1)
  binary_sound at binaries.And nil_left nil_right left right h k =
      wanted result here at (is_boolean left && is_boolean right) (typed.both (unwrapped left) (unwrapped right)) boolean_kind
      (λ is. let each = booleans left right h k is in both_means (unwrapped left) (unwrapped right) each.0 each.1)
  binary_sound at (binaries.Comparison comparison) nil_left nil_right left right h k = comparison_sound at comparison nil_left nil_right left right h k
  binary_sound at binaries.In nil_left nil_right left right h k = boolean_sound (in_of at left right) (in_sound result here at left right h k)
  binary_sound at binaries.NotIn nil_left nil_right left right h k = negated_sound (in_of at left right) (in_sound result here at left right h k)
  binary_sound at (binaries.TextTest test) nil_left nil_right left right h k = text_test_sound at test left right h k
  binary_sound at binaries.Add nil_left nil_right left right h k = sum_sound result here at Add left right h k
  binary_sound at binaries.Subtract nil_left nil_right left right h k = sum_sound result here at Subtract left right h k
  binary_sound at binaries.Multiply nil_left nil_right left right h k = sum_sound result here at Multiply left right h k
  binary_sound at binaries.Divide nil_left nil_right left right h k = sum_sound result here at Divide left right h k
  binary_sound at binaries.Remainder nil_left nil_right left right h k = sum_sound result here at Remainder left right h k

-- Arithmetic and order mean their kinds.
use Rattle.std.proofs.Common.{◌≡◌, ℕ, ℤ, true, Option, Some, None, Result, Ok, Err, IfOk, IfSome, refl}
use Rattle.ar_value.specs.declared.operator.UnaryOperator.TheVariants as unary
use Rattle.ar_value.specs.Answer.{◌>>=◌}
use Rattle.ar_value.specs.Arithmetic.{decimal_of_whole, decimal_product, difference, negation, product, quotient, remainder, sum}
use Rattle.ar_value.specs.Kind.{Kind, shaped, fits_kind, boolean_kind}
use Rattle.ar_value.specs.Shape as shapes
use Rattle.ar_value.specs.Value.{Value}
use Rattle.ar_value.specs.Value as values
use Rattle.ar_value.specs.declared.fault.Fault.{Fault}
use Rattle.ar_check.specs.Check.{arithmetic_in, arithmetic_kind, arithmetic_on, calculation_of, compared_of, negation_of, number_kind, ordering_of, ordered_of, plus_of, where_there, widened}
use Rattle.ar_value.specs.Operators.{Failure, Meaning}
use Rattle.ar_tree.specs.Meaning.{mean}
use Rattle.ar_value.specs.Operators as operators
use Rattle.ar_check.specs.Operand.{Operand, among, unwrapped, numbers}
use Rattle.ar_tree.specs.Typed.{Typed}
use Rattle.ar_tree.specs.Typed as typed
use Rattle.ar_value.specs.declared.operator.Arithmetic.{Arithmetic}
use Rattle.ar_value.specs.declared.operator.Arithmetic.TheVariants.{Add, Subtract, Multiply, Divide, Remainder}
use Rattle.ar_value.specs.declared.operator.BinaryOperator.{BinaryOperator}
use Rattle.ar_value.specs.declared.operator.DecimalArithmetic.{DecimalArithmetic}
use Rattle.ar_value.specs.declared.operator.DecimalArithmetic.TheVariants as on_decimals
use Rattle.ar_value.specs.declared.operator.Numbers.{Numbers}
use Rattle.ar_value.specs.declared.operator.Numbers.TheVariants.{Wholes, Decimals}
use Rattle.ar_value.specs.declared.operator.Order.{Order}
use Rattle.ar_check.proofs.Means.{MeansKind, Sound, means_then}
use Rattle.ar_check.proofs.Operands.{MeansNumbers, are_numbers, on_decimal, on_whole}

abbrev Whole : Kind
Whole = shaped shapes.whole

abbrev Decimal : Kind
Decimal = shaped shapes.decimal

-- what arithmetic gives is a whole, or a fault
whole_or_fault : (r : Result ℤ Fault) → MeansKind Whole (operators.whole_meaning r)
whole_or_fault (Ok z) = refl
whole_or_fault (Err fault) = tt

-- likewise a decimal
decimal_or_fault : (r : Result ℤ Fault) → MeansKind Decimal (operators.decimal_meaning r)
decimal_or_fault (Ok z) = refl
decimal_or_fault (Err fault) = tt

-- a whole in millionths is a decimal, or a fault
pub turns : (v : Value) → fits_kind v Whole ≡ true → MeansKind Decimal (operators.to_decimal v)
turns v fit = on_whole (λ v. MeansKind Decimal (operators.to_decimal v)) (λ w. decimal_or_fault (decimal_of_whole w)) v fit

-- the negative of a number is one of its kind
negates : (numbers : Numbers) (v : Value) → fits_kind v (number_kind numbers) ≡ true → MeansKind (number_kind numbers) (operators.negative numbers v)
negates Wholes v fit = on_whole (λ v. MeansKind Whole (operators.negative Wholes v)) (λ w. whole_or_fault (negation w)) v fit
negates Decimals v fit = on_decimal (λ v. MeansKind Decimal (operators.negative Decimals v)) (λ d. decimal_or_fault (negation d)) v fit

two_wholes : (P : Value → Value → Type 0) → ((x y : ℤ) → P (values.whole x) (values.whole y)) → (v w : Value) → fits_kind v Whole ≡ true → fits_kind w Whole ≡ true → P v w
two_wholes P each v w fit also = on_whole (λ v. P v w) (λ x. on_whole (λ w. P (values.whole x) w) (λ y. each x y) w also) v fit

two_decimals : (P : Value → Value → Type 0) → ((x y : ℤ) → P (values.decimal x) (values.decimal y)) → (v w : Value) → fits_kind v Decimal ≡ true → fits_kind w Decimal ≡ true → P v w
two_decimals P each v w fit also = on_decimal (λ v. P v w) (λ x. on_decimal (λ w. P (values.decimal x) w) (λ y. each x y) w also) v fit

-- arithmetic of two wholes
of_wholes : (operator : Arithmetic) (left right : ℤ) → MeansKind (arithmetic_kind operator Wholes) (operators.whole_arithmetic operator left right)
of_wholes Add left right = whole_or_fault (sum left right)
of_wholes Subtract left right = whole_or_fault (difference left right)
of_wholes Multiply left right = whole_or_fault (product left right)
of_wholes Divide left right = decimal_or_fault (quotient left right)
of_wholes Remainder left right = whole_or_fault (remainder left right)

-- arithmetic of two decimals
of_decimals : (operator : DecimalArithmetic) (left right : ℤ) → MeansKind Decimal (operators.decimal_arithmetic operator left right)
of_decimals on_decimals.Add left right = decimal_or_fault (sum left right)
of_decimals on_decimals.Subtract left right = decimal_or_fault (difference left right)
of_decimals on_decimals.Multiply left right = decimal_or_fault (decimal_product left right)
of_decimals on_decimals.Divide left right = decimal_or_fault (quotient left right)

decimals_mean : (operator : DecimalArithmetic) (v w : Value) → fits_kind v Decimal ≡ true → fits_kind w Decimal ≡ true → MeansKind Decimal (operators.decimals operator v w)
decimals_mean operator v w fit also = two_decimals (λ v w. MeansKind Decimal (operators.decimals operator v w)) (of_decimals operator) v w fit also

-- what arithmetic there is of two numbers of one kind gives one of its kind
calculates : (operator : Arithmetic) (numbers : Numbers) (v w : Value) → fits_kind v (number_kind numbers) ≡ true → fits_kind w (number_kind numbers) ≡ true
    → IfSome (arithmetic_in numbers operator) (λ found. MeansKind (arithmetic_kind operator numbers) (operators.binary_meaning found v w))
calculates operator Wholes v w fit also = two_wholes (λ v w. MeansKind (arithmetic_kind operator Wholes) (operators.wholes operator v w)) (of_wholes operator) v w fit also
calculates Add Decimals v w fit also = decimals_mean on_decimals.Add v w fit also
calculates Subtract Decimals v w fit also = decimals_mean on_decimals.Subtract v w fit also
calculates Multiply Decimals v w fit also = decimals_mean on_decimals.Multiply v w fit also
calculates Divide Decimals v w fit also = decimals_mean on_decimals.Divide v w fit also
calculates Remainder Decimals v w fit also = tt

-- the order of any two numbers is a boolean
orders : (way : Order) (m n : Numbers) (v w : Value) → fits_kind v (number_kind m) ≡ true → fits_kind w (number_kind n) ≡ true → MeansKind boolean_kind (operators.compare (compared_of m n) way v w)
orders way Wholes Wholes v w fit also = two_wholes (λ v w. MeansKind boolean_kind (operators.compare (compared_of Wholes Wholes) way v w)) (λ x y. refl) v w fit also
orders way Decimals Decimals v w fit also = two_decimals (λ v w. MeansKind boolean_kind (operators.compare (compared_of Decimals Decimals) way v w)) (λ x y. refl) v w fit also
orders way Wholes Decimals v w fit also =
    on_whole (λ v. MeansKind boolean_kind (operators.compare (compared_of Wholes Decimals) way v w)) (λ x. on_decimal (λ w. MeansKind boolean_kind (operators.compare (compared_of Wholes Decimals) way (values.whole x) w)) (λ y. refl) w also) v fit
orders way Decimals Wholes v w fit also =
    on_decimal (λ v. MeansKind boolean_kind (operators.compare (compared_of Decimals Wholes) way v w)) (λ x. on_whole (λ w. MeansKind boolean_kind (operators.compare (compared_of Decimals Wholes) way (values.decimal x) w)) (λ y. refl) w also) v fit

module _ (result : Value) (here : Option Value) where
  -- a whole converted to decimal is one
  pub converted_means : (tree : Typed) → MeansKind Whole (mean result here tree) → MeansKind Decimal (mean result here (typed.unary unary.ToDecimal tree))
  converted_means tree h = means_then _ _ (mean result here tree) operators.to_decimal h turns

  -- the left number next to the right one, in their common kind
  left_among : (m n : Numbers) (tree : Typed) → MeansKind (number_kind m) (mean result here tree) → MeansKind (number_kind (widened m n)) (mean result here (among n m tree))
  left_among Wholes Wholes tree h = h
  left_among Wholes Decimals tree h = converted_means tree h
  left_among Decimals Wholes tree h = h
  left_among Decimals Decimals tree h = h

  -- the right number next to the left one, in their common kind
  right_among : (m n : Numbers) (tree : Typed) → MeansKind (number_kind n) (mean result here tree) → MeansKind (number_kind (widened m n)) (mean result here (among m n tree))
  right_among Wholes Wholes tree h = h
  right_among Wholes Decimals tree h = h
  right_among Decimals Wholes tree h = converted_means tree h
  right_among Decimals Decimals tree h = h

  -- arithmetic of two trees of one kind, where there is any
  there_sound : (at : ℕ) (found : Option BinaryOperator) (numbers : Numbers) (kind : Kind) (left right : Typed) → MeansKind (number_kind numbers) (mean result here left) → MeansKind (number_kind numbers) (mean result here right)
      → ((v w : Value) → fits_kind v (number_kind numbers) ≡ true → fits_kind w (number_kind numbers) ≡ true → IfSome found (λ found. MeansKind kind (operators.binary_meaning found v w)))
      → IfOk (where_there at found left right kind) (Sound result here)
  there_sound at (Some operator) numbers kind left right h k each =
      means_then _ _ (mean result here left) (λ v. mean result here right >>= λ w. operators.binary_meaning operator v w) h
      (λ v fit. means_then _ _ (mean result here right) (λ w. operators.binary_meaning operator v w) k (λ w also. each v w fit also))
  there_sound at None numbers kind left right h k each = tt

  -- arithmetic where both are numbers
  arithmetic_sound : (at : ℕ) (operator : Arithmetic) (m n : Option Numbers) (left right : Typed) → MeansNumbers m (mean result here left) → MeansNumbers n (mean result here right)
      → IfOk (arithmetic_on at operator m n left right) (Sound result here)
  arithmetic_sound at operator (Some m) (Some n) left right h k =
      there_sound at (arithmetic_in (widened m n) operator) (widened m n) (arithmetic_kind operator (widened m n)) (among n m left) (among m n right) (left_among m n left h) (right_among m n right k)
      (calculates operator (widened m n))
  arithmetic_sound at operator (Some m) None left right h k = tt
  arithmetic_sound at operator None n left right h k = tt

  -- arithmetic means its kind
  pub sum_sound : (at : ℕ) (operator : Arithmetic) (left right : Operand) → Sound result here left → Sound result here right → IfOk (calculation_of at operator left right) (Sound result here)
  sum_sound at operator left right h k =
      arithmetic_sound at operator (numbers left) (numbers right) (unwrapped left) (unwrapped right) (are_numbers result here left h) (are_numbers result here right k)

  -- order where both are numbers
  ordered_sound : (at : ℕ) (way : Order) (m n : Option Numbers) (left right : Typed) → MeansNumbers m (mean result here left) → MeansNumbers n (mean result here right)
      → IfOk (ordered_of at way m n left right) (Sound result here)
  ordered_sound at way (Some m) (Some n) left right h k =
      means_then _ _ (mean result here left) (λ v. mean result here right >>= λ w. operators.compare (compared_of m n) way v w) h
      (λ v fit. means_then _ _ (mean result here right) (λ w. operators.compare (compared_of m n) way v w) k (λ w also. orders way m n v w fit also))
  ordered_sound at way (Some m) None left right h k = tt
  ordered_sound at way None n left right h k = tt

  -- order means its kind
  pub order_sound : (at : ℕ) (way : Order) (left right : Operand) → Sound result here left → Sound result here right → IfOk (ordering_of at way left right) (Sound result here)
  order_sound at way left right h k =
      ordered_sound at way (numbers left) (numbers right) (unwrapped left) (unwrapped right) (are_numbers result here left h) (are_numbers result here right k)

  -- a negative means its kind
  pub negative_sound : (at : ℕ) (numbers : Option Numbers) (tree : Typed) → MeansNumbers numbers (mean result here tree) → IfOk (negation_of at numbers tree) (Sound result here)
  negative_sound at (Some numbers) tree h = means_then _ _ (mean result here tree) (operators.negative numbers) h (negates numbers)
  negative_sound at None tree h = tt

  -- a number after `+` means its kind
  pub positive_sound : (at : ℕ) (numbers : Option Numbers) (tree : Typed) → MeansNumbers numbers (mean result here tree) → IfOk (plus_of at numbers tree) (Sound result here)
  positive_sound at (Some numbers) tree h = h
  positive_sound at None tree h = tt

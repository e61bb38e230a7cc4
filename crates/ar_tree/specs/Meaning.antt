-- What a typed condition means where `result` has a value, and so has the innermost item: a value, or a fault,
-- or neither where operands are of wrong kinds.
use Rattle.std.specs.Prelude.{◌==◌, pos, Bool, true, false, if◌then◌else◌, Option, Some, None, Result, Ok, Err, ◌≡◌, [], ◌∷◌, refl, ℤ}
use Rattle.ar_value.specs.Answer.{◌>>=◌, there_or}
use Rattle.ar_value.specs.Operators.{Failure, Meaning, faulted, field_in, ill_kinded, items_in, unary_meaning, scalar_item, boolean, binary_meaning}
use Rattle.ar_value.specs.Value.{Value, Items, nil, bool, whole, decimal, text, list, no_items, item, count}
use Rattle.ar_value.specs.declared.fault.Fault.{Fault}
use Rattle.ar_tree.specs.declared.tree.Literal.{Literal}
use Rattle.ar_tree.specs.declared.tree.Literal.TheVariants as literals
use Rattle.ar_value.specs.declared.operator.Predicate.{Predicate}
use Rattle.ar_value.specs.declared.operator.Predicate.TheVariants as predicates
use Rattle.ar_tree.specs.Typed.{Typed, Typeds}
use Rattle.ar_tree.specs.Typed as typed
use Rattle.ar_value.specs.Value.{items_of}
use Rattle.ar_value.specs.declared.fault.Fault.TheVariants.{DivisionByZero}
use Rattle.ar_value.specs.declared.operator.Arithmetic.TheVariants.{Divide}
use Rattle.ar_value.specs.declared.operator.BinaryOperator.TheVariants as binary
use Rattle.ar_value.specs.declared.operator.Compared.TheVariants as compared
use Rattle.ar_value.specs.declared.operator.Family.TheVariants as families
use Rattle.ar_value.specs.declared.operator.Order.TheVariants.{Less}

abbrev pub literal_value : Literal → Value
literal_value literals.Nil = nil
literal_value (literals.Bool boolean) = bool boolean
literal_value (literals.Whole value) = whole value
literal_value (literals.Decimal millionths) = decimal millionths
literal_value (literals.Text letters) = text letters

-- ---- predicates

-- `holds` says of an item whether the predicate holds of it
abbrev pub all_hold : (Value → Result Bool Failure) → Items → Meaning
all_hold holds no_items = Ok (bool true)
all_hold holds (item first items) = holds first >>= λ it. if it then all_hold holds items else Ok (bool false)

abbrev pub any_holds : (Value → Result Bool Failure) → Items → Meaning
any_holds holds no_items = Ok (bool false)
any_holds holds (item first items) = holds first >>= λ it. if it then Ok (bool true) else any_holds holds items

abbrev pub none_holds : (Value → Result Bool Failure) → Items → Meaning
none_holds holds no_items = Ok (bool true)
none_holds holds (item first items) = holds first >>= λ it. if it then Ok (bool false) else none_holds holds items

-- the items of which it holds, in order
abbrev pub those : (Value → Result Bool Failure) → Items → Result Items Failure
those holds no_items = Ok no_items
those holds (item first items) = do
  it ← holds first
  others ← those holds items
  Ok (if it then item first others else others)

abbrev pub over : Predicate → (Value → Result Bool Failure) → Items → Meaning
over predicates.All holds items = all_hold holds items
over predicates.Any holds items = any_holds holds items
over predicates.None holds items = none_holds holds items
over predicates.One holds items = those holds items >>= λ found. Ok (bool (count found == 1))
over predicates.Count holds items = those holds items >>= λ found. Ok (whole (pos (count found)))
over predicates.Filter holds items = those holds items >>= λ found. Ok (list found)

-- ---- conditions

abbrev mutual
  -- Operands are evaluated from left to right, and the first fault is the meaning.
  pub mean : Value → Option Value → Typed → Meaning
  mean result here typed.result = Ok result
  mean result here typed.item = there_or ill_kinded here
  mean result here (typed.literal literal) = Ok (literal_value literal)
  mean result here (typed.field owner name) = mean result here owner >>= field_in name
  mean result here (typed.unary operator operand) = mean result here operand >>= unary_meaning operator
  mean result here (typed.binary operator left right) = do
    left ← mean result here left
    right ← mean result here right
    binary_meaning operator left right
  -- the right side only where the left one doesn't decide
  mean result here (typed.both left right) = do
    first ← mean result here left
    holds ← boolean first
    if holds then mean result here right else Ok (bool false)
  mean result here (typed.either left right) = do
    first ← mean result here left
    holds ← boolean first
    if holds then Ok (bool true) else mean result here right
  -- one branch
  mean result here (typed.choice condition then_branch else_branch) = do
    condition ← mean result here condition
    holds ← boolean condition
    if holds then mean result here then_branch else mean result here else_branch
  mean result here (typed.listed scalar items) = items_mean result here items >>= λ items. Ok (list items)
  mean result here (typed.predicate predicate many body) = do
    among ← mean result here many
    items ← items_in among
    over predicate (λ value. mean result (Some value) body >>= boolean) items

  pub items_mean : Value → Option Value → Typeds → Result Items Failure
  items_mean result here typed.none = Ok no_items
  items_mean result here (typed.more first others) = do
    value ← mean result here first
    scalar ← scalar_item value
    items ← items_mean result here others
    Ok (item scalar items)

-- what a condition may evaluate to: true, false or a fault, and nothing else
pub data IsBooleanOrFault : Meaning → Type 0 where
  is_boolean : (holds : Bool) → IsBooleanOrFault (Ok (bool holds))
  is_fault : (fault : Fault) → IsBooleanOrFault (Err (faulted fault))

-- What a condition returns: true or false, or the fault that it meets. Any other meaning is no answer; a checked
-- condition has no such meaning.
abbrev pub answer_of : Meaning → Option (Result Bool Fault)
answer_of (Ok (bool holds)) = Some (Ok holds)
answer_of (Ok value) = None
answer_of (Err (faulted fault)) = Some (Err fault)
answer_of (Err ill_kinded) = None

-- ---- worked rows

abbrev the_literal : ℤ → Typed
the_literal value = typed.literal (literals.Whole value)

-- `result < 8`
below_eight : answer_of (mean (whole (pos 7)) None (typed.binary (binary.Compare compared.Wholes Less) typed.result
    (the_literal (pos 8)))) ≡ Some (Ok true)
below_eight = refl

-- `1 / result == 0`
abbrev one_over_result : Typed
one_over_result = typed.binary (binary.Equal families.Number) (typed.binary (binary.Wholes Divide) (the_literal (pos 1))
    typed.result) (the_literal (pos 0))

divided_by_zero : answer_of (mean (whole (pos 0)) None one_over_result) ≡ Some (Err DivisionByZero)
divided_by_zero = refl

-- `true or 1 / result == 0`
right_side_not_needed : answer_of (mean (whole (pos 0)) None
    (typed.either (typed.literal (literals.Bool true)) one_over_result)) ≡ Some (Ok true)
right_side_not_needed = refl

-- `count(result, # < 8)`
one_of_two : mean (list (items_of (whole (pos 1) ∷ whole (pos 9) ∷ []))) None
    (typed.predicate predicates.Count typed.result
    (typed.binary (binary.Compare compared.Wholes Less) typed.item (the_literal (pos 8))))
    ≡ Ok (whole (pos 1))
one_of_two = refl

-- `result`, where that is no boolean
no_answer : answer_of (mean (whole (pos 7)) None typed.result) ≡ None
no_answer = refl

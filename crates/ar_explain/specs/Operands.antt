-- Where failures arise, and on which operands.
use Rattle.std.specs.Prelude.{◌≡◌, refl, pos, negsuc, List, [], ◌∷◌, ◌++◌, codes, decimal, Option, Some, None, Result, Ok, Err}
use Rattle.std.specs.Fmt.{digits, signed_decimal}
use Rattle.ar_value.specs.Operators.{Failure, Meaning, items_in, scalar_item}
use Rattle.ar_value.specs.Terms.{Text}
use Rattle.ar_value.specs.Value.{Value, whole, list, nil, count, items_of}
use Rattle.ar_value.specs.declared.operator.Arithmetic.TheVariants.{Divide}
use Rattle.ar_value.specs.declared.operator.BinaryOperator.{BinaryOperator}
use Rattle.ar_value.specs.declared.operator.BinaryOperator.TheVariants as binary
use Rattle.ar_tree.specs.Meaning.{mean}
use Rattle.ar_tree.specs.Typed.{Typed, Typeds}
use Rattle.ar_tree.specs.Typed as typed
use Rattle.ar_apart.specs.Apart.{Apart, operands_apart}
use Rattle.ar_show.specs.Values.{shown_value}
use Rattle.ar_show.specs.Words.{units}

-- ---- operands in words

unfoldable pub one_operand : Value → Text
one_operand operand = codes "operand " ++ shown_value operand

-- an index with the number of the items of its list, and other operands as values are shown
unfoldable pub two_operands : BinaryOperator → Value → Value → Text
two_operands binary.Index (list items) (whole index) =
    codes "index " ++ (signed_decimal index ++ (codes " of " ++ (decimal (count items)
    ++ (codes " " ++ units (codes "item") (count items)))))
two_operands operator left right = codes "operands " ++ (shown_value left ++ (codes " and " ++ shown_value right))

-- ---- parts that fail

-- nothing where a part inside fails
abbrev pub on_value : {A : Type 0} → Meaning → (Value → Option A) → Option A
on_value (Ok value) on = on value
on_value (Err failure) on = None

-- the operand of which nothing can be taken, else what follows
abbrev pub refused_or : {A : Type 0} → Result A Failure → Value → Option Text → Option Text
refused_or (Ok taken) operand later = later
refused_or (Err failure) operand later = Some (one_operand operand)

-- the first item of a list literal that is no scalar
abbrev pub item_failed_on : Value → Option Value → Typeds → Option Text
item_failed_on result here typed.none = None
item_failed_on result here (typed.more first others) =
    on_value (mean result here first)
    (λ value. refused_or (scalar_item value) value (item_failed_on result here others))

-- On which operands a part that fails does so; nothing where the failure is that of a part inside. Nor is there a text
-- where a part has no operands, or what has to be a boolean is none: checked conditions don't fail so.
abbrev pub failed_on : Value → Option Value → Typed → Option Text
failed_on result here typed.result = None
failed_on result here typed.item = None
failed_on result here (typed.literal literal) = None
failed_on result here (typed.field owner name) = on_value (mean result here owner) (λ value. Some (one_operand value))
failed_on result here (typed.unary operator operand) =
    on_value (mean result here operand) (λ value. Some (one_operand value))
failed_on result here (typed.binary operator left right) =
    on_value (mean result here left)
    (λ first. on_value (mean result here right) (λ second. Some (two_operands operator first second)))
failed_on result here (typed.both left right) = None
failed_on result here (typed.either left right) = None
failed_on result here (typed.choice condition then_branch else_branch) = None
failed_on result here (typed.listed scalar items) = item_failed_on result here items
failed_on result here (typed.predicate predicate many body) =
    on_value (mean result here many) (λ value. refused_or (items_in value) value None)

-- ---- texts that are shown alike

-- of the operands of a binary operator
abbrev pub apart_on : Value → Option Value → Typed → Option Apart
apart_on result here (typed.binary operator left right) =
    on_value (mean result here left)
    (λ first. on_value (mean result here right) (λ second. operands_apart first second))
apart_on result here tree = None

-- ---- worked rows

abbrev the_items : List Value → Value
the_items values = list (items_of values)

one_item : two_operands binary.Index (the_items (whole (pos 7) ∷ [])) (whole (negsuc 1)) ≡ codes "index -2 of 1 item"
unfolding two_operands digits
one_item = refl

no_items_at_all : two_operands binary.Index (the_items []) (whole (pos 0)) ≡ codes "index 0 of 0 items"
unfolding two_operands digits
no_items_at_all = refl

-- an index that is no number
no_index : two_operands binary.Index (the_items (whole (pos 7) ∷ [])) nil ≡ codes "operands [7] and nil"
unfolding two_operands shown_value digits
no_index = refl

two_numbers : two_operands (binary.Wholes Divide) (whole (pos 1)) (whole (pos 0)) ≡ codes "operands 1 and 0"
unfolding two_operands shown_value digits
two_numbers = refl

of_nil : one_operand nil ≡ codes "operand nil"
unfolding one_operand shown_value
of_nil = refl

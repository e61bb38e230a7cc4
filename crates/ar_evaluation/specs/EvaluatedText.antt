-- The lines of a condition that was evaluated: itself, its parts in the order of evaluation, and its answer.
use Rattle.std.specs.Prelude.{ℕ, Bool, true, false, ◌==◌, ◌≡◌, refl, if◌then◌else◌, [], ◌∷◌, ◌++◌, codes, decimal, flat_map, Option, Some, None}
use Rattle.std.specs.Fmt.{digits}
use Rattle.ar_value.specs.Fault.{fault_name}
use Rattle.ar_value.specs.Operators.{Failure, faulted, ill_kinded}
use Rattle.ar_value.specs.Terms.{Text}
use Rattle.ar_tree.specs.Typed.{Typed}
use Rattle.ar_tree.specs.Typed as typed
use Rattle.ar_value.specs.declared.operator.UnaryOperator.TheVariants as unary
use Rattle.ar_apart.specs.Apart.{Apart}
use Rattle.ar_explain.specs.Lines.{Explanation, Line, Outcome, failed, is_item, passed, passed_line, unneeded, valued}
use Rattle.ar_show.specs.PartText.{shown_part}
use Rattle.ar_show.specs.Words.{units}
use Rattle.ar_evaluation.specs.Evaluated.{EvaluatedCondition}

abbrev pub failure_name : Failure → Text
failure_name (faulted fault) = fault_name fault
failure_name ill_kinded = codes "IllKinded"

-- on which operands a failure arose, where it arose in this part and not in one inside
abbrev pub operands_text : (on : Option Text) → Text
operands_text None = []
operands_text (Some on) = codes ": " ++ on

-- how many things come between two others
abbrev pub between_text : (what : Text) → ℕ → Text
between_text what number = decimal number ++ (codes " " ++ (units what number ++ codes " between"))

abbrev pub hold_word : (held : ℕ) → Text
hold_word held = if held == 1 then codes "holds" else codes "hold"

-- of how many of some items a body holds
abbrev pub held_text : (items held : ℕ) → Text
held_text items held =
    if held == 0 then codes "none holds" else if held == items then codes "each holds"
    else decimal held ++ (codes " " ++ hold_word held)

-- where two texts differ that are shown alike
abbrev pub apart_text : Option Apart → Text
apart_text None = []
apart_text (Some apart) =
    codes "; byte " ++ (decimal apart.byte ++ (codes " differs: " ++ (apart.left ++ (codes " and " ++ apart.right))))

abbrev pub said_text : Outcome → Text
said_text (valued shown apart) = codes " = " ++ (shown.text ++ apart_text apart)
said_text (is_item shown) = codes " = " ++ shown.text
said_text (failed failure on) = codes ": " ++ (failure_name failure ++ operands_text on)
said_text unneeded = codes ": not needed"
said_text (passed items held) = between_text (codes "item") items ++ (codes ", " ++ held_text items held)

-- the number of an item on which a predicate's body was evaluated
unfoldable pub item_text : ℕ → Text
item_text number = codes "item " ++ (decimal number ++ codes ": ")

-- a part that converts its operand to a decimal, which its text doesn't show
abbrev pub is_conversion_part : Typed → Bool
is_conversion_part (typed.unary unary.ToDecimal operand) = true
is_conversion_part part = false

abbrev pub conversion_text : Typed → Text
conversion_text part = if is_conversion_part part then codes " as a decimal" else []

-- the part itself; where only items of it are counted it isn't written again
abbrev pub said_part : Typed → Outcome → Text
said_part part (valued shown apart) = shown_part part
said_part part (is_item shown) = codes "#"
said_part part (failed failure on) = shown_part part ++ conversion_text part
said_part part unneeded = shown_part part
said_part part (passed items held) = []

unfoldable pub part_line : Line → Text
part_line line =
    codes "    " ++ (flat_map item_text line.items
    ++ (said_part line.part line.said ++ (said_text line.said ++ codes "\n")))

abbrev pub left_out_line : (left_out : ℕ) → Text
left_out_line left_out =
    if left_out == 0 then [] else codes "    " ++ (between_text (codes "line") left_out ++ codes "\n")

abbrev pub parts_text : Explanation → Text
parts_text parts =
    flat_map part_line parts.lines ++ (left_out_line parts.left_out ++ flat_map part_line parts.last)

-- the condition, its parts in the order of evaluation, and its answer
unfoldable pub condition_text : EvaluatedCondition → Text
condition_text condition =
    (codes "  " ++ (condition.which ++ (codes ": " ++ (shown_part condition.tree ++ codes "\n"))))
    ++ (parts_text condition.parts ++ (codes "    answer" ++ (said_text condition.answer ++ codes "\n")))

-- ---- worked rows

one_item_before : part_line (passed_line typed.result 1 1) ≡ codes "    1 item between, each holds\n"
unfolding part_line digits
one_item_before = refl

none_of_the_items : part_line (passed_line typed.result 29 0) ≡ codes "    29 items between, none holds\n"
unfolding part_line digits
none_of_the_items = refl

some_of_the_items : part_line (record (passed_line typed.result 29 5) { items = 3 ∷ [] })
    ≡ codes "    item 3: 29 items between, 5 hold\n"
unfolding part_line item_text digits
some_of_the_items = refl

lines_between : left_out_line 1001 ≡ codes "    1001 lines between\n"
unfolding digits
lines_between = refl

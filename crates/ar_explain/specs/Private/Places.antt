-- Where parts are evaluated, and what is said of them there.
use Rattle.std.specs.Prelude.{◌≡◌, ℕ, Bool, List, [], ◌∷◌, ◌++◌, map, IfOk, Option, Some, None, option_map, Result, Ok, Err}
use Rattle.std.specs.declared.alloc.AllocError.{AllocError}
use Rattle.ar_value.specs.Answer.{◌>>=◌}
use Rattle.ar_value.specs.Operators.{Failure, Meaning, binary_meaning, boolean, items_in, scalar_item}
use Rattle.ar_value.specs.Terms.{Text}
use Rattle.ar_value.specs.Value.{Value, Items, list}
use Rattle.ar_value.specs.View.{value_view}
use Rattle.ar_value.specs.declared.operator.BinaryOperator.{BinaryOperator}
use Rattle.ar_value.specs.declared.operator.Predicate.{Predicate}
use Rattle.ar_tree.specs.Meaning.{items_mean, mean, over}
use Rattle.ar_tree.specs.Typed.{Typed, Typeds, typeds}
use Rattle.ar_tree.specs.Views.{typed_view}
use Rattle.ar_tree.specs.declared.typed.Typed.{Typed as TypedCode}
use Rattle.ar_machine.specs.Operand.{value_of}
use Rattle.ar_operand.specs.Operand.{Meets, failure_of, operand_view}
use Rattle.ar_operand.specs.declared.operand.Failure.{Failure as FailureCode}
use Rattle.ar_apart.specs.Apart.{Apart, operands_apart}
use Rattle.ar_explain.specs.Operands.{apart_on}
use Rattle.ar_explain.specs.Lines.{Explanation, Line, Outcome, Seen, body_lines, each_item_lines, earlier_lines, failed, is_item, items_lines, none_seen, passed, unneeded, valued, with_own, shown_of}
use Rattle.ar_explain.specs.Operands.{failed_on, item_failed_on, two_operands, on_value, refused_or}
use Rattle.ar_apart.specs.Views.{texts_apart}
use Rattle.ar_explain.specs.Private.Failed.{ComesTo, MeetsOn}
use Rattle.ar_explain.specs.Private.Keeping.{with_lines}
use Rattle.ar_explain.specs.Trace.{if_value}
use Rattle.ar_explain.specs.Views.{explanation_view}
use Rattle.ar_explain.specs.declared.explanation.Explanation.{Explanation as ExplanationCode}
use Rattle.ar_explain.specs.declared.explanation.Remark.{Remark}
use Rattle.ar_explain.specs.declared.explanation.Remark.TheVariants as remarks
use Rattle.ar_explain.specs.declared.applied.Found.{Found as FoundCode}
use Rattle.ar_explain.specs.declared.failed.Failed.{Failed as FailedCode}
use Rattle.ar_explain.specs.declared.place.Place.{Place as PlaceCode}
use Rattle.ar_explain.specs.declared.seen.Seen.{Seen as SeenCode}

-- where a part is evaluated
pub record Place : Type 0 where
  -- the measured value, and the innermost item, if there is one
  pub result : Value
  pub here : Option Value
  -- the numbers of the items around, the outermost first
  pub items : List ℕ
  -- whether nothing is said of the part
  pub silent : Bool

abbrev pub place_view : PlaceCode → Place
place_view place = record {
  result = value_view place.value.now;
  here = option_map value_of place.here;
  items = place.items.items;
  silent = place.silent;
}

-- the same place on an item
abbrev pub at_item : ℕ → Value → Bool → Place → Place
at_item number value silent place =
    record { result = place.result; here = Some value; items = place.items ++ number ∷ []; silent = silent }

abbrev pub meant : Place → Typed → Meaning
meant place tree = mean place.result place.here tree

abbrev pub failed_at : Place → Typed → Option Text
failed_at place tree = failed_on place.result place.here tree

abbrev pub apart_at : Place → Typed → Option Apart
apart_at place tree = apart_on place.result place.here tree

abbrev pub earlier_at : Place → Typed → List Line
earlier_at place tree = earlier_lines place.result place.here tree

abbrev pub lines_at : Place → Typed → List Line
lines_at place tree = with_own place.result place.here tree (earlier_at place tree)

-- whether a part holds
abbrev pub holds_meant : Place → Typed → Result Bool Failure
holds_meant place tree = meant place tree >>= boolean

-- what an operator makes of a left operand and a right part
abbrev pub operated : BinaryOperator → Value → Place → Typed → Meaning
operated operator left place right = meant place right >>= binary_meaning operator left

abbrev pub operated_on : BinaryOperator → Value → Place → Typed → Option Text
operated_on operator left place right =
    on_value (meant place right) (λ second. Some (two_operands operator left second))

abbrev pub operated_apart : Value → Place → Typed → Option Apart
operated_apart left place right = on_value (meant place right) (λ second. operands_apart left second)

-- ---- list literals

-- a part as an item
abbrev pub scalar_meant : Place → Typed → Meaning
scalar_meant place tree = meant place tree >>= scalar_item

abbrev pub scalar_failed_at : Place → Typed → Option Text
scalar_failed_at place tree = on_value (meant place tree) (λ value. refused_or (scalar_item value) value None)

abbrev pub typeds_view : List TypedCode → Typeds
typeds_view trees = typeds (map typed_view trees)

abbrev pub items_meant : Place → Typeds → Result Items Failure
items_meant place trees = items_mean place.result place.here trees

abbrev pub list_meant : Place → Typeds → Meaning
list_meant place trees = items_meant place trees >>= λ items. Ok (list items)

abbrev pub items_failed_at : Place → Typeds → Option Text
items_failed_at place trees = item_failed_on place.result place.here trees

abbrev pub items_lines_at : Place → Typeds → List Line
items_lines_at place trees = items_lines place.result place.here trees

-- ---- predicates

abbrev pub seen_view : SeenCode → Seen
seen_view seen = record { shown = seen.shown; items = seen.items; held = seen.held }

-- whether a body holds of an item, and its lines there
abbrev pub holds_on : Place → Typed → Value → Result Bool Failure
holds_on place body value = mean place.result (Some value) body >>= boolean

abbrev pub lines_on : Place → Typed → Value → List Line
lines_on place body value = body_lines place.result body value

-- what a predicate gives over the items of an operand, and the lines of those
abbrev pub over_meant : Predicate → Value → Place → Typed → Meaning
over_meant predicate many place body = items_in many >>= over predicate (holds_on place body)

abbrev pub over_failed_on : Value → Option Text
over_failed_on many = refused_or (items_in many) many None

abbrev pub over_lines : Predicate → Value → Place → Typed → List Line
over_lines predicate many place body =
    if_value (items_in many) (each_item_lines predicate body (holds_on place body) (lines_on place body) none_seen 0)

-- ---- what is said

abbrev pub said_by : Remark → Outcome
said_by (remarks.Value operand texts) = valued (shown_of (operand_view operand.now)) (texts_apart texts)
said_by (remarks.Failure failure on) = failed (failure_of failure) (option_map (λ text. text.now) on)
said_by remarks.Unneeded = unneeded
said_by (remarks.Item value) = is_item (shown_of (value_of value))
said_by (remarks.Passed seen) = passed seen.items seen.held

-- what was met, as a meaning
abbrev pub as_meant : {X Y : Type 0} → (X → Y) → Result X FailureCode → Result Y Failure
as_meant view (Ok x) = Ok (view x)
as_meant view (Err failure) = Err (failure_of failure)

abbrev pub with_lines_at : Place → ExplanationCode → List Line → Explanation
with_lines_at place e lines = with_lines place.silent place.items (explanation_view e) lines

-- what a helper gave, seen by a view, is what is meant, and these lines were said
abbrev pub Explains : {X Y : Type 0} → (X → Y) → Place → (old new : ExplanationCode)
    → Result (Result X FailureCode) AllocError → Result Y Failure → List Line → Type 0
Explains view place old new result meaning lines =
    IfOk result (λ met. Meets view met meaning × (explanation_view new ≡ with_lines_at place old lines))

-- the same, where a failure arises on these operands
abbrev pub ExplainsOn : {X Y : Type 0} → (X → Y) → Place → (old new : ExplanationCode)
    → Result (Result X FailedCode) AllocError → Result Y Failure → Option Text → List Line → Type 0
ExplainsOn view place old new result meaning on lines =
    IfOk result (λ met. MeetsOn view met meaning on × (explanation_view new ≡ with_lines_at place old lines))

-- the same of a part
abbrev pub ExplainsFound : Place → (old new : ExplanationCode) → Result (Result FoundCode FailedCode) AllocError
    → Meaning → Option Text → Option Apart → List Line → Type 0
ExplainsFound place old new result meaning on apart lines =
    IfOk result (λ met. ComesTo met meaning on apart × (explanation_view new ≡ with_lines_at place old lines))

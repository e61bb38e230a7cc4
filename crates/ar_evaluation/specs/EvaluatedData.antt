-- A condition that was evaluated as JSON (RFC 8259): one object. Its members are in the byte order of their names.
use Rattle.std.specs.Prelude.{Bool, true, false, ◌++◌, codes, map, Option, Some, None}
use Rattle.std.specs.Option.{option_map_or}
use Rattle.serde_json.specs.Data.{Data, boolean, member, no_members, null, object, string}
use Rattle.ar_value.specs.Terms.{Text}
use Rattle.ar_tree.specs.Typed.{Typed}
use Rattle.ar_apart.specs.Apart.{Apart}
use Rattle.ar_explain.specs.Lines.{Explanation, Line, Outcome, failed, is_item, passed, unneeded, valued}
use Rattle.ar_object.specs.Object.{array_of, count_data, text_or_null}
use Rattle.ar_exact.specs.Flat.{flat_data}
use Rattle.ar_show.specs.PartText.{shown_part}
use Rattle.ar_evaluation.specs.Evaluated.{EvaluatedCondition}
use Rattle.ar_evaluation.specs.EvaluatedText.{failure_name, is_conversion_part}

-- a value as lines show it
abbrev pub shown_if_there : Outcome → Option Text
shown_if_there (valued shown apart) = Some shown.text
shown_if_there (is_item shown) = Some shown.text
shown_if_there said = None

-- the value, where JSON has it exactly
abbrev pub value_if_there : Outcome → Data
value_if_there (valued shown apart) = flat_data shown.exact
value_if_there (is_item shown) = flat_data shown.exact
value_if_there said = null

abbrev pub failure_if_there : Outcome → Option Text
failure_if_there (failed failure on) = Some (failure_name failure)
failure_if_there said = None

-- on which operands the failure arose, where it arose in this part and not in one inside
abbrev pub operands_if_there : Outcome → Option Text
operands_if_there (failed failure on) = on
operands_if_there said = None

-- where two texts differ that are shown alike
abbrev pub apart_if_there : Outcome → Option Apart
apart_if_there (valued shown apart) = apart
apart_if_there said = None

abbrev pub was_needed : Outcome → Bool
was_needed unneeded = false
was_needed (valued shown apart) = true
was_needed (is_item shown) = true
was_needed (failed failure on) = true
was_needed (passed items held) = true

-- how many items aren't shown, and of how many of them the part holds
abbrev pub gap_data : Outcome → Data
gap_data (passed items held) = object
    (member (codes "hold") (count_data held) (member (codes "items") (count_data items) no_members))
gap_data said = null

abbrev pub apart_data : Apart → Data
apart_data apart = object
    (member (codes "byte") (count_data apart.byte)
    (member (codes "left") (string apart.left)
    (member (codes "right") (string apart.right) no_members)))

-- a conversion that failed
abbrev pub converts : Typed → Outcome → Bool
converts part (failed failure on) = is_conversion_part part
converts part said = false

-- the item itself has the text `#`
abbrev pub part_name : Typed → Outcome → Text
part_name part (is_item shown) = codes "#"
part_name part said = shown_part part

abbrev pub part_data : Line → Data
part_data line = object
    (member (codes "asDecimal") (boolean (converts line.part line.said))
    (member (codes "between") (gap_data line.said)
    (member (codes "differ") (option_map_or apart_data (apart_if_there line.said) null)
    (member (codes "failure") (text_or_null (failure_if_there line.said))
    (member (codes "items") (array_of (map count_data line.items))
    (member (codes "needed") (boolean (was_needed line.said))
    (member (codes "on") (text_or_null (operands_if_there line.said))
    (member (codes "part") (string (part_name line.part line.said))
    (member (codes "shown") (text_or_null (shown_if_there line.said))
    (member (codes "value") (value_if_there line.said) no_members))))))))))

-- the whole condition's boolean, or the name of its failure
abbrev pub condition_answer : Outcome → Data
condition_answer (valued shown apart) = flat_data shown.exact
condition_answer (failed failure on) = string (failure_name failure)
condition_answer said = null

-- `leftOut`: how many parts come after the first 500
abbrev pub evaluation_data : (which text : Text) → Explanation → (answer : Outcome) → Data
evaluation_data which text parts answer = object
    (member (codes "answer") (condition_answer answer)
    (member (codes "condition") (string which)
    (member (codes "differ") (option_map_or apart_data (apart_if_there answer) null)
    (member (codes "leftOut") (count_data parts.left_out)
    (member (codes "on") (text_or_null (operands_if_there answer))
    (member (codes "parts") (array_of (map part_data (parts.lines ++ parts.last)))
    (member (codes "text") (string text) no_members)))))))

abbrev pub evaluated_data : EvaluatedCondition → Data
evaluated_data condition = evaluation_data condition.which condition.text condition.parts condition.answer

-- What the object of an evaluated condition states (ar_evaluation/specs/EvaluatedData): the facts themselves. Comments
-- say what it leaves out.
use Rattle.std.specs.Prelude.{◌≡◌, refl, ℕ, Bool, if◌then◌else◌, List, [], ◌∷◌, ◌++◌, codes, map, Option, None, Ok, Err}
use Rattle.std.specs.Str.{bytes_eq}
use Rattle.serde_json.specs.Data.{Data}
use Rattle.serde_json.specs.Data as json
use Rattle.ar_value.specs.Operators.{Failure, faulted, ill_kinded}
use Rattle.ar_value.specs.Terms.{Text}
use Rattle.ar_value.specs.declared.fault.Fault.TheVariants.{DivisionByZero, IndexOutOfRange, NilOperand, Overflow}
use Rattle.ar_facts.specs.ReportReader.{Reading, named_among}
use Rattle.ar_object.specs.Object.{count_data}
use Rattle.ar_apart.specs.Apart.{Apart}
use Rattle.ar_exact.specs.Flat.{flat_data}
use Rattle.ar_explain.specs.Lines.{Line, Outcome, failed, is_item, passed, unneeded, valued}
use Rattle.ar_evaluation.specs.Evaluated.{EvaluatedCondition}
use Rattle.ar_evaluation.specs.EvaluatedData.{apart_if_there, converts, operands_if_there, part_name}
use Rattle.ar_evaluation.specs.EvaluatedText.{failure_name}

-- ---- the parts of a condition

-- what is said of a part
pub data StatedSaid : Type 0 where
  -- it has a value; `apart`: where its operands differ, if they are texts that are shown alike
  has_value : (shown : Text) → (value : Data) → (apart : Option Apart) → StatedSaid
  -- it is a predicate's body, evaluated on an item
  on_item : (shown : Text) → (value : Data) → StatedSaid
  -- it fails, on these operands where the failure arises in it
  has_failure : Failure → (on : Option Text) → StatedSaid
  not_needed : StatedSaid
  -- it is a predicate's body, evaluated on this many items that aren't shown, of `held` of which it holds
  on_others : (items held : ℕ) → StatedSaid

abbrev pub stated_said : Outcome → StatedSaid
stated_said (valued shown apart) = has_value shown.text (flat_data shown.exact) apart
stated_said (is_item shown) = on_item shown.text (flat_data shown.exact)
stated_said (failed failure on) = has_failure failure on
stated_said unneeded = not_needed
stated_said (passed items held) = on_others items held

-- In JSON an item is a part `#` that has a value. The value of a part that is the item itself would look the same, but
-- no line says it (StatedLaws).
abbrev pub as_it_looks : (name : Text) → StatedSaid → StatedSaid
as_it_looks name (has_value shown value None) =
    if bytes_eq name (codes "#") then on_item shown value else has_value shown value None
as_it_looks name said = said

pub record StatedPart : Type 0 where
  -- the numbers of the items on which the bodies of predicates around the part are evaluated, the outermost first
  pub items : List ℕ
  -- its text; its tree isn't stated
  pub name : Text
  -- whether it failed and converts its operand to a decimal, which its text doesn't show
  pub as_decimal : Bool
  pub said : StatedSaid

abbrev pub stated_part : Line → StatedPart
stated_part line = record {
  items = line.items;
  name = part_name line.part line.said;
  as_decimal = converts line.part line.said;
  said = as_it_looks (part_name line.part line.said) (stated_said line.said);
}

-- ---- a condition

pub data StatedAnswer : Type 0 where
  says : Bool → StatedAnswer
  fails : Failure → StatedAnswer
  -- anything else, as its JSON value: no condition of a bundle gives it
  gives : Data → StatedAnswer

abbrev pub failure_named : (name : Text) → Reading Failure
failure_named = named_among failure_name
    (faulted IndexOutOfRange ∷ faulted NilOperand ∷ faulted Overflow ∷ faulted DivisionByZero ∷ ill_kinded ∷ [])

abbrev pub text_answers : Text → Reading Failure → StatedAnswer
text_answers text (Ok failure) = fails failure
text_answers text (Err refusal) = gives (json.string text)

-- In JSON a failure is its name. A value that is such a text would look the same, but conditions are true or false
-- (StatedLaws).
abbrev pub value_answers : Data → StatedAnswer
value_answers (json.boolean holds) = says holds
value_answers (json.string text) = text_answers text (failure_named text)
value_answers value = gives value

abbrev pub stated_answer : Outcome → StatedAnswer
stated_answer (valued shown apart) = value_answers (flat_data shown.exact)
stated_answer (failed failure on) = fails failure
stated_answer said = gives json.null

pub record StatedCondition : Type 0 where
  -- success or failure
  pub which : Text
  pub text : Text
  pub answer : StatedAnswer
  -- of the whole condition: on which operands it failed, and where its operands differ, as for a part
  pub on : Option Text
  pub apart : Option Apart
  -- the first and the last, and how many come between
  pub parts : List StatedPart
  pub left_out : ℕ

-- its tree isn't stated, nor between which parts others are left out
abbrev pub stated_condition : EvaluatedCondition → StatedCondition
stated_condition condition = record {
  which = condition.which;
  text = condition.text;
  answer = stated_answer condition.answer;
  on = operands_if_there condition.answer;
  apart = apart_if_there condition.answer;
  parts = map stated_part (condition.parts.lines ++ condition.parts.last);
  left_out = condition.parts.left_out;
}

-- ---- worked rows

abbrev the_seven : Option Apart → StatedSaid
the_seven apart = has_value (codes "7") (count_data 7) apart

item_is_an_item : as_it_looks (codes "#") (the_seven None) ≡ on_item (codes "7") (count_data 7)
item_is_an_item = refl

field_is_a_value : as_it_looks (codes "#.rate") (the_seven None) ≡ the_seven None
field_is_a_value = refl

name_of_a_failure : value_answers (json.string (codes "Overflow")) ≡ fails (faulted Overflow)
name_of_a_failure = refl

another_text : value_answers (json.string (codes "seven")) ≡ gives (json.string (codes "seven"))
another_text = refl

-- What a reader finds in the object of an evaluated condition: members by their names, whatever their order. It is
-- nothing where a member is missing that is looked at, or isn't what it should be.
use Rattle.std.specs.Prelude.{◌≡◌, refl, Bool, true, false, [], ◌∷◌, codes, Option, Some, None, Ok}
use Rattle.serde_json.specs.Data.{Data}
use Rattle.serde_json.specs.Data as json
use Rattle.ar_value.specs.Answer.{◌>>=◌}
use Rattle.ar_value.specs.Operators.{Failure, faulted}
use Rattle.ar_value.specs.Terms.{Text}
use Rattle.ar_value.specs.declared.fault.Fault.TheVariants.{DivisionByZero}
use Rattle.ar_object.specs.Object.{count_data}
use Rattle.ar_facts.specs.ReportReader.{Reading, all_in, count_in, flag_in, mapped, string_in, the, unless_null}
use Rattle.ar_apart.specs.Apart.{Apart}
use Rattle.ar_read_back.specs.StatedCondition.{StatedAnswer, StatedCondition, StatedPart, StatedSaid, as_it_looks, failure_named, fails, has_failure, has_value, not_needed, on_others, value_answers}

-- any value, as it is
abbrev pub any_in : Data → Reading Data
any_in found = Ok found

-- ---- the parts of a condition

abbrev pub apart_in : Data → Reading Apart
apart_in from = do
  byte ← the (codes "byte") count_in from
  left ← the (codes "left") string_in from
  right ← the (codes "right") string_in from
  Ok (record { byte = byte; left = left; right = right })

abbrev pub failure_in : Data → Reading Failure
failure_in found = string_in found >>= failure_named

abbrev pub others_in : Data → Reading StatedSaid
others_in from = do
  items ← the (codes "items") count_in from
  held ← the (codes "hold") count_in from
  Ok (on_others items held)

abbrev pub value_in : (name : Text) → (part : Data) → Reading StatedSaid
value_in name part = do
  shown ← the (codes "shown") string_in part
  value ← the (codes "value") any_in part
  apart ← the (codes "differ") (unless_null apart_in) part
  Ok (as_it_looks name (has_value shown value apart))

abbrev pub unless_failed : (name : Text) → (part : Data) → Option Failure → Reading StatedSaid
unless_failed name part (Some failure) = mapped (has_failure failure) (the (codes "on") (unless_null string_in) part)
unless_failed name part None = value_in name part

abbrev pub unless_others : (name : Text) → (part : Data) → Option StatedSaid → Reading StatedSaid
unless_others name part (Some said) = Ok said
unless_others name part None =
    the (codes "failure") (unless_null failure_in) part >>= λ failure. unless_failed name part failure

abbrev pub if_needed : (name : Text) → (part : Data) → (needed : Bool) → Reading StatedSaid
if_needed name part true =
    the (codes "between") (unless_null others_in) part >>= λ others. unless_others name part others
if_needed name part false = Ok not_needed

abbrev pub said_in : (name : Text) → (part : Data) → Reading StatedSaid
said_in name part = the (codes "needed") flag_in part >>= λ needed. if_needed name part needed

abbrev pub part_in : Data → Reading StatedPart
part_in from = do
  items ← the (codes "items") (all_in count_in) from
  name ← the (codes "part") string_in from
  as_decimal ← the (codes "asDecimal") flag_in from
  said ← said_in name from
  Ok (record { items = items; name = name; as_decimal = as_decimal; said = said })

-- ---- a condition

abbrev pub answer_in : Data → Reading StatedAnswer
answer_in found = Ok (value_answers found)

abbrev pub condition_in : Data → Reading StatedCondition
condition_in from = do
  which ← the (codes "condition") string_in from
  text ← the (codes "text") string_in from
  answer ← the (codes "answer") answer_in from
  on ← the (codes "on") (unless_null string_in) from
  apart ← the (codes "differ") (unless_null apart_in) from
  parts ← the (codes "parts") (all_in part_in) from
  left_out ← the (codes "leftOut") count_in from
  Ok (record {
    which = which;
    text = text;
    answer = answer;
    on = on;
    apart = apart;
    parts = parts;
    left_out = left_out;
  })

-- ---- worked rows

-- a part that wasn't needed, with the members that say so
abbrev part_not_needed : json.Members
part_not_needed =
    json.member (codes "part") (json.string (codes "result < 8"))
    (json.member (codes "needed") (json.boolean false)
    (json.member (codes "items") (json.array (json.item (count_data 3) json.no_items))
    (json.member (codes "asDecimal") (json.boolean false) json.no_members)))

not_needed_on_an_item : part_in (json.object part_not_needed)
    ≡ Ok (record { items = 3 ∷ []; name = codes "result < 8"; as_decimal = false; said = not_needed })
not_needed_on_an_item = refl

-- the whole failed, in one of its parts
abbrev failed_inside : json.Members
failed_inside =
    json.member (codes "condition") (json.string (codes "success"))
    (json.member (codes "text") (json.string (codes "1 / result < 8"))
    (json.member (codes "answer") (json.string (codes "DivisionByZero"))
    (json.member (codes "on") json.null
    (json.member (codes "differ") json.null
    (json.member (codes "leftOut") (count_data 0)
    (json.member (codes "parts") (json.array json.no_items) json.no_members))))))

failure_by_its_name : condition_in (json.object failed_inside)
    ≡ Ok (record {
      which = codes "success";
      text = codes "1 / result < 8";
      answer = fails (faulted DivisionByZero);
      on = None;
      apart = None;
      parts = [];
      left_out = 0;
    })
failure_by_its_name = refl

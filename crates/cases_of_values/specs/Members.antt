-- The members of a case, which is a JSON object (RFC 8259).
use Rattle.std.specs.Prelude.{ℕ, ℤ, Bool, true, false, List, [], codes, Option, Some, None, option_and_then, Result, Ok, Err}
use Rattle.serde_json.specs.Data.{Data, boolean}
use Rattle.serde_json.specs.Find.{as_i64, as_number, as_str, as_u64, get}
use Rattle.hex.specs.Hex.{decode_of}
use Rattle.ar_value.specs.Answer.{◌>>=◌, there_or}
use Rattle.ar_value.specs.DecimalText.{decimal_of}
use Rattle.ar_value.specs.Shape.{Shape}
use Rattle.ar_value.specs.Value.{Value}
use Rattle.ar_json.specs.Declaration.{shape_of}
use Rattle.ar_json.specs.Members.{list_of}
use Rattle.ar_json.specs.Reading.{read}
use Rattle.cases_of_values.specs.declared.fault.CaseFault.{CaseFault}
use Rattle.cases_of_values.specs.declared.fault.CaseFault.TheVariants.{Member, OutOfMemory}

-- a member as it is; null is one
abbrev pub json_member : (name : List ℕ) → (case : Data) → Result Data CaseFault
json_member name case = there_or Member (get name case)

-- what a member is read as; one that can't be read so is refused
abbrev pub member_as : {A : Type 0} → (Data → Option A) → (name : List ℕ) → (case : Data) → Result A CaseFault
member_as reading name case = json_member name case >>= λ json. there_or Member (reading json)

abbrev pub case_text : (name : List ℕ) → (case : Data) → Result (List ℕ) CaseFault
case_text name case = member_as as_str name case

abbrev pub list_member : (name : List ℕ) → (case : Data) → Result (List Data) CaseFault
list_member name case = member_as list_of name case

-- a list, which is empty where the member isn't there
abbrev pub unless_missing : Result (List Data) CaseFault → Option Data → Result (List Data) CaseFault
unless_missing list None = Ok []
unless_missing list (Some json) = list

abbrev pub list_or_none : (name : List ℕ) → (case : Data) → Result (List Data) CaseFault
list_or_none name case = unless_missing (list_member name case) (get name case)

-- a whole number of 64 bits, with a sign or without
abbrev pub whole_member : (name : List ℕ) → (case : Data) → Result ℤ CaseFault
whole_member name case = member_as (λ json. option_and_then as_i64 (as_number json)) name case

abbrev pub number_member : (name : List ℕ) → (case : Data) → Result ℕ CaseFault
number_member name case = member_as (λ json. option_and_then as_u64 (as_number json)) name case

-- whether a member is there and true
abbrev pub is_boolean : Option Data → Bool
is_boolean (Some (boolean value)) = value
is_boolean other = false

abbrev pub is_true : (name : List ℕ) → (case : Data) → Bool
is_true name case = is_boolean (get name case)

-- whatever a reading refuses is no member that the call takes
abbrev pub or_member : {A E : Type 0} → Result A E → Result A CaseFault
or_member (Ok x) = Ok x
or_member (Err e) = Err Member

-- a decimal's millionths, by the text that spells it
abbrev pub decimal_member : (name : List ℕ) → (case : Data) → Result ℤ CaseFault
decimal_member name case = case_text name case >>= λ text. or_member (decimal_of text)

abbrev pub shape_in : Data → Result Shape CaseFault
shape_in json = or_member (shape_of json)

-- the shape that a member declares
abbrev pub shape_member : (name : List ℕ) → (case : Data) → Result Shape CaseFault
shape_member name case = json_member name case >>= λ json. shape_in json

abbrev pub value_in : Shape → Data → Result Value CaseFault
value_in shape json = or_member (read shape json)

-- the value that the member `value` is under a shape
abbrev pub value_member : Shape → (case : Data) → Result Value CaseFault
value_member shape case = json_member (codes "value") case >>= λ json. value_in shape json

-- the bytes that a text of hexadecimal digits represents, two digits a byte
abbrev pub bytes_member : (name : List ℕ) → (case : Data) → Result (List ℕ) CaseFault
bytes_member name case = case_text name case >>= λ text. or_member (decode_of text)

abbrev pub is_case_memory : CaseFault → Bool
is_case_memory OutOfMemory = true
is_case_memory fault = false

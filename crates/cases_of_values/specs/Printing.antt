-- How texts, numbers, values, answers and shapes are printed: as bytes in UTF-8.
use Rattle.std.specs.Prelude.{ℕ, ◌/◌, ◌%◌, ◌==◌, nat_lt, Bool, true, false, if◌then◌else◌, List, [], ◌∷◌, ◌++◌, codes, decimal, flat_map, Result, Ok, Err}
use Rattle.std.specs.Char.{digit_char, encode_utf8}
use Rattle.std.specs.Fmt.{signed_decimal}
use Rattle.std.specs.Str.{chars}
use Rattle.ar_value.specs.Bytes.{byte_of}
use Rattle.ar_value.specs.DecimalShown.{decimal_text}
use Rattle.ar_value.specs.Shape.{Shape, FieldShapes}
use Rattle.ar_value.specs.Shape as shapes
use Rattle.ar_value.specs.Value.{Value, Items, Fields}
use Rattle.ar_value.specs.Value as values
use Rattle.ar_value.specs.declared.decimal.Number.{Number}
use Rattle.ar_value.specs.declared.decimal.Number.TheVariants.{Whole, Decimal}
use Rattle.ar_value.specs.declared.fault.Fault.{Fault}
use Rattle.ar_value.specs.Fault.{fault_name}

-- ---- texts

-- a control character by its code, below U+0020
abbrev pub code_escape : (character : ℕ) → List ℕ
code_escape character = codes "\\u00" ++ (digit_char (character / 16) ∷ digit_char (character % 16) ∷ [])

-- a character in a JSON string (RFC 8259), escaped only where it has to be; an ASCII character is its byte
abbrev pub escaped : (character : ℕ) → List ℕ
escaped character =
    if character == byte_of (codes "\"") then codes "\\\""
    else (if character == byte_of (codes "\\") then codes "\\\\"
    else (if character == byte_of (codes "\n") then codes "\\n"
    else (if character == byte_of (codes "\r") then codes "\\r"
    else (if character == 9 then codes "\\t"
    else (if nat_lt character 32 then code_escape character
    else encode_utf8 character)))))

-- a text as a JSON string
unfoldable pub quoted : (text : List ℕ) → List ℕ
quoted text = codes "\"" ++ (flat_map escaped (chars text) ++ codes "\"")

-- what comes before each item of a list but the first
abbrev pub between : (first : Bool) → (text : List ℕ) → List ℕ
between first text = if first then [] else text

-- Lines, one after another: a line's end is a slash between blanks where something comes after it.

abbrev pub line_end : (later : List ℕ) → List ℕ
line_end [] = []
line_end (character ∷ later) = codes " / "

abbrev pub in_one_line : (characters : List ℕ) → List ℕ
in_one_line [] = []
in_one_line (character ∷ later) =
    (if character == byte_of (codes "\n") then line_end later else encode_utf8 character) ++ in_one_line later

unfoldable pub lines_text : (text : List ℕ) → List ℕ
lines_text text = in_one_line (chars text)

-- ---- numbers

abbrev pub number_text : Number → List ℕ
number_text (Whole whole) = signed_decimal whole
number_text (Decimal millionths) = decimal_text millionths

-- ---- values, as JSON without blanks, but for decimals, which are numbers with a point

abbrev pub boolean_text : Bool → List ℕ
boolean_text true = codes "true"
boolean_text false = codes "false"

abbrev mutual
  pub value_text : Value → List ℕ
  value_text values.nil = codes "null"
  value_text (values.bool value) = boolean_text value
  value_text (values.whole whole) = signed_decimal whole
  value_text (values.decimal millionths) = decimal_text millionths
  value_text (values.text text) = quoted text
  value_text (values.list items) = codes "[" ++ (items_text true items ++ codes "]")
  value_text (values.object fields) = codes "{" ++ (fields_text true fields ++ codes "}")

  -- `first`: no item comes before these
  pub items_text : (first : Bool) → Items → List ℕ
  items_text first values.no_items = []
  items_text first (values.item value others) =
      (between first (codes ",") ++ value_text value) ++ items_text false others

  -- the same
  pub fields_text : (first : Bool) → Fields → List ℕ
  fields_text first values.no_fields = []
  fields_text first (values.field name value others) =
      (between first (codes ",") ++ (quoted name ++ (codes ":" ++ value_text value))) ++ fields_text false others

-- ---- what a condition says

abbrev pub answer_text : Result Bool Fault → List ℕ
answer_text (Ok value) = boolean_text value
answer_text (Err fault) = codes "fault " ++ fault_name fault

-- ---- shapes, as the JSON that declares them, without blanks

abbrev mutual
  pub shape_text : Shape → List ℕ
  shape_text shapes.bool = codes "\"bool\""
  shape_text shapes.whole = codes "\"whole\""
  shape_text shapes.decimal = codes "\"decimal\""
  shape_text shapes.text = codes "\"text\""
  shape_text (shapes.list item max) =
      codes "{\"list\":" ++ (shape_text item ++ (codes ",\"max\":" ++ (decimal max ++ codes "}")))
  shape_text (shapes.object fields) = codes "{\"record\":{" ++ (field_shapes_text true fields ++ codes "}}")
  shape_text (shapes.optional plain) = codes "{\"optional\":" ++ (shape_text plain ++ codes "}")

  -- `first`: no field comes before these
  pub field_shapes_text : (first : Bool) → FieldShapes → List ℕ
  field_shapes_text first shapes.no_fields = []
  field_shapes_text first (shapes.field name shape others) =
      (between first (codes ",") ++ (quoted name ++ (codes ":" ++ shape_text shape))) ++ field_shapes_text false others

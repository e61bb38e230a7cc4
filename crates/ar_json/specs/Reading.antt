-- Reading a JSON value (RFC 8259) under a shape: the value, or the first thing that is wrong with it.
use Rattle.std.specs.Prelude.{ℕ, suc, ℤ, ◌*ℤ◌, Bool, true, false, nat_le, if◌then◌else◌, Option, Some, None, Result, Ok, Err, ◌≡◌, pos, codes, refl}
use Rattle.serde_json.specs.Data as json
use Rattle.serde_json.specs.Data.{Data}
use Rattle.serde_json.specs.Find.{as_integer, get_member}
use Rattle.ar_value.specs.Answer.{◌>>=◌}
use Rattle.ar_value.specs.Decimal.{is_i64, million}
use Rattle.ar_value.specs.DecimalText.{decimal_of}
use Rattle.ar_value.specs.Shape.{Shape, FieldShapes}
use Rattle.ar_value.specs.Shape as shapes
use Rattle.ar_value.specs.Value.{Value, Items, Fields, nil, bool, whole, decimal, text, list, object, no_items, item, no_fields, field}
use Rattle.ar_value.specs.declared.decimal.NumberFault.{NumberFault}
use Rattle.ar_value.specs.declared.decimal.NumberFault.TheVariants as fault
use Rattle.ar_json.specs.declared.value_reading.ShapeFault.{ShapeFault}
use Rattle.ar_json.specs.declared.value_reading.ShapeFault.TheVariants.{WrongKind, FloatNumber, NotFinite, BadDecimal, OutOfRange, ListTooLong, MissingField, OutOfMemory}

-- a number where it fits a signed 64-bit number
abbrev pub in_range_as : (ℤ → Value) → ℤ → Result Value ShapeFault
in_range_as value z = if is_i64 z then Ok (value z) else Err OutOfRange

-- a JSON number that is no whole number of 64 bits, with a sign or without, is a float
abbrev pub read_whole : Option ℤ → Result Value ShapeFault
read_whole None = Err FloatNumber
read_whole (Some z) = in_range_as whole z

abbrev pub whole_as_millionths : Option ℤ → Result Value ShapeFault
whole_as_millionths None = Err FloatNumber
whole_as_millionths (Some z) = in_range_as decimal (z *ℤ million)

abbrev pub decimal_of_text : Result ℤ NumberFault → Result Value ShapeFault
decimal_of_text (Ok millionths) = Ok (decimal millionths)
decimal_of_text (Err fault.BadDecimal) = Err BadDecimal
decimal_of_text (Err fault.NotFinite) = Err NotFinite
decimal_of_text (Err fault.OutOfRange) = Err OutOfRange

abbrev pub item_count : json.Items → ℕ
item_count json.no_items = 0
item_count (json.item d items) = suc (item_count items)

-- Below, `read` is the reading of an inner value.

abbrev pub items_read : (Data → Result Value ShapeFault) → json.Items → Result Items ShapeFault
items_read read json.no_items = Ok no_items
items_read read (json.item d others) = do
  value ← read d
  items ← items_read read others
  Ok (item value items)

-- a list is too long before its items are read
abbrev pub list_read : (Data → Result Value ShapeFault) → ℕ → json.Items → Result Value ShapeFault
list_read read max items =
    if nat_le (item_count items) max then (items_read read items >>= λ values. Ok (list values)) else Err ListTooLong

-- a field that is absent is nil where it is optional
abbrev pub absent_read : Shape → Result Value ShapeFault
absent_read (shapes.optional shape) = Ok nil
absent_read shape = Err MissingField

abbrev pub field_read : (Data → Result Value ShapeFault) → Shape → Option Data → Result Value ShapeFault
field_read read shape (Some d) = read d
field_read read shape None = absent_read shape

abbrev mutual
  -- Null is nil under an optional shape. A boolean is read from a JSON boolean, a whole from a JSON number, a
  -- decimal from a text or a JSON number, a text from a JSON string, a list from an array and a record from an object.
  pub read : Shape → Data → Result Value ShapeFault
  read shapes.bool (json.boolean b) = Ok (bool b)
  read shapes.whole (json.number n) = read_whole (as_integer n)
  read shapes.decimal (json.number n) = whole_as_millionths (as_integer n)
  read shapes.decimal (json.string bytes) = decimal_of_text (decimal_of bytes)
  read shapes.text (json.string bytes) = Ok (text bytes)
  read (shapes.list shape max) (json.array items) = list_read (λ d. read shape d) max items
  read (shapes.object fields) (json.object given) = fields_read fields given >>= λ values. Ok (object values)
  read (shapes.optional shape) json.null = Ok nil
  read (shapes.optional shape) d = read shape d
  read shape d = Err WrongKind

  -- the shape's fields, one after another; other members are ignored
  pub fields_read : FieldShapes → json.Members → Result Fields ShapeFault
  fields_read shapes.no_fields given = Ok no_fields
  fields_read (shapes.field name shape others) given = do
    value ← field_read (λ d. read shape d) shape (get_member name given)
    fields ← fields_read others given
    Ok (field name value fields)

abbrev pub is_reading_memory : ShapeFault → Bool
is_reading_memory OutOfMemory = true
is_reading_memory fault = false

-- out of memory may be returned only where values of the shape take memory: booleans and numbers take none
abbrev pub is_memory_under : Shape → ShapeFault → Bool
is_memory_under shapes.bool fault = false
is_memory_under shapes.whole fault = false
is_memory_under shapes.decimal fault = false
is_memory_under (shapes.optional shape) fault = is_memory_under shape fault
is_memory_under shape fault = is_reading_memory fault

-- ---- worked rows

null_of_optional : read (shapes.optional shapes.whole) json.null ≡ Ok nil
null_of_optional = refl

text_for_decimal : read shapes.decimal (json.string (codes "0.5")) ≡ Ok (decimal (pos 500000))
unfolding decimal_of
text_for_decimal = refl

text_for_whole : read shapes.whole (json.string (codes "1")) ≡ Err WrongKind
text_for_whole = refl

one_item_too_many : read (shapes.list shapes.bool 0) (json.array (json.item (json.boolean true) json.no_items))
    ≡ Err ListTooLong
one_item_too_many = refl

field_absent : read (shapes.object (shapes.field (codes "a") shapes.whole shapes.no_fields))
    (json.object json.no_members)
    ≡ Err MissingField
field_absent = refl

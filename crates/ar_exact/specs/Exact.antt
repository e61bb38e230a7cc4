-- What JSON (RFC 8259) has of a value, so that each reader takes it as it is.
use Rattle.std.specs.Prelude.{◌≡◌, refl, ℕ, suc, ◌+◌, ◌^◌, ℤ, pos, negsuc, nat_abs, nat_le, Bool, true, if◌then◌else◌, codes, length, replicate}
use Rattle.std.specs.Fmt.{digits, signed_decimal}
use Rattle.serde_json.specs.Data as json
use Rattle.serde_json.specs.Data.{Data, boolean, null, put, string}
use Rattle.ar_object.specs.Object.{count_data, integer_data}
use Rattle.ar_value.specs.DecimalShown.{decimal_text}
use Rattle.ar_value.specs.Value.{Value, Items, Fields}
use Rattle.ar_value.specs.Value as values

-- ---- the form of a value

-- readers that take numbers as floats have the integers up to 2^53 exactly
abbrev pub is_exact : ℤ → Bool
is_exact integer = nat_le (nat_abs integer) (2 ^ 53)

-- a greater integer is a text with its digits
abbrev pub exact_whole : ℤ → Data
exact_whole integer = if is_exact integer then integer_data integer else string (signed_decimal integer)

abbrev mutual
  -- a decimal is a text with its digits
  pub form : Value → Data
  form values.nil = null
  form (values.bool holds) = boolean holds
  form (values.whole integer) = exact_whole integer
  form (values.decimal millionths) = string (decimal_text millionths)
  form (values.text text) = string text
  form (values.list items) = json.array (forms items)
  form (values.object of) = json.object (with_fields json.no_members of)

  pub forms : Items → json.Items
  forms values.no_items = json.no_items
  forms (values.item value others) = json.item (form value) (forms others)

  -- members, and those of fields, in the byte order of their names
  pub with_fields : json.Members → Fields → json.Members
  with_fields members values.no_fields = members
  with_fields members (values.field name value others) = with_fields (put name (form value) members) others

-- ---- the limit

abbrev mutual
  -- a text takes its bytes, a list and a record what is in them, and anything else 1
  pub room_of : Value → ℕ
  room_of values.nil = 1
  room_of (values.bool holds) = 1
  room_of (values.whole integer) = 1
  room_of (values.decimal millionths) = 1
  room_of (values.text text) = length text
  room_of (values.list items) = items_room items
  room_of (values.object of) = fields_room of

  -- an item takes 1 more than its value
  pub items_room : Items → ℕ
  items_room values.no_items = 0
  items_room (values.item value others) = suc (room_of value) + items_room others

  -- and a field its name
  pub fields_room : Fields → ℕ
  fields_room values.no_fields = 0
  fields_room (values.field name value others) = suc (length name + room_of value) + fields_room others

abbrev pub most_room : ℕ
most_room = 256

-- a value that takes more room is left out
abbrev pub exact_of : Value → Data
exact_of value = if nat_le (room_of value) most_room then form value else null

-- ---- worked rows

the_greatest : exact_of (values.whole (pos 9007199254740992)) ≡ count_data 9007199254740992
the_greatest = refl

one_more : exact_of (values.whole (pos 9007199254740993)) ≡ string (codes "9007199254740993")
unfolding digits
one_more = refl

below_zero : exact_of (values.whole (negsuc 4)) ≡ integer_data (negsuc 4)
below_zero = refl

a_decimal : exact_of (values.decimal (negsuc 499999)) ≡ string (codes "-0.5")
unfolding decimal_text digits
a_decimal = refl

a_long_text : exact_of (values.text (replicate 257 97)) ≡ null
a_long_text = refl

-- [{"up": true, "p95": 7}, nil]
a_list_of_records : exact_of (values.list
    (values.item (values.object (values.field (codes "up") (values.bool true)
    (values.field (codes "p95") (values.whole (pos 7)) values.no_fields)))
    (values.item values.nil values.no_items)))
    ≡ json.array (json.item (json.object (json.member (codes "p95") (count_data 7)
    (json.member (codes "up") (boolean true) json.no_members)))
    (json.item null json.no_items))
a_list_of_records = refl

-- The shape that a JSON value (RFC 8259) declares, or the first thing that is wrong with it, outer before inner:
--
--     "bool" | "whole" | "decimal" | "text"
--     {"list": shape, "max": number}    items, at most that number
--     {"record": {name: shape, ..}}     fields by name
--     {"optional": shape}               null, or a value of the shape
use Rattle.std.specs.Prelude.{ℕ, zero, suc, Bool, true, false, ◌&&◌, nat_le, if◌then◌else◌, codes, Option, Some, None, option_and_then, Result, Ok, Err}
use Rattle.std.specs.Str.{bytes_eq}
use Rattle.ar_value.specs.Terms.{Text}
use Rattle.serde_json.specs.Data.{Data, Members, string, object, no_members, member}
use Rattle.serde_json.specs.Find.{as_number, as_u64}
use Rattle.ar_value.specs.Answer.{◌>>=◌}
use Rattle.ar_value.specs.Shape.{Shape, FieldShapes, bool, whole, decimal, text, list, optional, no_fields, field}
use Rattle.ar_value.specs.Shape as shapes
use Rattle.ar_json.specs.declared.shape_reading.ShapeError.{ShapeError}
use Rattle.ar_json.specs.declared.shape_reading.ShapeError.TheVariants.{TooDeep, UnknownShape, MaxMissing, MaxTooLarge, NestedOptional, OutOfMemory}

-- a scalar shape is written by its name
abbrev pub scalar_named : Text → Result Shape ShapeError
scalar_named name =
    if bytes_eq name (codes "bool") then Ok bool
    else (if bytes_eq name (codes "whole") then Ok whole
    else (if bytes_eq name (codes "decimal") then Ok decimal
    else (if bytes_eq name (codes "text") then Ok text
    else Err UnknownShape)))

abbrev pub most_list_items : ℕ
most_list_items = 10000

-- the greatest length of a list: a whole number from 0 to 10,000
abbrev pub max_of : Option ℕ → Result ℕ ShapeError
max_of None = Err MaxMissing
max_of (Some max) = if nat_le max most_list_items then Ok max else Err MaxTooLarge

-- an optional shape is an object of the one name `optional`
abbrev pub declares_optional : Data → Bool
declares_optional (object (member name inner no_members)) = bytes_eq name (codes "optional")
declares_optional json = false

-- Below, `inner` is the shape that an inner value declares.

abbrev pub fields_declared : (Data → Result Shape ShapeError) → Members → Result FieldShapes ShapeError
fields_declared inner no_members = Ok no_fields
fields_declared inner (member name json others) = do
  shape ← inner json
  fields ← fields_declared inner others
  Ok (field name shape fields)

abbrev pub record_declared : (Data → Result Shape ShapeError) → Data → Result Shape ShapeError
record_declared inner (object members) = fields_declared inner members >>= λ fields. Ok (shapes.object fields)
record_declared inner json = Err UnknownShape

abbrev pub optional_declared : (Data → Result Shape ShapeError) → Data → Result Shape ShapeError
optional_declared inner json =
    if declares_optional json then Err NestedOptional else (inner json >>= λ shape. Ok (optional shape))

abbrev pub list_declared : (Data → Result Shape ShapeError) → Data → Data → Result Shape ShapeError
list_declared inner json max_json = do
  max ← max_of (option_and_then as_u64 (as_number max_json))
  shape ← inner json
  Ok (list shape max)

-- the shape that an object declares by the names of its members, which are in byte order
abbrev pub object_declared : (Data → Result Shape ShapeError) → Members → Result Shape ShapeError
object_declared inner (member name json no_members) =
    if bytes_eq name (codes "list") then Err MaxMissing
    else (if bytes_eq name (codes "record") then record_declared inner json
    else (if bytes_eq name (codes "optional") then optional_declared inner json
    else Err UnknownShape))
object_declared inner (member first json (member second max no_members)) =
    if bytes_eq first (codes "list") && bytes_eq second (codes "max") then list_declared inner json max
    else Err UnknownShape
object_declared inner others = Err UnknownShape

-- a shape of at most n levels, where each shape in it is a level
abbrev pub shape_within : ℕ → Data → Result Shape ShapeError
shape_within zero json = Err TooDeep
shape_within (suc levels) (string name) = scalar_named name
shape_within (suc levels) (object members) = object_declared (shape_within levels) members
shape_within (suc levels) json = Err UnknownShape

abbrev pub most_shape_levels : ℕ
most_shape_levels = 16

unfoldable pub shape_of : Data → Result Shape ShapeError
shape_of json = shape_within most_shape_levels json

abbrev pub is_shape_memory : ShapeError → Bool
is_shape_memory OutOfMemory = true
is_shape_memory error = false

-- out of memory may be returned only where an object declares the shape: a name takes none
abbrev pub is_memory_for : Data → ShapeError → Bool
is_memory_for (object given) error = is_shape_memory error
is_memory_for json error = false

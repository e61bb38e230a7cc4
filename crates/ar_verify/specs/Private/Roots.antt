-- Parts of shapes, by the way to them, and whole shapes in memory.
use Rattle.std.specs.Prelude.{ℕ, zero, suc, if◌then◌else◌, List, [], ◌∷◌, Option, Some, None, option_map, unwrap_or}
use Rattle.std.specs.Str.{bytes_eq}
use Rattle.ar_value.specs.Shape.{Shape, FieldShapes, list, object, optional, no_fields, field}
use Rattle.ar_value.specs.View.{shape_view}
use Rattle.ar_verify.specs.declared.path.Root.{Root}
use Rattle.ar_verify.specs.declared.path.Root.TheVariants as roots
use Rattle.ar_verify.specs.declared.whole.ShapeName as ShapeName

abbrev pub nth_field : ℕ → FieldShapes → Option Shape
nth_field n no_fields = None
nth_field zero (field name shape others) = Some shape
nth_field (suc n) (field name shape others) = nth_field n others

abbrev pub field_or : ℕ → FieldShapes → Shape → Shape
field_or n fields other = unwrap_or (nth_field n fields) other

-- a part by its number: what a list or an optional shape is of, or a field of a record; or the shape, where it has none
abbrev pub child : ℕ → Shape → Shape
child n (list item max) = item
child n (object fields) = field_or n fields (object fields)
child n (optional shape) = shape
child n shape = shape

-- the number of the first field of a name
abbrev pub number_named : List ℕ → FieldShapes → Option ℕ
number_named name no_fields = None
number_named name (field of shape others) =
    if bytes_eq of name then Some 0 else option_map suc (number_named name others)

abbrev pub root_field : List ℕ → Shape → Option ℕ
root_field name (object fields) = number_named name fields
root_field name shape = None

abbrev pub part_at : (path : List ℕ) → Shape → Shape
part_at [] shape = shape
part_at (n ∷ path) shape = part_at path (child n shape)

module _ {M : Type 0} {name : ShapeName.Ghosts M} where
  abbrev pub root_view : Root M name → Shape
  root_view (roots.Measured whole) = shape_view name.shape
  root_view (roots.Made shape) = shape_view shape.value

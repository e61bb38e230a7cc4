-- Shapes, which say what values a measurement may have.
use Rattle.std.specs.Prelude.{ℕ, if◌then◌else◌, List, ◌∷◌, Option, Some, None}
use Rattle.std.specs.Str.{bytes_eq}
use Rattle.ar_value.specs.Terms.{Text}

mutual
  pub data Shape : Type 0 where
    bool : Shape
    whole : Shape
    decimal : Shape
    text : Shape
    -- items of one shape, and how many at most
    list : Shape → ℕ → Shape
    object : FieldShapes → Shape
    -- nil, or a value of the shape
    optional : Shape → Shape

  pub data FieldShapes : Type 0 where
    no_fields : FieldShapes
    -- a name, its shape, and the fields after it
    field : Text → Shape → FieldShapes → FieldShapes

-- fields of these names and shapes, pair by pair, as many as there are of both
abbrev pub field_shapes_of : List Text → List Shape → FieldShapes
field_shapes_of (name ∷ names) (shape ∷ shapes) = field name shape (field_shapes_of names shapes)
field_shapes_of names shapes = no_fields

-- the shape of the first field of a name
abbrev pub shape_named : Text → FieldShapes → Option Shape
shape_named name no_fields = None
shape_named name (field of shape others) = if bytes_eq of name then Some shape else shape_named name others

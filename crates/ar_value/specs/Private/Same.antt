-- Whether shapes are the same, decided part by part.
use Rattle.std.specs.Prelude.{ℕ, Bool, true, false, ◌==◌, ◌&&◌, List}
use Rattle.std.specs.Str.{bytes_eq}
use Rattle.ar_value.specs.Shape.{Shape, FieldShapes, bool, whole, decimal, text, list, object, optional, no_fields, field}

abbrev mutual
  pub same_shape : Shape → Shape → Bool
  same_shape bool bool = true
  same_shape whole whole = true
  same_shape decimal decimal = true
  same_shape text text = true
  same_shape (list left m) (list right n) = (m == n) && same_shape left right
  same_shape (object left) (object right) = same_fields left right
  same_shape (optional left) (optional right) = same_shape left right
  same_shape left right = false

  pub same_fields : FieldShapes → FieldShapes → Bool
  same_fields no_fields no_fields = true
  same_fields (field name left lefts) (field of right rights) =
      (bytes_eq name of && same_shape left right) && same_fields lefts rights
  same_fields left right = false

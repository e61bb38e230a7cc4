-- The names of a record's fields, as they are in memory.
use Rattle.std.proofs.Common.{◌≡◌, ℕ, List, [], ◌∷◌, length, map, take, refl, ap}
use Rattle.ar_value.specs.Shape.{field_shapes_of}
use Rattle.ar_value.specs.View.{field_shapes_view, shape_view}
use Rattle.ar_value.specs.declared.shape.FieldShapes.{FieldShapes, out-FieldShapes}
use Rattle.ar_value.specs.declared.shape.Shape.{Shape}
use Rattle.ar_value.proofs.Views.{field_shapes_view-of}
use Rattle.ar_check.specs.Found.{record_names}

-- names past the shapes name no field
taken : (names : List (List ℕ)) (shapes : List Shape) → take (length shapes) names ≡ record_names (field_shapes_of names (map shape_view shapes))
taken [] [] = refl
taken [] (shape ∷ shapes) = refl
taken (name ∷ names) [] = refl
taken (name ∷ names) (shape ∷ shapes) = ap (λ rest. name ∷ rest) (taken names shapes)

pub names_taken : (fields : FieldShapes) → take (length (out-FieldShapes fields).shapes.items) (out-FieldShapes fields).names ≡ record_names (field_shapes_view fields)
names_taken fields = rw (field_shapes_view-of fields) (taken (out-FieldShapes fields).names (out-FieldShapes fields).shapes.items)

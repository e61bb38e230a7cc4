-- What the code's values and shapes represent, level by level.
use Rattle.std.proofs.Common.{◌≡◌, Bor, Box, Global, Option, Some, None, option_map, ℕ, suc, List, [], ◌∷◌, length, map, refl, ap, rules}
use Rattle.ar_value.specs.Shape as shapes
use Rattle.ar_value.specs.Shape.{field_shapes_of}
use Rattle.ar_value.specs.Value as values
use Rattle.ar_value.specs.Value.{items_of, fields_from, count}
use Rattle.ar_value.specs.View.{value_view, fields_view, shape_view, field_shapes_view}
use Rattle.ar_value.specs.declared.value.Value.{Value, List as ListValue, Object as ObjectValue, the_lemmas}
use Rattle.ar_value.specs.declared.value.Values.{Values}
use Rattle.ar_value.specs.declared.value.Fields.{Fields, out-Fields}
use Rattle.ar_value.specs.declared.shape.Shape.{Shape, List as ListShape, Object as ObjectShape, the_lemmas as shape_lemmas}
use Rattle.ar_value.specs.declared.shape.FieldShapes.{FieldShapes, out-FieldShapes}

pub value_view-list : (list : Values) → value_view (ListValue list) ≡ values.list (items_of (map value_view list.items.items))
value_view-list list = search (rules, the_lemmas)

pub value_view-object : (fields : Box Fields Global) → value_view (ObjectValue fields) ≡ values.object (fields_view fields.value)
value_view-object fields = search (rules, the_lemmas)

pub fields_view-from : (fields : Fields) → fields_view fields ≡ fields_from 0 (out-Fields fields).names (out-Fields fields).indices (map value_view (out-Fields fields).values.items)
fields_view-from fields = search (rules, the_lemmas)

pub shape_view-list : (item : Box Shape Global) (max : ℕ) → shape_view (ListShape item max) ≡ shapes.list (shape_view item.value) max
shape_view-list item max = search (rules, shape_lemmas)

pub shape_view-object : (fields : FieldShapes) → shape_view (ObjectShape fields) ≡ shapes.object (field_shapes_view fields)
shape_view-object fields = search (rules, shape_lemmas)

pub field_shapes_view-of : (fields : FieldShapes) → field_shapes_view fields ≡ field_shapes_of (out-FieldShapes fields).names (map shape_view (out-FieldShapes fields).shapes.items)
field_shapes_view-of fields = search (rules, shape_lemmas)

pub count-items_of : (vs : List Value) → count (items_of (map value_view vs)) ≡ length vs
count-items_of [] = refl
count-items_of (v ∷ vs) = ap suc (count-items_of vs)

-- a shape by its name, and a value by its index, where they are borrowed

pub shape_of_ref : (found : Option (Bor Shape)) → option_map (λ shape. shape_view shape.now) found ≡ option_map shape_view (option_map (λ shape. shape.now) found)
shape_of_ref None = refl
shape_of_ref (Some shape) = refl

pub value_of_ref : (found : Option (Bor Value)) → option_map (λ value. value_view value.now) found ≡ option_map value_view (option_map (λ value. value.now) found)
value_of_ref None = refl
value_of_ref (Some value) = refl

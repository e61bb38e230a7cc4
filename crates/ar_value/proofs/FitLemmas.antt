-- Fits, item by item and field by field.
use Rattle.std.proofs.Common.{◌≡◌, ℕ, suc, ◌+◌, ◌<◌, ◌≤◌, min, Bool, true, false, nat_le, List, [], ◌∷◌, length, map, drop, Box, Global, refl, arith}
use Rattle.std.specs.Prelude.{◌&&◌, slice_index_or}
use Rattle.std.specs.Str.{bytes_eq}
use Rattle.std.proofs.lemmas.Bool.Decides.{nat_tests}
use Rattle.std.proofs.Math.ListN.{drop_of_length-le}
use Rattle.ar_value.specs.Fits.{all_items, fields_fit, fits}
use Rattle.ar_value.specs.Kind.{is_optional}
use Rattle.ar_value.specs.Shape as specs
use Rattle.ar_value.specs.Value.{items_of, fields_from, value_at, nil}
use Rattle.ar_value.specs.View.{value_view, shape_view}
use Rattle.ar_value.specs.declared.value.Value.{Value, List as ListValue, Object as ObjectValue}
use Rattle.ar_value.specs.declared.value.Values.{Values}
use Rattle.ar_value.specs.declared.value.Fields.{Fields, out-Fields}
use Rattle.ar_value.specs.declared.shape.Shape.{Shape, List as ListShape, Object as ObjectShape}
use Rattle.ar_value.specs.declared.shape.FieldShapes.{FieldShapes, out-FieldShapes}
use Rattle.ar_value.proofs.FieldLists.{Of, field_at, no_field_at, value_field_at}
use Rattle.ar_value.proofs.Views.{value_view-list, value_view-object, fields_view-from, shape_view-list, shape_view-object, field_shapes_view-of, count-items_of}

-- whether names with values fit names with shapes, from an index on, as the code's types have them
abbrev pub Fit : ℕ → List (List ℕ) → List ℕ → List Value → List (List ℕ) → List Shape → Bool
Fit index names indices vs of shapes = fields_fit (fields_from index names indices (map value_view vs)) (Of of shapes)

abbrev pub FieldFits : ℕ → List ℕ → List ℕ → List Value → List ℕ → Shape → Bool
FieldFits index name indices vs of shape = bytes_eq name of && fits (value_at index indices (map value_view vs)) (shape_view shape)

neither : (a b : Bool) → false ≡ b → false ≡ (a && b)
neither true b h = h
neither false b h = refl

pub lengths_differ : (index : ℕ) (names : List (List ℕ)) (indices : List ℕ) (vs : List Value) (of : List (List ℕ)) (shapes : List Shape)
    → (length names ≡ min (length of) (length shapes) → ⊥) → false ≡ Fit index names indices vs of shapes
lengths_differ index [] indices vs [] shapes h = absurd (h (omega arith))
lengths_differ index [] indices vs (o ∷ of) [] h = absurd (h (omega arith))
lengths_differ index [] indices vs (o ∷ of) (s ∷ shapes) h = refl
lengths_differ index (n ∷ names) indices vs [] shapes h = refl
lengths_differ index (n ∷ names) indices vs (o ∷ of) [] h = refl
lengths_differ index (n ∷ names) indices vs (o ∷ of) (s ∷ shapes) h =
    neither (FieldFits index n indices vs o s) (Fit (suc index) names indices vs of shapes) (lengths_differ (suc index) names indices vs of shapes (λ e. h (omega (arith, e))))

pub next : (i : ℕ) (names : List (List ℕ)) (indices : List ℕ) (vs : List Value) (of : List (List ℕ)) (shapes : List Shape) (name other : List ℕ) (shape : Shape)
    → i < length names → i < length of → i < length shapes
    → name ≡ slice_index_or names i name → other ≡ slice_index_or of i other → shape ≡ slice_index_or shapes i shape
    → Fit i (drop i names) indices vs (drop i of) (drop i shapes) ≡ (FieldFits i name indices vs other shape && Fit (i + 1) (drop (i + 1) names) indices vs (drop (i + 1) of) (drop (i + 1) shapes))
next i names indices vs of shapes name other shape in_names in_of in_shapes is_name is_other is_shape =
    rw (value_field_at names indices (map value_view vs) i name in_names is_name, field_at of shapes i other shape in_of in_shapes is_other is_shape) refl

pub both_hold : {a b : Bool} → a ≡ true → b ≡ true → (a && b) ≡ true
both_hold a b = rw (a, b) refl

-- nothing is left
pub none_left : (i : ℕ) (names : List (List ℕ)) (indices : List ℕ) (vs : List Value) (of : List (List ℕ)) (shapes : List Shape)
    → length names ≡ min (length of) (length shapes) → length names ≤ i → true ≡ Fit i (drop i names) indices vs (drop i of) (drop i shapes)
none_left i names indices vs of shapes same past =
    rw (drop_of_length-le names {i = i} past, no_field_at of shapes i (omega (arith, same, past))) refl

-- nil fits what is optional
pub nil_fits : (shape : specs.Shape) → is_optional shape ≡ fits nil shape
nil_fits specs.bool = refl
nil_fits specs.whole = refl
nil_fits specs.decimal = refl
nil_fits specs.text = refl
nil_fits (specs.list shape max) = refl
nil_fits (specs.object of) = refl
nil_fits (specs.optional shape) = refl

-- a record fits where its fields do
pub record_fits : (fields : Box Fields Global) (of : FieldShapes) → fits (value_view (ObjectValue fields)) (shape_view (ObjectShape of))
    ≡ fields_fit (fields_from 0 (out-Fields fields.value).names (out-Fields fields.value).indices (map value_view (out-Fields fields.value).values.items)) (Of (out-FieldShapes of).names (out-FieldShapes of).shapes.items)
record_fits fields of = rw (value_view-object fields, fields_view-from fields.value, shape_view-object of, field_shapes_view-of of) refl

pub list_fits : (list : Values) (item : Box Shape Global) (max : ℕ)
    → fits (value_view (ListValue list)) (shape_view (ListShape item max)) ≡ (nat_le (length list.items.items) max && all_items (λ value. fits value (shape_view item.value)) (items_of (map value_view list.items.items)))
list_fits list item max = rw (value_view-list list, shape_view-list item max, count-items_of list.items.items) refl

within_true : (n max : ℕ) (b : Bool) → n ≤ max → b ≡ (nat_le n max && b)
within_true n max true h = grind (arith, nat_tests)
within_true n max false h = grind (arith, nat_tests)

-- a list that isn't too long fits where its items do
pub list_within : (value : Value) (shape : Shape) (list : Values) (item : Box Shape Global) (max : ℕ) (items : List Value) (inner : Shape) (b : Bool)
    → value ≡ ListValue list → shape ≡ ListShape item max → length list.items.items ≤ max → items ≡ list.items.items → inner ≡ item.value
    → b ≡ all_items (λ value. fits value (shape_view inner)) (items_of (map value_view items))
    → b ≡ fits (value_view value) (shape_view shape)
list_within value shape list item max items inner b is_value is_shape short is_items is_inner all_fit =
    rw (is_value, is_shape, list_fits list item max, ← is_items, ← is_inner, ← all_fit, is_items) (within_true (length list.items.items) max b short)

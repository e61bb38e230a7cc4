-- Fields in memory: names with shapes, and names with the values that are there, one after another.
use Rattle.std.proofs.Common.{◌≡◌, Bor, ℕ, zero, suc, ◌+◌, ◌<◌, ◌≤◌, min, Bool, true, false, not, List, [], ◌∷◌, ◌++◌, length, map, take, drop, get_or, Option, Some, None, option_map, slice_get, ◌⊎◌, inl, inr, refl, sym, ◌∙◌, ap, arith, drop-cons, add-one}
use Rattle.std.specs.Prelude.{slice_index_or, ◌==◌, if◌then◌else◌, option_and_then, unwrap_or}
use Rattle.std.specs.Slice.{IsItemAt}
use Rattle.std.specs.Str.{bytes_eq}
use Rattle.std.proofs.lemmas.Bool.{cases_lt}
use Rattle.std.proofs.Math.ListN.{drop_of_length-le}
use Rattle.ar_value.specs.Names.{index_named, index_of}
use Rattle.ar_value.specs.Shape.{Shape, FieldShapes, field_shapes_of, no_fields, field, shape_named}
use Rattle.ar_value.specs.Value.{Value, Fields, value_at, value_named, fields_from, nil}
use Rattle.ar_value.specs.Value as values
use Rattle.ar_value.specs.View.{shape_view, value_view, field_shapes_view, fields_view}
use Rattle.ar_value.specs.declared.shape.Shape.{Shape as ShapeCode, Object as ObjectShape}
use Rattle.ar_value.specs.declared.shape.FieldShapes.{FieldShapes as FieldShapesCode, out-FieldShapes}
use Rattle.ar_value.specs.declared.value.Value.{Value as ValueCode}
use Rattle.ar_value.specs.declared.value.Fields.{Fields as FieldsCode, out-Fields}
use Rattle.ar_value.proofs.Views.{fields_view-from, shape_view-object, field_shapes_view-of, shape_of_ref, value_of_ref}

-- ---- names with shapes

-- fields of names and shapes, as the code's types have them
abbrev pub Of : List (List ℕ) → List ShapeCode → FieldShapes
Of names shapes = field_shapes_of names (map shape_view shapes)

none_right : (names : List (List ℕ)) → field_shapes_of names [] ≡ no_fields
none_right [] = refl
none_right (name ∷ names) = refl

front : (names others : List (List ℕ)) (shapes rest : List ShapeCode) (name : List ℕ) (shape : ShapeCode) → names ≡ name ∷ others → shapes ≡ shape ∷ rest
    → Of names shapes ≡ field name (shape_view shape) (Of others rest)
front names others shapes rest name shape is_name is_shape = rw (is_name, is_shape) refl

-- the field at i, and those after it
pub field_at : (names : List (List ℕ)) (shapes : List ShapeCode) (i : ℕ) (name : List ℕ) (shape : ShapeCode) → i < length names → i < length shapes
    → name ≡ slice_index_or names i name → shape ≡ slice_index_or shapes i shape
    → Of (drop i names) (drop i shapes) ≡ field name (shape_view shape) (Of (drop (i + 1) names) (drop (i + 1) shapes))
field_at names shapes i name shape in_names in_shapes is_name is_shape =
    rw add-one
    (front (drop i names) (drop (suc i) names) (drop i shapes) (drop (suc i) shapes) name shape
    (drop-cons names i name in_names ∙ ap (λ x. x ∷ drop (suc i) names) (sym is_name))
    (drop-cons shapes i shape in_shapes ∙ ap (λ x. x ∷ drop (suc i) shapes) (sym is_shape)))

-- no field is left
pub no_field_at : (names : List (List ℕ)) (shapes : List ShapeCode) (i : ℕ) → min (length names) (length shapes) ≤ i → Of (drop i names) (drop i shapes) ≡ no_fields
no_field_at names shapes i past = by (cases_lt i (length names))
  where
    by : (i < length names) ⊎ (length names ≤ i) → Of (drop i names) (drop i shapes) ≡ no_fields
    by (inl inside) = rw (drop_of_length-le shapes {i = i} (omega (arith, past, inside))) (none_right (drop i names))
    by (inr outside) = rw (drop_of_length-le names {i = i} outside) refl

named_next : (is : Bool) (shape : ShapeCode) (shapes : List ShapeCode) (found : Option ℕ) (later : Option Shape) → later ≡ option_map shape_view (option_and_then (slice_get shapes) found)
    → (if is then Some (shape_view shape) else later) ≡ option_map shape_view (option_and_then (slice_get (shape ∷ shapes)) (if is then Some 0 else option_map suc found))
named_next true shape shapes found later is = refl
named_next false shape shapes None later is = is
named_next false shape shapes (Some i) later is = is

named_none : (is : Bool) (found : Option ℕ) (no_shape : Option Shape) → no_shape ≡ None → no_shape ≡ option_map shape_view (option_and_then (slice_get []) (if is then Some 0 else option_map suc found))
named_none true found no_shape is = is
named_none false None no_shape is = is
named_none false (Some i) no_shape is = is

-- the shape of a name has the index of the name
pub shape_by_index : (name : List ℕ) (names : List (List ℕ)) (shapes : List ShapeCode) → shape_named name (Of names shapes) ≡ option_map shape_view (option_and_then (slice_get shapes) (index_named name names))
shape_by_index name [] shapes = refl
shape_by_index name (of ∷ names) [] = named_none (bytes_eq of name) (index_named name names) None refl
shape_by_index name (of ∷ names) (shape ∷ shapes) = named_next (bytes_eq of name) shape shapes (index_named name names) (shape_named name (Of names shapes)) (shape_by_index name names shapes)

-- fields before others
abbrev pub onto : List (List ℕ) → List Shape → FieldShapes → FieldShapes
onto (name ∷ names) (shape ∷ shapes) rest = field name shape (onto names shapes rest)
onto names shapes rest = rest

pub onto_none : (names : List (List ℕ)) (shapes : List Shape) → onto names shapes no_fields ≡ field_shapes_of names shapes
onto_none [] shapes = refl
onto_none (name ∷ names) [] = refl
onto_none (name ∷ names) (shape ∷ shapes) = ap (field name shape) (onto_none names shapes)

-- one field more
pub onto_more : (names : List (List ℕ)) (shapes : List Shape) (name : List ℕ) (shape : Shape) (rest : FieldShapes) → length names ≡ length shapes
    → onto names shapes (field name shape rest) ≡ onto (names ++ name ∷ []) (shapes ++ shape ∷ []) rest
onto_more [] [] name shape rest same = refl
onto_more [] (s ∷ shapes) name shape rest same = absurd (omega (arith, same))
onto_more (n ∷ names) [] name shape rest same = absurd (omega (arith, same))
onto_more (n ∷ names) (s ∷ shapes) name shape rest same = ap (field n s) (onto_more names shapes name shape rest (omega (arith, same)))

-- names past the shapes name no field
pub onto_take : (names : List (List ℕ)) (shapes : List Shape) → onto (take (length shapes) names) shapes no_fields ≡ field_shapes_of names shapes
onto_take [] [] = refl
onto_take [] (shape ∷ shapes) = refl
onto_take (name ∷ names) [] = refl
onto_take (name ∷ names) (shape ∷ shapes) = ap (field name shape) (onto_take names shapes)

-- ---- names with values

values_front : (names others : List (List ℕ)) (indices : List ℕ) (vs : List Value) (i : ℕ) (name : List ℕ) → names ≡ name ∷ others
    → fields_from i names indices vs ≡ values.field name (value_at i indices vs) (fields_from (suc i) others indices vs)
values_front names others indices vs i name is = rw is refl

-- the field at i, and those after it
pub value_field_at : (names : List (List ℕ)) (indices : List ℕ) (vs : List Value) (i : ℕ) (name : List ℕ) → i < length names → name ≡ slice_index_or names i name
    → fields_from i (drop i names) indices vs ≡ values.field name (value_at i indices vs) (fields_from (i + 1) (drop (i + 1) names) indices vs)
value_field_at names indices vs i name inside is = rw add-one (values_front (drop i names) (drop (suc i) names) indices vs i name (drop-cons names i name inside ∙ ap (λ x. x ∷ drop (suc i) names) (sym is)))

at_next : (is : Bool) (v : ValueCode) (vs : List ValueCode) (found : Option ℕ) (later : Value) → later ≡ unwrap_or (option_map value_view (option_and_then (slice_get vs) found)) nil
    → (if is then value_view v else later) ≡ unwrap_or (option_map value_view (option_and_then (slice_get (v ∷ vs)) (if is then Some 0 else option_map suc found))) nil
at_next true v vs found later is = refl
at_next false v vs None later is = is
at_next false v vs (Some i) later is = is

at_none : (is : Bool) (found : Option ℕ) → nil ≡ unwrap_or (option_map value_view (option_and_then (slice_get []) (if is then Some 0 else option_map suc found))) nil
at_none true found = refl
at_none false None = refl
at_none false (Some i) = refl

-- the value of an index, by where that is in the list
pub value_by_index : (index : ℕ) (indices : List ℕ) (vs : List ValueCode) → value_at index indices (map value_view vs) ≡ unwrap_or (option_map value_view (option_and_then (slice_get vs) (index_of index indices))) nil
value_by_index index [] vs = refl
value_by_index index (first ∷ indices) [] = at_none (first == index) (index_of index indices)
value_by_index index (first ∷ indices) (v ∷ vs) = at_next (first == index) v vs (index_of index indices) (value_at index indices (map value_view vs)) (value_by_index index indices vs)

later_index : (is : Bool) (from : ℕ) (indices : List ℕ) (vs : List Value) (found : Option ℕ) (later : Option Value) → later ≡ option_map (λ i. value_at (suc from + i) indices vs) found
    → (if is then Some (value_at from indices vs) else later) ≡ option_map (λ i. value_at (from + i) indices vs) (if is then Some 0 else option_map suc found)
later_index true from indices vs found later is = ap (λ n. Some (value_at n indices vs)) (omega arith)
later_index false from indices vs None later is = is
later_index false from indices vs (Some i) later is = is ∙ ap (λ n. Some (value_at n indices vs)) (omega arith)

from_index : (name : List ℕ) (from : ℕ) (names : List (List ℕ)) (indices : List ℕ) (vs : List Value) → value_named name (fields_from from names indices vs) ≡ option_map (λ i. value_at (from + i) indices vs) (index_named name names)
from_index name from [] indices vs = refl
from_index name from (of ∷ names) indices vs =
    later_index (bytes_eq of name) from indices vs (index_named name names) (value_named name (fields_from (suc from) names indices vs)) (from_index name (suc from) names indices vs)

-- the value of a name has the index of the name as its index
pub value_of_name : (name : List ℕ) (names : List (List ℕ)) (indices : List ℕ) (vs : List Value) → value_named name (fields_from 0 names indices vs) ≡ option_map (λ i. value_at i indices vs) (index_named name names)
value_of_name name names indices vs = from_index name 0 names indices vs ∙ from_front (index_named name names)
  where
    from_front : (found : Option ℕ) → option_map (λ i. value_at (0 + i) indices vs) found ≡ option_map (λ i. value_at i indices vs) found
    from_front None = refl
    from_front (Some i) = ap (λ n. Some (value_at n indices vs)) (omega arith)

-- ---- what is borrowed from a list

pub got_past : {X : Type 0} (xs : List X) (i : ℕ) → length xs ≤ i → slice_get xs i ≡ None
got_past [] i past = refl
got_past (x ∷ xs) zero past = absurd (omega (arith, past))
got_past (x ∷ xs) (suc i) past = got_past xs i (omega (arith, past))

pub got_at : {X : Type 0} (xs : List X) (i : ℕ) (x : X) → i < length xs → x ≡ get_or xs i x → Some x ≡ slice_get xs i
got_at [] i x within is = absurd (omega (arith, within))
got_at {X} (y ∷ xs) zero x within is = ap (λ (first : X). Some first) is
got_at (y ∷ xs) (suc i) x within is = got_at xs i x (omega (arith, within)) is

-- what is borrowed at an index is the item there
pub item_got : {X : Type 0} (xs : List X) (i : ℕ) (found : Option (Bor X)) → IsItemAt xs i found → option_map (λ x. x.now) found ≡ slice_get xs i
item_got xs i None at = sym (got_past xs i at.3)
item_got xs i (Some x) at = got_at xs i x.now at.3.0 at.1

pub shape_got : (fields : FieldShapesCode) (name : List ℕ) (i : ℕ) (found : Option (Bor ShapeCode)) → Some i ≡ index_named name (out-FieldShapes fields).names → IsItemAt (out-FieldShapes fields).shapes.items i found
    → option_map (λ shape. shape_view shape.now) found ≡ shape_named name (field_shapes_view fields)
shape_got fields name i found at is =
    shape_of_ref found ∙ ap (option_map shape_view) (item_got (out-FieldShapes fields).shapes.items i found is)
    ∙ sym (ap (shape_named name) (field_shapes_view-of fields) ∙ shape_by_index name (out-FieldShapes fields).names (out-FieldShapes fields).shapes.items ∙ rw (← at) refl)

pub no_shape_got : (fields : FieldShapesCode) (name : List ℕ) → None ≡ index_named name (out-FieldShapes fields).names → None ≡ shape_named name (field_shapes_view fields)
no_shape_got fields name at = sym (ap (shape_named name) (field_shapes_view-of fields) ∙ shape_by_index name (out-FieldShapes fields).names (out-FieldShapes fields).shapes.items ∙ rw (← at) refl)

pub value_got : (index : ℕ) (indices : List ℕ) (vs : List ValueCode) (i : ℕ) (found : Option (Bor ValueCode)) → Some i ≡ index_of index indices → IsItemAt vs i found
    → unwrap_or (option_map (λ value. value_view value.now) found) nil ≡ value_at index indices (map value_view vs)
value_got index indices vs i found at is =
    ap (λ value. unwrap_or value nil) (value_of_ref found ∙ ap (option_map value_view) (item_got vs i found is)) ∙ sym (value_by_index index indices vs ∙ rw (← at) refl)

pub no_value_got : (index : ℕ) (indices : List ℕ) (vs : List ValueCode) → None ≡ index_of index indices → nil ≡ value_at index indices (map value_view vs)
no_value_got index indices vs at = sym (value_by_index index indices vs ∙ rw (← at) refl)

pub field_got : (fields : FieldsCode) (name : List ℕ) (i : ℕ) (value : Value) → Some i ≡ index_named name (out-Fields fields).names → value ≡ value_at i (out-Fields fields).indices (map value_view (out-Fields fields).values.items)
    → Some value ≡ value_named name (fields_view fields)
field_got fields name i value at is =
    sym (ap (value_named name) (fields_view-from fields) ∙ value_of_name name (out-Fields fields).names (out-Fields fields).indices (map value_view (out-Fields fields).values.items) ∙ rw (← at, ← is) refl)

pub no_field_got : (fields : FieldsCode) (name : List ℕ) → None ≡ index_named name (out-Fields fields).names → None ≡ value_named name (fields_view fields)
no_field_got fields name at =
    sym (ap (value_named name) (fields_view-from fields) ∙ value_of_name name (out-Fields fields).names (out-Fields fields).indices (map value_view (out-Fields fields).values.items) ∙ rw (← at) refl)

-- what a test of two names that differ says of their being the same
pub unlike : (differ same : Bool) → differ ≡ not same → differ ≡ true → same ≡ false
unlike differ true is yes_ = absurd (let no_ : false ≡ true = sym is ∙ yes_ in cc)
unlike differ false is yes_ = refl

pub alike : (differ same : Bool) → differ ≡ not same → differ ≡ false → same ≡ true
alike differ true is no_ = refl
alike differ false is no_ = absurd (let yes_ : true ≡ false = sym is ∙ no_ in cc)

-- records are the same where their names and shapes are
pub record_same : (fields others : FieldShapesCode) → (out-FieldShapes fields).names ≡ (out-FieldShapes others).names
    → map shape_view (out-FieldShapes fields).shapes.items ≡ map shape_view (out-FieldShapes others).shapes.items → shape_view (ObjectShape fields) ≡ shape_view (ObjectShape others)
record_same fields others names shapes = rw (shape_view-object fields, shape_view-object others, field_shapes_view-of fields, field_shapes_view-of others, names, shapes) refl

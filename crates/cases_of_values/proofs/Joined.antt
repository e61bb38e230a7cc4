-- Parts of a list, each printed after the one before it.
use Rattle.std.proofs.Common.{◌≡◌, refl, ℕ, suc, ◌+◌, ◌<◌, ◌≤◌, min, Bool, false, List, [], ◌∷◌, ◌++◌, length, map, drop, ◌∙◌, ap, sym, append_assoc, add-one, drop-cons}
use Rattle.std.specs.Prelude.{Option, Some, None, codes, option_and_then, option_map, slice_get, slice_index_or, unwrap_or}
use Rattle.std.proofs.Math.ListN.{drop_of_length-le}
use Rattle.std.proofs.lemmas.List.{append-nil}
use Rattle.ar_value.specs.Value.{Items, items_of, fields_from}
use Rattle.ar_value.specs.Value as specs
use Rattle.ar_value.specs.View.{shape_view, value_view}
use Rattle.ar_value.specs.declared.shape.Shape.{Shape}
use Rattle.ar_value.specs.declared.value.Value.{Value}
use Rattle.ar_value.specs.Names.{index_of}
use Rattle.ar_value.proofs.FieldLists.{Of, field_at, got_at, got_past, no_field_at, value_by_index, value_field_at}
use Rattle.cases_of_values.specs.Printing.{between, field_shapes_text, fields_text, items_text, quoted, shape_text, value_text}

-- one more part comes after those that were written
next_part : {A B : Type 0} (text : B → List ℕ) (rest : List A → B) (xs : List A) (position : ℕ) (x : A) (part written total : List ℕ) (first : B → List ℕ) → position < length xs → x ≡ slice_index_or xs position x
    → first (rest (x ∷ drop (suc position) xs)) ≡ part ++ text (rest (drop (suc position) xs))
    → written ++ first (rest (drop position xs)) ≡ total → (written ++ part) ++ text (rest (drop (position + 1) xs)) ≡ total
next_part text rest xs position x part written total first within is splits so_far =
    let left : drop position xs ≡ x ∷ drop (suc position) xs = drop-cons xs position x within ∙ ap (λ y. y ∷ drop (suc position) xs) (sym is) in
    rw (add-one position) (append_assoc written part (text (rest (drop (suc position) xs))) ∙ ap (λ t. written ++ t) (sym splits) ∙ ap (λ xs. written ++ first (rest xs)) (sym left) ∙ so_far)

no_part : {A B : Type 0} (text : B → List ℕ) (rest : List A → B) (xs : List A) (position : ℕ) (written total : List ℕ) → length xs ≤ position → text (rest []) ≡ []
    → written ++ text (rest (drop position xs)) ≡ total → written ≡ total
no_part text rest xs position written total past none so_far =
    sym (append-nil written) ∙ ap (λ t. written ++ t) (sym none) ∙ ap (λ xs. written ++ text (rest xs)) (sym (drop_of_length-le xs past)) ∙ so_far

-- ---- the fields of a shape

pub next_field_shape : (names : List (List ℕ)) (shapes : List Shape) (position : ℕ) (name : List ℕ) (shape : Shape) (first : Bool) (written total : List ℕ) → position < length names → position < length shapes
    → name ≡ slice_index_or names position name → shape ≡ slice_index_or shapes position shape
    → written ++ field_shapes_text first (Of (drop position names) (drop position shapes)) ≡ total
    → (written ++ (between first (codes ",") ++ (quoted name ++ (codes ":" ++ shape_text (shape_view shape))))) ++ field_shapes_text false (Of (drop (position + 1) names) (drop (position + 1) shapes)) ≡ total
next_field_shape names shapes position name shape first written total in_names in_shapes is_name is_shape so_far =
    append_assoc written _ (field_shapes_text false (Of (drop (position + 1) names) (drop (position + 1) shapes)))
    ∙ ap (λ fields. written ++ field_shapes_text first fields) (sym (field_at names shapes position name shape in_names in_shapes is_name is_shape)) ∙ so_far

pub no_field_shape : (names : List (List ℕ)) (shapes : List Shape) (position : ℕ) (first : Bool) (written total : List ℕ) → min (length names) (length shapes) ≤ position
    → written ++ field_shapes_text first (Of (drop position names) (drop position shapes)) ≡ total → written ≡ total
no_field_shape names shapes position first written total past so_far =
    sym (append-nil written) ∙ ap (λ fields. written ++ field_shapes_text first fields) (sym (no_field_at names shapes position past)) ∙ so_far

-- ---- the items of a list

abbrev items_left : List Value → Items
items_left items = items_of (map value_view items)

pub next_item : (items : List Value) (position : ℕ) (item : Value) (first : Bool) (written total : List ℕ) → position < length items → item ≡ slice_index_or items position item
    → written ++ items_text first (items_of (map value_view (drop position items))) ≡ total
    → (written ++ (between first (codes ",") ++ value_text (value_view item))) ++ items_text false (items_of (map value_view (drop (position + 1) items))) ≡ total
next_item items position item first written total within is so_far =
    next_part (items_text false) items_left items position item (between first (codes ",") ++ value_text (value_view item)) written total (items_text first) within is refl so_far

pub no_item : (items : List Value) (position : ℕ) (first : Bool) (written total : List ℕ) → length items ≤ position → written ++ items_text first (items_of (map value_view (drop position items))) ≡ total → written ≡ total
no_item items position first written total past so_far = no_part (items_text first) items_left items position written total past refl so_far

-- ---- the fields of a value

pub next_field : (names : List (List ℕ)) (indices : List ℕ) (values : List Value) (position : ℕ) (name : List ℕ) (index : Option ℕ) (first : Bool) (written total : List ℕ) → position < length names
    → name ≡ slice_index_or names position name → index ≡ index_of position indices
    → written ++ fields_text first (fields_from position (drop position names) indices (map value_view values)) ≡ total
    → (written ++ (between first (codes ",") ++ (quoted name ++ (codes ":" ++ value_text (unwrap_or (option_map value_view (option_and_then (slice_get values) index)) specs.nil))))) ++ fields_text false (fields_from (position + 1) (drop (position + 1) names) indices (map value_view values)) ≡ total
next_field names indices values position name index first written total within is_name is_index so_far =
    rw (is_index, ← value_by_index position indices values)
    (append_assoc written _ (fields_text false (fields_from (position + 1) (drop (position + 1) names) indices (map value_view values)))
    ∙ ap (λ fields. written ++ fields_text first fields) (sym (value_field_at names indices (map value_view values) position name within is_name)) ∙ so_far)

pub no_field : (names : List (List ℕ)) (indices : List ℕ) (values : List Value) (position : ℕ) (first : Bool) (written total : List ℕ) → length names ≤ position
    → written ++ fields_text first (fields_from position (drop position names) indices (map value_view values)) ≡ total → written ≡ total
no_field names indices values position first written total past so_far =
    sym (append-nil written) ∙ ap (λ left. written ++ fields_text first (fields_from position left indices (map value_view values))) (sym (drop_of_length-le names {i = position} past)) ∙ so_far

-- a value that is given at an index

pub given_there : (given : List Value) (index : ℕ) (value : Value) → index < length given → value ≡ slice_index_or given index value
    → value_view value ≡ unwrap_or (option_map value_view (option_and_then (slice_get given) (Some index))) specs.nil
given_there given index value within is = rw (← got_at given index value within is) refl

pub given_past : (given : List Value) (index : ℕ) → length given ≤ index → specs.nil ≡ unwrap_or (option_map value_view (option_and_then (slice_get given) (Some index))) specs.nil
given_past given index past = rw (got_past given index past) refl

pub none_given : (given : List Value) (index : Option ℕ) → index ≡ None → specs.nil ≡ unwrap_or (option_map value_view (option_and_then (slice_get given) index)) specs.nil
none_given given index is = rw is refl

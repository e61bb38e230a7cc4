-- Items and fields that were looked at, one after another.
use Rattle.std.proofs.Common.{◌≡◌, ℕ, zero, suc, ◌+◌, ◌<◌, ◌≤◌, min, List, [], ◌∷◌, length, drop, Option, Some, None, option_map, refl, sym, ap, ◌∙◌, arith, add-one, drop-cons}
use Rattle.std.specs.Option.{option_or}
use Rattle.std.specs.Prelude.{slice_index_or}
use Rattle.std.proofs.lemmas.Bool.Decides.{nat_tests}
use Rattle.std.proofs.Math.ListN.{drop_of_length-le}
use Rattle.serde_json.specs.Data as json
use Rattle.serde_json.specs.Data.{Data}
use Rattle.serde_json.specs.Find.{get}
use Rattle.serde_json.specs.View.{view, items_view}
use Rattle.serde_json.specs.declared.value.Value.{Value as Json}
use Rattle.ar_value.specs.Shape.{Shape}
use Rattle.ar_value.specs.Shape as shapes
use Rattle.ar_value.specs.View.{shape_view}
use Rattle.ar_value.specs.declared.shape.Shape.{Shape as ShapeCode}
use Rattle.ar_value.proofs.FieldLists.{Of, field_at, no_field_at}
use Rattle.ar_json.specs.declared.value_reading.ShapeFault.TheVariants.{ListTooLong}
use Rattle.ar_misfit.proofs.Viewed.{count_of_view}
use Rattle.ar_misfit.specs.Misfit.{Misfit, Step, index, named, after_step, field_misfit, fields_misfit, items_misfit, list_misfit, misfit_as, misfit_here}

pub found_after : (step : Step) (found later : Option Misfit) (m longer : Misfit) → Some m ≡ found → longer ≡ after_step step m
    → Some longer ≡ option_or (option_map (after_step step) found) later
found_after step found later m longer is after = rw (← is, after) refl

pub passed_by : (step : Step) (found later : Option Misfit) → None ≡ found → option_or (option_map (after_step step) found) later ≡ later
passed_by step found later is = rw (← is) refl

-- ---- items

list_too_long : (M : Data → Option Misfit) (expected : Shape) (max : ℕ) (items : List Json) → max < length items
    → list_misfit M expected max (items_view items) ≡ Some (misfit_here expected (Some (json.array (items_view items))) ListTooLong)
list_too_long M expected max items long = rw (count_of_view items) (grind (arith, nat_tests))

pub too_long_list : (expected shape : Shape) (max : ℕ) (d : Data) (items : List Json) → d ≡ json.array (items_view items) → max < length items
    → misfit_as expected (shapes.list shape max) d ≡ Some (misfit_here expected (Some d) ListTooLong)
too_long_list expected shape max d items is long = rw is (list_too_long (λ inner. misfit_as shape shape inner) expected max items long)

pub list_short : (M : Data → Option Misfit) (expected : Shape) (max : ℕ) (items : List Json) → length items ≤ max
    → list_misfit M expected max (items_view items) ≡ items_misfit M 0 (items_view items)
list_short M expected max items short = rw (count_of_view items) (grind (arith, nat_tests))

front : (M : Data → Option Misfit) (i : ℕ) (items rest : List Json) (x : Json) → items ≡ x ∷ rest
    → items_misfit M i (items_view items) ≡ option_or (option_map (after_step (index i)) (M (view x))) (items_misfit M (suc i) (items_view rest))
front M i items rest x is = rw is refl

item_here : (M : Data → Option Misfit) (items : List Json) (i : ℕ) (x : Json) → i < length items → x ≡ slice_index_or items i x
    → items_misfit M i (items_view (drop i items)) ≡ option_or (option_map (after_step (index i)) (M (view x))) (items_misfit M (i + 1) (items_view (drop (i + 1) items)))
item_here M items i x inside is = rw add-one (front M i (drop i items) (drop (suc i) items) x (drop-cons items i x inside ∙ ap (λ y. y ∷ drop (suc i) items) (sym is)))

pub item_found : (M : Data → Option Misfit) (items : List Json) (i : ℕ) (x : Json) (m longer : Misfit) → i < length items → x ≡ slice_index_or items i x
    → items_misfit M 0 (items_view items) ≡ items_misfit M i (items_view (drop i items))
    → Some m ≡ M (view x) → longer ≡ after_step (index i) m
    → Some longer ≡ items_misfit M 0 (items_view items)
item_found M items i x m longer inside is before found after =
    found_after (index i) (M (view x)) (items_misfit M (i + 1) (items_view (drop (i + 1) items))) m longer found after
    ∙ sym (before ∙ item_here M items i x inside is)

pub item_passed : (M : Data → Option Misfit) (items : List Json) (i : ℕ) (x : Json) → i < length items → x ≡ slice_index_or items i x
    → items_misfit M 0 (items_view items) ≡ items_misfit M i (items_view (drop i items))
    → None ≡ M (view x)
    → items_misfit M 0 (items_view items) ≡ items_misfit M (i + 1) (items_view (drop (i + 1) items))
item_passed M items i x inside is before said =
    before ∙ item_here M items i x inside is ∙ passed_by (index i) (M (view x)) (items_misfit M (i + 1) (items_view (drop (i + 1) items))) said

pub no_item_left : (M : Data → Option Misfit) (items : List Json) (i : ℕ) → length items ≤ i
    → items_misfit M 0 (items_view items) ≡ items_misfit M i (items_view (drop i items))
    → None ≡ items_misfit M 0 (items_view items)
no_item_left M items i past before =
    let none : drop i items ≡ [] = drop_of_length-le items past in
    sym (before ∙ ap (λ left. items_misfit M i (items_view left)) none)

-- ---- fields

item_of : {X : Type 0} (xs : List X) (i : ℕ) → i < length xs → (x : X) × (x ≡ slice_index_or xs i x)
item_of [] i inside = absurd (omega (arith, inside))
item_of (x ∷ xs) zero inside = (x, refl)
item_of (x ∷ xs) (suc i) inside = item_of xs i (omega (arith, inside))

module _ (names : List (List ℕ)) (of : List ShapeCode) (d : Data) (i : ℕ) where
  abbrev pub so_far : Type 0
  so_far = fields_misfit (Of names of) d ≡ fields_misfit (Of (drop i names) (drop i of)) d

  pub no_field_left : min (length names) (length of) ≤ i → so_far → None ≡ fields_misfit (Of names of) d
  no_field_left past before = sym (before ∙ ap (λ left. fields_misfit left d) (no_field_at names of i past))

  module _ (name : List ℕ) (in_names : i < length names) (in_shapes : i < length of) (is_name : name ≡ slice_index_or names i name) (found : Option Data) (is_found : found ≡ get name d) where
    abbrev here : ShapeCode → Option Data → Option Misfit
    here shape found = field_misfit (λ inner. misfit_as (shape_view shape) (shape_view shape) inner) (shape_view shape) found

    abbrev later : Option Misfit
    later = fields_misfit (Of (drop (i + 1) names) (drop (i + 1) of)) d

    -- what is found in the field here, under the shape at the same index
    abbrev pub Found : Option Misfit → Type 0
    Found misfit = (shape : ShapeCode) → shape ≡ slice_index_or of i shape → misfit ≡ here shape found

    field_here : (shape : ShapeCode) → shape ≡ slice_index_or of i shape → fields_misfit (Of (drop i names) (drop i of)) d ≡ option_or (option_map (after_step (named name)) (here shape (get name d))) later
    field_here shape is_shape = rw (field_at names of i name shape in_names in_shapes is_name is_shape) refl

    same : (shape : ShapeCode) (misfit : Option Misfit) → misfit ≡ here shape found → misfit ≡ here shape (get name d)
    same shape misfit is = is ∙ ap (λ there. here shape there) is_found

    pub field_found : (m longer : Misfit) → so_far → Found (Some m) → longer ≡ after_step (named name) m
        → Some longer ≡ fields_misfit (Of names of) d
    field_found m longer before found_here after =
        let at = item_of of i in_shapes in
        found_after (named name) (here at.0 (get name d)) later m longer (same at.0 (Some m) (found_here at.0 at.1)) after
        ∙ sym (before ∙ field_here at.0 at.1)

    pub field_passed : so_far → Found None → fields_misfit (Of names of) d ≡ later
    field_passed before found_here =
        let at = item_of of i in_shapes in
        before ∙ field_here at.0 at.1 ∙ passed_by (named name) (here at.0 (get name d)) later (same at.0 None (found_here at.0 at.1))

-- Whether shapes are of one form, field by field.
use Rattle.std.proofs.Common.{◌≡◌, ℕ, ◌+◌, ◌<◌, ◌≤◌, min, Bool, true, false, List, [], ◌∷◌, length, drop, Box, Global, refl, sym, ◌∙◌, arith}
use Rattle.std.specs.Bool.{Decides}
use Rattle.std.specs.Prelude.{◌&&◌, slice_index_or}
use Rattle.std.specs.Str.{bytes_eq}
use Rattle.std.proofs.lemmas.List.{get_or_default}
use Rattle.ar_value.specs.Shape.{Shape}
use Rattle.ar_value.specs.View.{shape_view}
use Rattle.ar_value.specs.declared.shape.Shape.{Shape as Shape_, List as ListShape}
use Rattle.ar_value.specs.Private.Same.{same_fields, same_shape}
use Rattle.ar_value.proofs.FieldLists.{Of, field_at, no_field_at}
use Rattle.ar_value.proofs.Same.{same_is}
use Rattle.ar_value.proofs.Views.{shape_view-list}
use Rattle.ar_verify.specs.Private.Forms.{field_forms, form}

pub decides : (left right : Shape) (alike : Bool) → alike ≡ same_shape (form left) (form right) → Decides alike (form left ≡ form right)
decides left right alike is = same_is (form left) (form right) alike is

-- whether fields are alike, as the code's types have them
abbrev pub AlikeFields : (names : List (List ℕ)) (shapes : List Shape_) (of : List (List ℕ)) (others : List Shape_) → Bool
AlikeFields names shapes of others = same_fields (field_forms (Of names shapes)) (field_forms (Of of others))

abbrev pub AlikeField : (name : List ℕ) (shape : Shape_) (of : List ℕ) (other : Shape_) → Bool
AlikeField name shape of other = bytes_eq name of && same_shape (form (shape_view shape)) (form (shape_view other))

neither : (a b : Bool) → false ≡ b → false ≡ (a && b)
neither true b h = h
neither false b h = refl

pub lengths_differ : (names : List (List ℕ)) (shapes : List Shape_) (of : List (List ℕ)) (others : List Shape_)
    → (min (length names) (length shapes) ≡ min (length of) (length others) → ⊥) → false ≡ AlikeFields names shapes of others
lengths_differ (n ∷ names) (s ∷ shapes) (o ∷ of) (r ∷ others) h = neither (AlikeField n s o r) (AlikeFields names shapes of others) (lengths_differ names shapes of others (λ e. h (omega (arith, e))))
lengths_differ [] shapes [] others h = absurd (h (omega arith))
lengths_differ [] shapes (o ∷ of) [] h = absurd (h (omega arith))
lengths_differ [] shapes (o ∷ of) (r ∷ others) h = refl
lengths_differ (n ∷ names) [] [] others h = absurd (h (omega arith))
lengths_differ (n ∷ names) [] (o ∷ of) [] h = absurd (h (omega arith))
lengths_differ (n ∷ names) [] (o ∷ of) (r ∷ others) h = refl
lengths_differ (n ∷ names) (s ∷ shapes) [] others h = refl
lengths_differ (n ∷ names) (s ∷ shapes) (o ∷ of) [] h = refl

pub next : (names : List (List ℕ)) (shapes : List Shape_) (of : List (List ℕ)) (others : List Shape_) (i : ℕ) (name other : List ℕ) (shape right : Shape_)
    → i < length names → i < length shapes → i < length of → i < length others
    → name ≡ slice_index_or names i name → shape ≡ slice_index_or shapes i shape → other ≡ slice_index_or of i other → right ≡ slice_index_or others i right
    → AlikeFields (drop i names) (drop i shapes) (drop i of) (drop i others) ≡ (AlikeField name shape other right && AlikeFields (drop (i + 1) names) (drop (i + 1) shapes) (drop (i + 1) of) (drop (i + 1) others))
next names shapes of others i name other shape right in_names in_shapes in_of in_others is_name is_shape is_other is_right =
    rw (field_at names shapes i name shape in_names in_shapes is_name is_shape, field_at of others i other right in_of in_others is_other is_right) refl

neither_first : (a b c : Bool) → a ≡ false → false ≡ ((a && b) && c)
neither_first a b c is = rw is refl

pub other_name : (names : List (List ℕ)) (shapes : List Shape_) (of : List (List ℕ)) (others : List Shape_) (i : ℕ) (name other : List ℕ) (all : Bool)
    → i < length names → i < length shapes → i < length of → i < length others
    → name ≡ slice_index_or names i name → other ≡ slice_index_or of i other → bytes_eq name other ≡ false
    → all ≡ AlikeFields (drop i names) (drop i shapes) (drop i of) (drop i others) → false ≡ all
other_name names (s ∷ shapes) of (r ∷ others) i name other all in_names in_shapes in_of in_others is_name is_other differs so_far =
    let shape = slice_index_or (s ∷ shapes) i s in
    let right = slice_index_or (r ∷ others) i r in
    sym (so_far ∙ next names (s ∷ shapes) of (r ∷ others) i name other shape right in_names in_shapes in_of in_others is_name (get_or_default (s ∷ shapes) i s shape in_shapes) is_other (get_or_default (r ∷ others) i r right in_others)
    ∙ sym (neither_first (bytes_eq name other) (same_shape (form (shape_view shape)) (form (shape_view right))) (AlikeFields (drop (i + 1) names) (drop (i + 1) (s ∷ shapes)) (drop (i + 1) of) (drop (i + 1) (r ∷ others))) differs))
other_name names [] of others i name other all in_names in_shapes in_of in_others is_name is_other differs so_far = absurd (omega (arith, in_shapes))
other_name names (s ∷ shapes) of [] i name other all in_names in_shapes in_of in_others is_name is_other differs so_far = absurd (omega (arith, in_others))

-- nothing is left
pub none_left : (names : List (List ℕ)) (shapes : List Shape_) (of : List (List ℕ)) (others : List Shape_) (i : ℕ)
    → min (length names) (length shapes) ≡ min (length of) (length others) → min (length names) (length shapes) ≤ i → true ≡ AlikeFields (drop i names) (drop i shapes) (drop i of) (drop i others)
none_left names shapes of others i same past = rw (no_field_at names shapes i past, no_field_at of others i (omega (arith, same, past))) refl

pub alike_lists : (item other : Box Shape_ Global) (m n : ℕ)
    → same_shape (form (shape_view (ListShape item m))) (form (shape_view (ListShape other n))) ≡ same_shape (form (shape_view item.value)) (form (shape_view other.value))
alike_lists item other m n = rw (shape_view-list item m, shape_view-list other n) refl

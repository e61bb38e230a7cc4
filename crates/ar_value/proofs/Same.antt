-- Shapes that are the same part by part are the same.
use Rattle.std.proofs.Common.{◌≡◌, ℕ, ◌+◌, ◌<◌, ◌≤◌, min, Bool, true, false, List, [], ◌∷◌, length, drop, Box, Global, refl, sym, ◌∙◌, ap, arith}
use Rattle.std.specs.Bool.{Decides}
use Rattle.std.specs.Prelude.{◌&&◌, ◌==◌, slice_index_or}
use Rattle.std.specs.Str.{bytes_eq}
use Rattle.std.proofs.lemmas.Bool.Decides.{Decides-eqb}
use Rattle.std.proofs.lemmas.List.{get_or_default}
use Rattle.std.proofs.lemmas.Slice.Eq.{bytes_eq-Decides}
use Rattle.ar_value.specs.Shape.{Shape, FieldShapes, bool, whole, decimal, text, list, object, optional, no_fields, field}
use Rattle.ar_value.specs.View.{shape_view}
use Rattle.ar_value.specs.declared.shape.Shape.{Shape as Shape_, List as ListShape}
use Rattle.ar_value.proofs.FieldLists.{Of, field_at, no_field_at}
use Rattle.ar_value.proofs.Views.{shape_view-list}
use Rattle.ar_value.specs.Private.Same.{same_fields, same_shape}

-- ---- the same part by part

both_hold : (a b : Bool) → (a && b) ≡ true → (a ≡ true) × (b ≡ true)
both_hold true b h = (refl, h)
both_hold false b h = absurd cc

both : (a b : Bool) → a ≡ true → b ≡ true → (a && b) ≡ true
both true b p q = q
both false b p q = p

mutual
  one_shape : (left right : Shape) → same_shape left right ≡ true → left ≡ right
  one_shape bool bool h = refl
  one_shape whole whole h = refl
  one_shape decimal decimal h = refl
  one_shape text text h = refl
  one_shape (list left m) (list right n) h =
      let parts = both_hold (m == n) (same_shape left right) h in
      rw (one_shape left right parts.1, (Decides-eqb m n).0 parts.0) refl
  one_shape (object left) (object right) h = ap object (one_record left right h)
  one_shape (optional left) (optional right) h = ap optional (one_shape left right h)
  one_shape left right h = absurd cc

  one_record : (left right : FieldShapes) → same_fields left right ≡ true → left ≡ right
  one_record no_fields no_fields h = refl
  one_record (field name left lefts) (field of right rights) h =
      let parts = both_hold (bytes_eq name of && same_shape left right) (same_fields lefts rights) h in
      let front = both_hold (bytes_eq name of) (same_shape left right) parts.0 in
      rw ((bytes_eq-Decides name of).0 front.0, one_shape left right front.1, one_record lefts rights parts.1) refl
  one_record left right h = absurd cc

mutual
  itself : (shape : Shape) → same_shape shape shape ≡ true
  itself bool = refl
  itself whole = refl
  itself decimal = refl
  itself text = refl
  itself (list shape max) = both (max == max) (same_shape shape shape) ((Decides-eqb max max).1 refl) (itself shape)
  itself (object fields) = record_itself fields
  itself (optional shape) = itself shape

  record_itself : (fields : FieldShapes) → same_fields fields fields ≡ true
  record_itself no_fields = refl
  record_itself (field name shape others) =
      both (bytes_eq name name && same_shape shape shape) (same_fields others others)
      (both (bytes_eq name name) (same_shape shape shape) ((bytes_eq-Decides name name).1 refl) (itself shape)) (record_itself others)

pub same_is : (left right : Shape) (is_same : Bool) → is_same ≡ same_shape left right → Decides is_same (left ≡ right)
same_is left right is_same is = rw is (one_shape left right, λ same. rw same (itself right))

-- ---- field by field

-- whether fields are the same, as the code's types have them
abbrev pub SameFields : (names : List (List ℕ)) (shapes : List Shape_) (of : List (List ℕ)) (others : List Shape_) → Bool
SameFields names shapes of others = same_fields (Of names shapes) (Of of others)

abbrev pub SameField : (name : List ℕ) (shape : Shape_) (of : List ℕ) (other : Shape_) → Bool
SameField name shape of other = bytes_eq name of && same_shape (shape_view shape) (shape_view other)

neither : (a b : Bool) → false ≡ b → false ≡ (a && b)
neither true b h = h
neither false b h = refl

pub lengths_differ : (names : List (List ℕ)) (shapes : List Shape_) (of : List (List ℕ)) (others : List Shape_)
    → (min (length names) (length shapes) ≡ min (length of) (length others) → ⊥) → false ≡ SameFields names shapes of others
lengths_differ (n ∷ names) (s ∷ shapes) (o ∷ of) (r ∷ others) h = neither (SameField n s o r) (SameFields names shapes of others) (lengths_differ names shapes of others (λ e. h (omega (arith, e))))
lengths_differ [] shapes [] others h = absurd (h (omega arith))
lengths_differ [] shapes (o ∷ of) [] h = absurd (h (omega arith))
lengths_differ [] shapes (o ∷ of) (r ∷ others) h = refl
lengths_differ (n ∷ names) [] [] others h = absurd (h (omega arith))
lengths_differ (n ∷ names) [] (o ∷ of) [] h = absurd (h (omega arith))
lengths_differ (n ∷ names) [] (o ∷ of) (r ∷ others) h = refl
lengths_differ (n ∷ names) (s ∷ shapes) [] others h = refl
lengths_differ (n ∷ names) (s ∷ shapes) (o ∷ of) [] h = refl

pub next : (names : List (List ℕ)) (shapes : List Shape_) (of : List (List ℕ)) (others : List Shape_) (i : ℕ) (name other : List ℕ) (shape right : Shape_)
    → i < length names → i < length shapes → i < length of → i < length others
    → name ≡ slice_index_or names i name → shape ≡ slice_index_or shapes i shape → other ≡ slice_index_or of i other → right ≡ slice_index_or others i right
    → SameFields (drop i names) (drop i shapes) (drop i of) (drop i others) ≡ (SameField name shape other right && SameFields (drop (i + 1) names) (drop (i + 1) shapes) (drop (i + 1) of) (drop (i + 1) others))
next names shapes of others i name other shape right in_names in_shapes in_of in_others is_name is_shape is_other is_right =
    rw (field_at names shapes i name shape in_names in_shapes is_name is_shape, field_at of others i other right in_of in_others is_other is_right) refl

neither_first : (a b c : Bool) → a ≡ false → false ≡ ((a && b) && c)
neither_first a b c is = rw is refl

pub other_name : (names : List (List ℕ)) (shapes : List Shape_) (of : List (List ℕ)) (others : List Shape_) (i : ℕ) (name other : List ℕ) (all : Bool)
    → i < length names → i < length shapes → i < length of → i < length others
    → name ≡ slice_index_or names i name → other ≡ slice_index_or of i other → bytes_eq name other ≡ false
    → all ≡ SameFields (drop i names) (drop i shapes) (drop i of) (drop i others) → false ≡ all
other_name names (s ∷ shapes) of (r ∷ others) i name other all in_names in_shapes in_of in_others is_name is_other differs so_far =
    let shape = slice_index_or (s ∷ shapes) i s in
    let right = slice_index_or (r ∷ others) i r in
    sym (so_far ∙ next names (s ∷ shapes) of (r ∷ others) i name other shape right in_names in_shapes in_of in_others is_name (get_or_default (s ∷ shapes) i s shape in_shapes) is_other (get_or_default (r ∷ others) i r right in_others)
    ∙ sym (neither_first (bytes_eq name other) (same_shape (shape_view shape) (shape_view right)) (SameFields (drop (i + 1) names) (drop (i + 1) (s ∷ shapes)) (drop (i + 1) of) (drop (i + 1) (r ∷ others))) differs))
other_name names [] of others i name other all in_names in_shapes in_of in_others is_name is_other differs so_far = absurd (omega (arith, in_shapes))
other_name names (s ∷ shapes) of [] i name other all in_names in_shapes in_of in_others is_name is_other differs so_far = absurd (omega (arith, in_others))

-- nothing is left
pub none_left : (names : List (List ℕ)) (shapes : List Shape_) (of : List (List ℕ)) (others : List Shape_) (i : ℕ)
    → min (length names) (length shapes) ≡ min (length of) (length others) → min (length names) (length shapes) ≤ i → true ≡ SameFields (drop i names) (drop i shapes) (drop i of) (drop i others)
none_left names shapes of others i same past = rw (no_field_at names shapes i past, no_field_at of others i (omega (arith, same, past))) refl

pub same_lists : (item other : Box Shape_ Global) (m n : ℕ)
    → same_shape (shape_view (ListShape item m)) (shape_view (ListShape other n)) ≡ ((m == n) && same_shape (shape_view item.value) (shape_view other.value))
same_lists item other m n = rw (shape_view-list item m, shape_view-list other n) refl

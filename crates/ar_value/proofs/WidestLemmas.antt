-- The widest of two shapes, field by field.
use Rattle.std.proofs.Common.{◌≡◌, Box, Global, min, max, take, ℕ, ◌+◌, ◌<◌, ◌≤◌, Bool, true, false, List, [], ◌∷◌, ◌++◌, length, map, drop, Option, Some, None, option_map, refl, sym, ◌∙◌, ap, arith, length-take-le}
use Rattle.std.specs.Prelude.{slice_index_or}
use Rattle.std.specs.Str.{bytes_eq}
use Rattle.std.proofs.lemmas.List.{take_more, length-map, map-append, get_or_default}
use Rattle.ar_value.specs.Kind.{joined_field, widest, widest_fields}
use Rattle.ar_value.specs.Shape.{Shape, FieldShapes, field_shapes_of, list, object}
use Rattle.ar_value.specs.View.{shape_view, field_shapes_view}
use Rattle.ar_value.specs.declared.shape.FieldShapes.{FieldShapes as FieldShapesCode, out-FieldShapes}
use Rattle.ar_value.specs.declared.shape.Shape.{Shape as Shape_, List as ListShape, Object as ObjectShape}
use Rattle.ar_value.proofs.FieldLists.{Of, field_at, no_field_at, onto, onto_more, onto_take}
use Rattle.ar_value.proofs.Views.{shape_view-list, shape_view-object, field_shapes_view-of}

-- the widest of two runs of fields, as the code's types have them
abbrev pub Widest : List (List ℕ) → List Shape_ → List (List ℕ) → List Shape_ → Option FieldShapes
Widest names left of right = widest_fields (Of names left) (Of of right)

-- fields that were joined, before what the rest gives
abbrev pub Joined_before : List (List ℕ) → List Shape_ → Option FieldShapes → Option FieldShapes
Joined_before names done rest = option_map (λ fields. onto names (map shape_view done) fields) rest

lacks_rest : (same : Bool) (name : List ℕ) (shape : Option Shape) → None ≡ joined_field same name shape None
lacks_rest true name (Some shape) = refl
lacks_rest true name None = refl
lacks_rest false name shape = refl

lacks_shape : (same : Bool) (name : List ℕ) (rest : Option FieldShapes) → None ≡ joined_field same name None rest
lacks_shape true name rest = refl
lacks_shape false name rest = refl

pub lengths_differ : (names : List (List ℕ)) (left : List Shape_) (of : List (List ℕ)) (right : List Shape_)
    → (min (length names) (length left) ≡ min (length of) (length right) → ⊥) → None ≡ Widest names left of right
lengths_differ (n ∷ names) (l ∷ left) (o ∷ of) (r ∷ right) h =
    lacks_rest (bytes_eq n o) n (widest (shape_view l) (shape_view r))
    ∙ ap (joined_field (bytes_eq n o) n (widest (shape_view l) (shape_view r))) (lengths_differ names left of right (λ e. h (omega (arith, e))))
lengths_differ [] left [] right h = absurd (h (omega arith))
lengths_differ [] left (o ∷ of) [] h = absurd (h (omega arith))
lengths_differ [] left (o ∷ of) (r ∷ right) h = refl
lengths_differ (n ∷ names) [] [] right h = absurd (h (omega arith))
lengths_differ (n ∷ names) [] (o ∷ of) [] h = absurd (h (omega arith))
lengths_differ (n ∷ names) [] (o ∷ of) (r ∷ right) h = refl
lengths_differ (n ∷ names) (l ∷ left) [] right h = refl
lengths_differ (n ∷ names) (l ∷ left) (o ∷ of) [] h = refl

module _ (names : List (List ℕ)) (left : List Shape_) (of : List (List ℕ)) (right : List Shape_) (i : ℕ) (name other : List ℕ) (l r : Shape_) (in_names : i < length names) (in_left : i < length left) (in_of : i < length of) (in_right : i < length right)
    (is_name : name ≡ slice_index_or names i name) (is_left : l ≡ slice_index_or left i l) (is_other : other ≡ slice_index_or of i other) (is_right : r ≡ slice_index_or right i r) where
  abbrev rest : Option FieldShapes
  rest = Widest (drop (i + 1) names) (drop (i + 1) left) (drop (i + 1) of) (drop (i + 1) right)

  at : Widest (drop i names) (drop i left) (drop i of) (drop i right) ≡ joined_field (bytes_eq name other) name (widest (shape_view l) (shape_view r)) rest
  at = rw (field_at names left i name l in_names in_left is_name is_left, field_at of right i other r in_of in_right is_other is_right) refl

  joined_more : (done : List Shape_) (w : Shape_) (rest : Option FieldShapes) → length done ≡ i
      → Joined_before (take i names) done (joined_field true name (Some (shape_view w)) rest) ≡ Joined_before (take (i + 1) names) (done ++ w ∷ []) rest
  joined_more done w None long = refl
  joined_more done w (Some fields) long =
      ap (λ (fs : FieldShapes). Some fs)
      (onto_more (take i names) (map shape_view done) name (shape_view w) fields (length-take-le i names (omega (arith, in_names)) ∙ sym long ∙ sym (length-map done shape_view))
      ∙ sym (rw (take_more names i name in_names, ← is_name, map-append shape_view done (w ∷ [])) refl))

  pub next_field : (done : List Shape_) (w : Shape_) (all : Option FieldShapes) → length done ≡ i → all ≡ Joined_before (take i names) done (Widest (drop i names) (drop i left) (drop i of) (drop i right))
      → bytes_eq name other ≡ true → Some (shape_view w) ≡ widest (shape_view l) (shape_view r)
      → all ≡ Joined_before (take (i + 1) names) (done ++ w ∷ []) (Widest (drop (i + 1) names) (drop (i + 1) left) (drop (i + 1) of) (drop (i + 1) right))
  next_field done w all long before same is_w = before ∙ ap (Joined_before (take i names) done) (at ∙ rw (same, ← is_w) refl) ∙ joined_more done w rest long

  pub no_shape : (done : List Shape_) (found : Option Shape_) (all : Option FieldShapes) → all ≡ Joined_before (take i names) done (Widest (drop i names) (drop i left) (drop i of) (drop i right))
      → option_map shape_view found ≡ widest (shape_view l) (shape_view r) → found ≡ None → None ≡ all
  no_shape done found all before is_found none =
      sym (before ∙ ap (Joined_before (take i names) done) (at ∙ ap (λ shape. joined_field (bytes_eq name other) name shape rest) (sym is_found ∙ ap (option_map shape_view) none) ∙ sym (lacks_shape (bytes_eq name other) name rest)))

pub other_name : (names : List (List ℕ)) (left : List Shape_) (of : List (List ℕ)) (right : List Shape_) (i : ℕ) (name other : List ℕ)
    → i < length names → i < length left → i < length of → i < length right → name ≡ slice_index_or names i name → other ≡ slice_index_or of i other
    → (done : List Shape_) (all : Option FieldShapes) → all ≡ Joined_before (take i names) done (Widest (drop i names) (drop i left) (drop i of) (drop i right))
    → bytes_eq name other ≡ false → None ≡ all
other_name names (l ∷ left) of (r ∷ right) i name other in_names in_left in_of in_right is_name is_other done all before differs =
    let one = slice_index_or (l ∷ left) i l in
    let two = slice_index_or (r ∷ right) i r in
    sym (before ∙ ap (Joined_before (take i names) done)
    (at names (l ∷ left) of (r ∷ right) i name other one two in_names in_left in_of in_right is_name (get_or_default (l ∷ left) i l one in_left) is_other (get_or_default (r ∷ right) i r two in_right)
    ∙ apart (bytes_eq name other) (widest (shape_view one) (shape_view two)) (Widest (drop (i + 1) names) (drop (i + 1) (l ∷ left)) (drop (i + 1) of) (drop (i + 1) (r ∷ right))) differs))
  where
    apart : (same : Bool) (shape : Option Shape) (rest : Option FieldShapes) → same ≡ false → joined_field same name shape rest ≡ None
    apart same shape rest is = rw is refl
other_name names [] of right i name other in_names in_left in_of in_right is_name is_other done all before differs = absurd (omega (arith, in_left))
other_name names (l ∷ left) of [] i name other in_names in_left in_of in_right is_name is_other done all before differs = absurd (omega (arith, in_right))

pub no_field_left : (names : List (List ℕ)) (left : List Shape_) (of : List (List ℕ)) (right : List Shape_) (i : ℕ) (done : List Shape_) (all : Option FieldShapes)
    → min (length names) (length left) ≡ min (length of) (length right) → min (length names) (length left) ≤ i → length done ≡ i
    → all ≡ Joined_before (take i names) done (Widest (drop i names) (drop i left) (drop i of) (drop i right))
    → Some (field_shapes_of names (map shape_view done)) ≡ all
no_field_left names left of right i done all same past long before =
    sym (before ∙ rw (no_field_at names left i past, no_field_at of right i (omega (arith, same, past)), ← long, ← length-map done shape_view) (ap (λ (fs : FieldShapes). Some fs) (onto_take names (map shape_view done))))

-- the widest of two lists
pub widest_lists : (item other : Box Shape_ Global) (m n : ℕ)
    → widest (shape_view (ListShape item m)) (shape_view (ListShape other n)) ≡ option_map (λ shape. list shape (max m n)) (widest (shape_view item.value) (shape_view other.value))
widest_lists item other m n = rw (shape_view-list item m, shape_view-list other n) refl

-- the widest of two records
pub object_widest : (left right fields : FieldShapesCode) (names of : List (List ℕ)) (lefts rights : List Shape_) → (out-FieldShapes fields).names ≡ (out-FieldShapes left).names
    → names ≡ (out-FieldShapes left).names → of ≡ (out-FieldShapes right).names → lefts ≡ (out-FieldShapes left).shapes.items → rights ≡ (out-FieldShapes right).shapes.items
    → Some (field_shapes_of names (map shape_view (out-FieldShapes fields).shapes.items)) ≡ Widest names lefts of rights
    → Some (shape_view (ObjectShape fields)) ≡ option_map object (widest_fields (field_shapes_view left) (field_shapes_view right))
object_widest left right fields names of lefts rights same is_names is_of is_lefts is_rights is =
    rw (shape_view-object fields, field_shapes_view-of fields, field_shapes_view-of left, field_shapes_view-of right, same, ← is_names, ← is_of, ← is_lefts, ← is_rights) (ap (option_map object) is)

-- What a shape needs, field by field.
use Rattle.std.proofs.Common.{◌≡◌, ℕ, zero, suc, ◌+◌, ◌<◌, ◌≤◌, min, Bool, true, false, List, [], ◌∷◌, ◌++◌, length, map, drop, take, refl, sym, ◌∙◌, ap, arith, add-one}
use Rattle.std.specs.Prelude.{if◌then◌else◌, slice_index_or}
use Rattle.std.proofs.lemmas.List.{append-nil, append_assoc, map-append}
use Rattle.ar_value.specs.Kind.{is_optional}
use Rattle.ar_value.specs.Shape.{FieldShapes}
use Rattle.ar_value.specs.Shape as shapes
use Rattle.ar_value.specs.View.{shape_view}
use Rattle.ar_value.specs.declared.shape.Shape.{Shape as ShapeCode}
use Rattle.ar_value.proofs.FieldLists.{Of, field_at, no_field_at}
use Rattle.ar_json.proofs.ReadLemmas.{first_names}
use Rattle.ar_json.specs.Private.Needs.{AreNeedsAt, Needs, Inner, no_more, more, inner_of, inner_needs, needs_of, needs_view, required_in}
use Rattle.ar_json.specs.declared.needs.Needs.{Needs as NeedsCode}

-- an item that is there
pub there : {X : Type 0} (xs : List X) (i : ℕ) → i < length xs → (x : X) × (x ≡ slice_index_or xs i x)
there [] i within = absurd (omega (arith, within))
there (x ∷ xs) zero within = (x, refl)
there (x ∷ xs) (suc i) within = there xs i (omega (arith, within))

-- what the examined fields need, before what the others need
abbrev pub inner_onto : List Needs → Inner → Inner
inner_onto [] rest = rest
inner_onto (needs ∷ others) rest = more needs (inner_onto others rest)

onto_none : (done : List Needs) → inner_onto done no_more ≡ inner_of done
onto_none [] = refl
onto_none (needs ∷ done) = ap (more needs) (onto_none done)

onto_one : (done : List Needs) (needs : Needs) (rest : Inner) → inner_onto done (more needs rest) ≡ inner_onto (done ++ needs ∷ []) rest
onto_one [] needs rest = refl
onto_one (first ∷ done) needs rest = ap (more first) (onto_one done needs rest)

-- the first fields were examined
abbrev pub Inner_before : List (List ℕ) → List ShapeCode → ℕ → List NeedsCode → Type 0
Inner_before names of index done = inner_needs (Of names of) ≡ inner_onto (map needs_view done) (inner_needs (Of (drop index names) (drop index of)))

abbrev pub Required_before : List (List ℕ) → List ShapeCode → ℕ → List ℕ → Type 0
Required_before names of index done = required_in 0 (Of names of) ≡ done ++ required_in index (Of (drop index names) (drop index of))

pub no_inner : (names : List (List ℕ)) (of : List ShapeCode) (done : List NeedsCode) → done ≡ [] → Inner_before names of 0 done
no_inner names of done is = rw is refl

pub none_required : (names : List (List ℕ)) (of : List ShapeCode) (done : List ℕ) → done ≡ [] → Required_before names of 0 done
none_required names of done is = rw is refl

-- one field more

module _ (names : List (List ℕ)) (of : List ShapeCode) (index : ℕ) (shape : ShapeCode) (in_names : index < length names) (in_shapes : index < length of) (is_shape : shape ≡ slice_index_or of index shape) where
  abbrev later : FieldShapes
  later = Of (drop (index + 1) names) (drop (index + 1) of)

  -- the field at the index is the first of those that are left
  front : (name : List ℕ) × (Of (drop index names) (drop index of) ≡ shapes.field name (shape_view shape) later)
  front = let name = there names index in_names in (name.0, field_at names of index name.0 shape in_names in_shapes name.1 is_shape)

  pub next_inner : (done : List NeedsCode) (needs : NeedsCode) → Inner_before names of index done → needs_view needs ≡ needs_of (shape_view shape) → Inner_before names of (index + 1) (done ++ needs ∷ [])
  next_inner done needs before is =
      before ∙ ap (λ fields. inner_onto (map needs_view done) (inner_needs fields)) front.1
      ∙ rw (map-append needs_view done (needs ∷ []), is) (onto_one (map needs_view done) (needs_of (shape_view shape)) (inner_needs later))

  pub required_here : (optional : Bool) → is_optional (shape_view shape) ≡ optional
      → required_in index (Of (drop index names) (drop index of)) ≡ (if optional then required_in (index + 1) later else index ∷ required_in (index + 1) later)
  required_here optional is = rw (front.1, is, add-one) refl

  pub next_optional : (done : List ℕ) → Required_before names of index done → is_optional (shape_view shape) ≡ true → Required_before names of (index + 1) done
  next_optional done before is = before ∙ ap (λ rest. done ++ rest) (required_here true is)

  pub next_required : (done : List ℕ) → Required_before names of index done → is_optional (shape_view shape) ≡ false → Required_before names of (index + 1) (done ++ index ∷ [])
  next_required done before is = before ∙ ap (λ rest. done ++ rest) (required_here false is) ∙ sym (append_assoc done (index ∷ []) (required_in (index + 1) later))

-- no field is left

pub inner_done : (names : List (List ℕ)) (of : List ShapeCode) (index : ℕ) (done : List NeedsCode) → min (length names) (length of) ≤ index → Inner_before names of index done
    → inner_of (map needs_view done) ≡ inner_needs (Of names of)
inner_done names of index done past before = sym (before ∙ rw (no_field_at names of index past) (onto_none (map needs_view done)))

pub required_done : (names : List (List ℕ)) (of : List ShapeCode) (index : ℕ) (done : List ℕ) → min (length names) (length of) ≤ index → Required_before names of index done
    → done ≡ required_in 0 (Of names of)
required_done names of index done past before = sym (before ∙ rw (no_field_at names of index past) (append-nil done))

-- at each index are a shape and its needs
pub needs_at : (names : List (List ℕ)) (of : List ShapeCode) (inner : List NeedsCode) (index : ℕ) → length names ≤ length of → index < length names → inner_of (map needs_view inner) ≡ inner_needs (Of names of) → AreNeedsAt of inner index
needs_at [] of inner index long within is = absurd (omega (arith, within))
needs_at (name ∷ names) [] inner index long within is = absurd (omega (arith, long))
needs_at (name ∷ names) (shape ∷ of) [] index long within is = absurd (cc)
needs_at (name ∷ names) (shape ∷ of) (needs ∷ inner) zero long within is =
    (omega arith, omega arith, λ s n is_shape is_needs. let first : needs_view needs ≡ needs_of (shape_view shape) = cc in rw (is_shape, is_needs) first)
needs_at (name ∷ names) (shape ∷ of) (needs ∷ inner) (suc index) long within is =
    let rest : inner_of (map needs_view inner) ≡ inner_needs (Of names of) = cc in
    let at = needs_at names of inner index (omega (arith, long)) (omega (arith, within)) rest in
    (omega (arith, at.0), omega (arith, at.1), at.2)

-- names past the shapes need nothing
pub first_need : (names of_names : List (List ℕ)) (of : List ShapeCode) (needs : Needs) → names ≡ take (length of) of_names → needs ≡ needs_of (shapes.object (Of of_names of)) → needs ≡ needs_of (shapes.object (Of names of))
first_need names of_names of needs first is = is ∙ sym (ap (λ fs. needs_of (shapes.object fs)) (ap (λ ns. Of ns of) first ∙ first_names of_names of))

pub not_longer : (names of_names : List (List ℕ)) (of : List ShapeCode) → names ≡ take (length of) of_names → length names ≤ length of
not_longer names of_names of first = rw first (taken of_names of)
  where
    taken : (of_names : List (List ℕ)) (of : List ShapeCode) → length (take (length of) of_names) ≤ length of
    taken of_names [] = omega arith
    taken [] (shape ∷ of) = omega arith
    taken (name ∷ names) (shape ∷ of) = let rest = taken names of in omega (arith, rest)

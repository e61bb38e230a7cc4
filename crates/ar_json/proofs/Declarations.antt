-- Shapes declared level by level, and a record's field by field.
use Rattle.std.proofs.Common.{◌≡◌, ℕ, zero, suc, ◌-◌, true, List, [], ◌∷◌, ◌++◌, length, map, sym, String, Global, string_bytes, Result, Ok, Err, refl, ◌∙◌, ap, rules}
use native.Mathlib.Numerals.{unary_clauses}
use Rattle.serde_json.specs.Data.{Data, Members, null, boolean, number, string, array, object}
use Rattle.serde_json.specs.View.{view, members_view}
use Rattle.serde_json.specs.declared.value.Value.{Value as Json, String as JsonString, the_lemmas}
use Rattle.ar_value.specs.Answer.{◌>>=◌, Gives, Unless}
use Rattle.ar_json.specs.Declaration.{fields_declared, is_shape_memory, is_memory_for, object_declared, scalar_named, shape_within}
use Rattle.ar_json.specs.Names.{member_names}
use Rattle.ar_value.specs.Shape.{Shape, FieldShapes, field_shapes_of, field}
use Rattle.ar_value.specs.Shape as shapes
use Rattle.ar_value.specs.View.{shape_view}
use Rattle.ar_value.specs.declared.shape.Shape.{Shape as ShapeCode, Object as ObjectShape}
use Rattle.ar_value.specs.declared.shape.FieldShapes.{FieldShapes as FieldShapesCode, out-FieldShapes}
use Rattle.ar_json.specs.declared.shape_reading.ShapeError.{ShapeError}
use Rattle.std.proofs.lemmas.List.{append-nil, append_assoc, length-map, length_push, map-append}
use Rattle.ar_value.proofs.Answers.{gives_more}
use Rattle.ar_value.proofs.FieldLists.{onto, onto_more, onto_none}
use Rattle.ar_value.proofs.Views.{shape_view-object, field_shapes_view-of}
use Rattle.ar_json.proofs.ReadLemmas.{leads}

pub view-string : (name : String Global) → view (JsonString name) ≡ string (string_bytes name)
view-string name = search (rules, the_lemmas)

pub scalar_level : (levels : ℕ) (name : List ℕ) → (levels ≡ 0 → ⊥) → shape_within levels (string name) ≡ scalar_named name
scalar_level zero name h = absurd (h refl)
scalar_level (suc levels) name h = refl

pub object_level : (levels : ℕ) (given : Members) → (levels ≡ 0 → ⊥) → shape_within levels (object given) ≡ object_declared (shape_within (levels - 1)) given
object_level zero given h = absurd (h refl)
object_level (suc levels) given h = simp unary_clauses refl

-- what may be out of memory for some JSON is out of memory
pub for_is_memory : (d : Data) (e : ShapeError) → is_memory_for d e ≡ true → is_shape_memory e ≡ true
for_is_memory null e h = absurd (cc)
for_is_memory (boolean b) e h = absurd (cc)
for_is_memory (number n) e h = absurd (cc)
for_is_memory (string bytes) e h = absurd (cc)
for_is_memory (array items) e h = absurd (cc)
for_is_memory (object given) e h = h

pub gives_any : (d : Data) (r : Result ShapeCode ShapeError) (answer : Result Shape ShapeError) → Gives (is_memory_for d) shape_view r answer → Gives is_shape_memory shape_view r answer
gives_any d r answer h = gives_more (is_memory_for d) is_shape_memory shape_view r answer (for_is_memory d) h

abbrev pub Entry : Type 0
Entry = String Global × Json

-- a refusal of the first step is one of both
pub failed : {A B E : Type 0} (first : Result A E) (second : A → Result B E) (e : E) → first ≡ Err e → (first >>= second) ≡ Err e
failed first second e is = rw is refl

-- shapes that were read, before what is read of the rest
abbrev pub Shapes_before : List (List ℕ) → List ShapeCode → Result FieldShapes ShapeError → Result FieldShapes ShapeError
Shapes_before names done rest = rest >>= λ fields. Ok (onto names (map shape_view done) fields)

-- the shapes of the first members were read, and now come these
abbrev pub Declared : (Data → Result Shape ShapeError) → (all now : List Entry) → List ShapeCode → Type 0
Declared R all now done =
    (names : List (List ℕ)) × (names ++ member_names (members_view now) ≡ member_names (members_view all)) × (length names ≡ length done)
    × (fields_declared R (members_view all) ≡ Shapes_before names done (fields_declared R (members_view now)))

pub none_declared : (R : Data → Result Shape ShapeError) (all now : List Entry) (done : List ShapeCode) → now ≡ all → done ≡ [] → Declared R all now done
none_declared R all now done is no_shape = rw (is, no_shape) ([], refl, refl, unchanged (fields_declared R (members_view all)))
  where
    unchanged : (rest : Result FieldShapes ShapeError) → rest ≡ Shapes_before [] [] rest
    unchanged (Ok all) = refl
    unchanged (Err e) = refl

module _ (R : Data → Result Shape ShapeError) (all now left : List Entry) (done : List ShapeCode) (name : String Global) (json : Json) (is : now ≡ (name, json) ∷ left) where
  front : fields_declared R (members_view now) ≡ (R (view json) >>= λ shape. fields_declared R (members_view left) >>= λ fields. Ok (field (string_bytes name) shape fields))
  front = rw is refl

  moved : (names : List (List ℕ)) (s : ShapeCode) (rest : Result FieldShapes ShapeError) → length names ≡ length done
      → Shapes_before names done (rest >>= λ fields. Ok (field (string_bytes name) (shape_view s) fields)) ≡ Shapes_before (names ++ string_bytes name ∷ []) (done ++ s ∷ []) rest
  moved names s (Err e) long = refl
  moved names s (Ok fields) long =
      ap (λ (fs : FieldShapes). Ok fs)
      (onto_more names (map shape_view done) (string_bytes name) (shape_view s) fields (long ∙ sym (length-map done shape_view))
      ∙ sym (rw (map-append shape_view done (s ∷ [])) refl))

  pub next_shape : (s : ShapeCode) → Declared R all now done → R (view json) ≡ Ok (shape_view s) → Declared R all left (done ++ s ∷ [])
  next_shape s before shape =
      let names = before.0 in (
        names ++ string_bytes name ∷ [],
        append_assoc names (string_bytes name ∷ []) (member_names (members_view left)) ∙ (rw is at before.1),
        rw (length_push, length_push, before.2) refl,
        before.3 ∙ ap (Shapes_before names done) (front ∙ rw shape refl) ∙ moved names s (fields_declared R (members_view left)) before.2,
      )

  pub shape_fails : (error : ShapeError) → Declared R all now done → Unless (is_shape_memory error) (R (view json) ≡ Err error) → Unless (is_shape_memory error) (fields_declared R (members_view all) ≡ Err error)
  shape_fails error before fails =
      leads (is_shape_memory error) (λ (h : R (view json) ≡ Err error). before.3 ∙ ap (Shapes_before before.0 done) (front ∙ failed (R (view json)) _ error h)) fails

pub no_shape_left : (R : Data → Result Shape ShapeError) (all now : List Entry) (done : List ShapeCode) → now ≡ [] → Declared R all now done
    → fields_declared R (members_view all) ≡ Ok (field_shapes_of (member_names (members_view all)) (map shape_view done))
no_shape_left R all now done is before =
    let names : before.0 ≡ member_names (members_view all) = sym (append-nil before.0) ∙ (rw is at before.1) in
    before.3 ∙ rw is (ap (λ (fs : FieldShapes). Ok fs) (onto_none before.0 (map shape_view done) ∙ ap (λ ns. field_shapes_of ns (map shape_view done)) names))

-- a record of names and shapes
pub record_view : (fields : FieldShapesCode) (names : List (List ℕ)) → (out-FieldShapes fields).names ≡ names → shape_view (ObjectShape fields) ≡ shapes.object (field_shapes_of names (map shape_view (out-FieldShapes fields).shapes.items))
record_view fields names is = rw (shape_view-object fields, field_shapes_view-of fields, is) refl

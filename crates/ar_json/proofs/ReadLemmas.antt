-- Reading, item by item and field by field.
use Rattle.std.proofs.Common.{◌≡◌, All, Box, Global, ℕ, zero, suc, ◌+◌, ◌<◌, ◌≤◌, Bool, true, false, List, [], ◌∷◌, ◌++◌, length, length-take-le, map, drop, take, Result, Ok, Err, refl, sym, ◌∙◌, ap, arith, drop-cons, add-one, subst}
use Rattle.std.specs.Prelude.{◌==◌, if◌then◌else◌, slice_index_or}
use Rattle.std.proofs.lemmas.Bool.Decides.{Decides-eqb, nat_tests}
use Rattle.std.proofs.Math.ListN.{drop_of_length-le}
use Rattle.serde_json.specs.Data as json
use Rattle.serde_json.specs.Data.{Data}
use Rattle.serde_json.specs.Find.{get_member}
use Rattle.serde_json.specs.View.{view, items_view}
use Rattle.serde_json.specs.declared.value.Value.{Value as Json}
use Rattle.ar_value.specs.Answer.{◌>>=◌, Gives, Unless}
use Rattle.ar_json.specs.Reading.{read, items_read, list_read, fields_read, field_read, item_count, is_reading_memory, is_memory_under}
use Rattle.ar_value.specs.Shape.{Shape}
use Rattle.ar_value.specs.Shape as shapes
use Rattle.ar_value.specs.Value.{Value, Items, Fields, items_of, fields_from, value_at, nil, no_items, item, no_fields, field, list, object}
use Rattle.ar_value.specs.View.{shape_view, value_view}
use Rattle.ar_value.specs.declared.shape.Shape.{Shape as ShapeCode}
use Rattle.ar_value.specs.declared.value.Value.{Value as ValueCode, Object as ObjectValue}
use Rattle.ar_value.specs.declared.value.Fields.{Fields as FieldsCode, out-Fields}
use Rattle.ar_json.specs.declared.value_reading.ShapeFault.{ShapeFault}
use Rattle.ar_json.specs.declared.value_reading.ShapeFault.TheVariants.{ListTooLong}
use Rattle.std.proofs.lemmas.List.Elements.{All-push}
use Rattle.std.proofs.lemmas.List.{length-map, length_push, map-append, take_all, take_more}
use Rattle.ar_value.proofs.Answers.{gives_more, unless_more}
use Rattle.ar_value.proofs.FieldLists.{Of, field_at, no_field_at}
use Rattle.ar_value.proofs.Views.{fields_view-from, value_view-object}

-- a refusal of the first step is one of both
failed : {A B E : Type 0} (first : Result A E) (second : A → Result B E) (e : E) → first ≡ Err e → (first >>= second) ≡ Err e
failed first second e is = rw is refl

-- a refusal, where what was defined is refused with it
pub leads : {P Q : Type 0} (m : Bool) → (P → Q) → Unless m P → Unless m Q
leads true f h = tt
leads false f h = f h

-- what may be out of memory under a shape is out of memory
pub under_is_memory : (shape : Shape) (e : ShapeFault) → is_memory_under shape e ≡ true → is_reading_memory e ≡ true
under_is_memory shapes.bool e h = absurd (cc)
under_is_memory shapes.whole e h = absurd (cc)
under_is_memory shapes.decimal e h = absurd (cc)
under_is_memory shapes.text e h = h
under_is_memory (shapes.list shape max) e h = h
under_is_memory (shapes.object of) e h = h
under_is_memory (shapes.optional shape) e h = under_is_memory shape e h

item_same : {X : Type 0} (xs : List X) (i : ℕ) (x y : X) → i < length xs → x ≡ slice_index_or xs i x → y ≡ slice_index_or xs i y → x ≡ y
item_same [] i x y within is_x is_y = absurd (omega (arith, within))
item_same (first ∷ xs) zero x y within is_x is_y = is_x ∙ sym is_y
item_same (first ∷ xs) (suc i) x y within is_x is_y = item_same xs i x y (omega (arith, within)) is_x is_y

-- what is read under the shape at an index
pub nth_gives : (of : List ShapeCode) (index : ℕ) (at shape : ShapeCode) (d : Data) (r : Result ValueCode ShapeFault) → index < length of → at ≡ slice_index_or of index at → shape ≡ slice_index_or of index shape
    → Gives (is_memory_under (shape_view at)) value_view r (read (shape_view at) d) → Gives is_reading_memory value_view r (read (shape_view shape) d)
nth_gives of index at shape d r within is_at is_shape given =
    subst (λ s. Gives is_reading_memory value_view r (read (shape_view s) d)) (item_same of index at shape within is_at is_shape)
    (gives_more (is_memory_under (shape_view at)) is_reading_memory value_view r (read (shape_view at) d) (under_is_memory (shape_view at)) given)

-- Items that were read, before what is read of the rest.

abbrev pub Items_before : List Value → Result Items ShapeFault → Result Items ShapeFault
Items_before [] rest = rest
Items_before (value ∷ values) rest = Items_before values rest >>= λ items. Ok (item value items)

before_err : (done : List Value) (e : ShapeFault) → Items_before done (Err e) ≡ Err e
before_err [] e = refl
before_err (value ∷ values) e = rw (before_err values e) refl

before_none : (done : List Value) → Items_before done (Ok no_items) ≡ Ok (items_of done)
before_none [] = refl
before_none (value ∷ values) = rw (before_none values) refl

before_one : (done : List ValueCode) (v : ValueCode) (rest : Result Items ShapeFault)
    → Items_before (map value_view done) (rest >>= λ items. Ok (item (value_view v) items)) ≡ Items_before (map value_view (done ++ v ∷ [])) rest
before_one [] v rest = refl
before_one (d ∷ done) v rest = rw (before_one done v rest) refl

front : (R : Data → Result Value ShapeFault) (json rest : List Json) (x : Json) → json ≡ x ∷ rest
    → items_read R (items_view json) ≡ (R (view x) >>= λ value. items_read R (items_view rest) >>= λ items. Ok (item value items))
front R json rest x e = rw e refl

at : (R : Data → Result Value ShapeFault) (json : List Json) (i : ℕ) (x : Json) → i < length json → x ≡ slice_index_or json i x
    → items_read R (items_view (drop i json)) ≡ (R (view x) >>= λ value. items_read R (items_view (drop (i + 1) json)) >>= λ items. Ok (item value items))
at R json i x inside is_x = rw add-one (front R (drop i json) (drop (suc i) json) x (drop-cons json i x inside ∙ ap (λ y. y ∷ drop (suc i) json) (sym is_x)))

pub next_item : (R : Data → Result Value ShapeFault) (json : List Json) (i : ℕ) (x : Json) (done : List ValueCode) (v : ValueCode) (all : Result Items ShapeFault) → i < length json → x ≡ slice_index_or json i x
    → all ≡ Items_before (map value_view done) (items_read R (items_view (drop i json)))
    → R (view x) ≡ Ok (value_view v)
    → all ≡ Items_before (map value_view (done ++ v ∷ [])) (items_read R (items_view (drop (i + 1) json)))
next_item R json i x done v all inside is_x before is_v =
    before ∙ ap (Items_before (map value_view done)) (at R json i x inside is_x ∙ rw is_v refl) ∙ before_one done v (items_read R (items_view (drop (i + 1) json)))

pub item_fails : (shape : Shape) (json : List Json) (i : ℕ) (x : Json) (done : List ValueCode) (e : ShapeFault) (all : Result Items ShapeFault) → i < length json → x ≡ slice_index_or json i x
    → all ≡ Items_before (map value_view done) (items_read (λ d. read shape d) (items_view (drop i json)))
    → Unless (is_memory_under shape e) (read shape (view x) ≡ Err e)
    → Unless (is_reading_memory e) (all ≡ Err e)
item_fails shape json i x done e all inside is_x before is_e =
    leads (is_reading_memory e) (λ (fails : read shape (view x) ≡ Err e). before ∙ ap (Items_before (map value_view done)) (at (λ d. read shape d) json i x inside is_x ∙ rw fails refl) ∙ before_err (map value_view done) e)
    (unless_more (read shape (view x) ≡ Err e) (is_memory_under shape e) (is_reading_memory e) (under_is_memory shape e) is_e)

pub no_item_left : (R : Data → Result Value ShapeFault) (json : List Json) (i : ℕ) (done : List ValueCode) (all : Result Items ShapeFault) → length json ≤ i
    → all ≡ Items_before (map value_view done) (items_read R (items_view (drop i json)))
    → all ≡ Ok (items_of (map value_view done))
no_item_left R json i done all past before =
    let none : drop i json ≡ [] = drop_of_length-le json past in
    before ∙ rw none (before_none (map value_view done))

-- Fields that were read, before what is read of the rest.

abbrev pub fields_onto : ℕ → List (List ℕ) → List ℕ → List Value → Fields → Fields
fields_onto index [] indices vs rest = rest
fields_onto index (name ∷ names) indices vs rest = field name (value_at index indices vs) (fields_onto (suc index) names indices vs rest)

onto_none : (index : ℕ) (names : List (List ℕ)) (indices : List ℕ) (vs : List Value) → fields_onto index names indices vs no_fields ≡ fields_from index names indices vs
onto_none index [] indices vs = refl
onto_none index (name ∷ names) indices vs = ap (field name (value_at index indices vs)) (onto_none (suc index) names indices vs)

onto_name : (index : ℕ) (names : List (List ℕ)) (name : List ℕ) (indices : List ℕ) (vs : List Value) (rest : Fields) (at : ℕ) → at ≡ index + length names
    → fields_onto index (names ++ name ∷ []) indices vs rest ≡ fields_onto index names indices vs (field name (value_at at indices vs) rest)
onto_name index [] name indices vs rest at is = ap (λ p. field name (value_at p indices vs) rest) (omega (arith, is))
onto_name index (n ∷ names) name indices vs rest at is = ap (field n (value_at index indices vs)) (onto_name (suc index) names name indices vs rest at (omega (arith, is)))

is_other : (p index : ℕ) → (p ≡ index → ⊥) → (p == index) ≡ false
is_other p index differs = not_true (p == index) (λ is. differs ((Decides-eqb p index).0 is))
  where
    not_true : (test : Bool) → (test ≡ true → ⊥) → test ≡ false
    not_true true wrong = absurd (wrong refl)
    not_true false wrong = refl

-- a value that is added changes none that was there
at_other : (index : ℕ) (indices : List ℕ) (vs : List Value) (at : ℕ) (v : Value) → length indices ≡ length vs → (at ≡ index → ⊥) → value_at index (indices ++ at ∷ []) (vs ++ v ∷ []) ≡ value_at index indices vs
at_other index [] [] at v same differs = rw (is_other at index differs) refl
at_other index [] (w ∷ vs) at v same differs = absurd (omega (arith, same))
at_other index (p ∷ indices) [] at v same differs = absurd (omega (arith, same))
at_other index (p ∷ indices) (w ∷ vs) at v same differs = ap (λ later. if p == index then w else later) (at_other index indices vs at v (omega (arith, same)) differs)

-- it has its index, if that is after the others
at_new : (index : ℕ) (indices : List ℕ) (vs : List Value) (v : Value) → length indices ≡ length vs → All (λ p. p < index) indices → value_at index (indices ++ index ∷ []) (vs ++ v ∷ []) ≡ v
at_new index [] [] v same below = rw ((Decides-eqb index index).1 refl) refl
at_new index [] (w ∷ vs) v same below = absurd (omega (arith, same))
at_new index (p ∷ indices) [] v same below = absurd (omega (arith, same))
at_new index (p ∷ indices) (w ∷ vs) v same below =
    rw (is_other p index (λ is. absurd (omega (arith, is, below 0 0 (omega arith))))) (at_new index indices vs v (omega (arith, same)) (λ k d within. below (suc k) d (omega arith)))

-- no value is at an index after the others
at_none : (index : ℕ) (indices : List ℕ) (vs : List Value) → All (λ p. p < index) indices → value_at index indices vs ≡ nil
at_none index [] vs below = refl
at_none index (p ∷ indices) [] below = refl
at_none index (p ∷ indices) (w ∷ vs) below =
    rw (is_other p index (λ is. absurd (omega (arith, is, below 0 0 (omega arith))))) (at_none index indices vs (λ k d within. below (suc k) d (omega arith)))

onto_kept : (index : ℕ) (names : List (List ℕ)) (indices : List ℕ) (vs : List Value) (at : ℕ) (v : Value) (rest : Fields) → length indices ≡ length vs → index + length names ≤ at
    → fields_onto index names (indices ++ at ∷ []) (vs ++ v ∷ []) rest ≡ fields_onto index names indices vs rest
onto_kept index [] indices vs at v rest same past = refl
onto_kept index (n ∷ names) indices vs at v rest same past =
    rw (at_other index indices vs at v same (λ is. absurd (omega (arith, is, past))), onto_kept (suc index) names indices vs at v rest same (omega (arith, past))) refl

-- the fields before an index were read
pub record Fields_before (names : List (List ℕ)) (of : List ShapeCode) (given : json.Members) (index : ℕ) (indices : List ℕ) (vs : List ValueCode) : Type 0 where
  pub same : length indices ≡ length vs
  pub below : All (λ p. p < index) indices
  pub read : fields_read (Of names of) given
      ≡ (fields_read (Of (drop index names) (drop index of)) given >>= λ rest. Ok (fields_onto 0 (take index names) indices (map value_view vs) rest))

pub no_field_yet : (names : List (List ℕ)) (of : List ShapeCode) (given : json.Members) → Fields_before names of given 0 [] []
no_field_yet names of given = record { same = refl; below = λ k d within. absurd (omega (arith, within)); read = unchanged (fields_read (Of names of) given) }
  where
    unchanged : (rest : Result Fields ShapeFault) → rest ≡ (rest >>= λ fields. Ok (fields_onto 0 [] [] [] fields))
    unchanged (Ok all) = refl
    unchanged (Err e) = refl

module _ (names : List (List ℕ)) (of : List ShapeCode) (given : json.Members) (index : ℕ) (name : List ℕ) (shape : ShapeCode) (in_names : index < length names) (in_shapes : index < length of)
    (is_name : name ≡ slice_index_or names index name) (is_shape : shape ≡ slice_index_or of index shape) where
  abbrev later : Result Fields ShapeFault
  later = fields_read (Of (drop (index + 1) names) (drop (index + 1) of)) given

  abbrev here : Result Value ShapeFault
  here = field_read (λ d. read (shape_view shape) d) (shape_view shape) (get_member name given)

  fields_here : fields_read (Of (drop index names) (drop index of)) given ≡ (here >>= λ value. later >>= λ fields. Ok (field name value fields))
  fields_here = rw (field_at names of index name shape in_names in_shapes is_name is_shape) refl

  named_before : (indices : List ℕ) (vs : List Value) (rest : Fields)
      → fields_onto 0 (take (index + 1) names) indices vs rest ≡ fields_onto 0 (take index names) indices vs (field name (value_at index indices vs) rest)
  named_before indices vs rest =
      ap (λ ns. fields_onto 0 ns indices vs rest) (take_more names index name in_names ∙ ap (λ n. take index names ++ n ∷ []) (sym is_name))
      ∙ onto_name 0 (take index names) name indices vs rest index (omega (arith, length-take-le index names (omega (arith, in_names))))

  moved : (indices added : List ℕ) (vs more : List Value) (value : Value) (rest : Result Fields ShapeFault) → value_at index added more ≡ value
      → ((rest : Fields) → fields_onto 0 (take index names) added more rest ≡ fields_onto 0 (take index names) indices vs rest)
      → ((rest >>= λ fields. Ok (field name value fields)) >>= λ fields. Ok (fields_onto 0 (take index names) indices vs fields)) ≡ (rest >>= λ fields. Ok (fields_onto 0 (take (index + 1) names) added more fields))
  moved indices added vs more value (Err e) is kept = refl
  moved indices added vs more value (Ok rest) is kept =
      ap (λ (fields : Fields). Ok fields) (sym (named_before added more rest ∙ rw is (kept (field name value rest))))

  below_next : (indices : List ℕ) → All (λ p. p < index) indices → All (λ p. p < index + 1) indices
  below_next indices below = λ k d within. omega (arith, below k d within)

  next_read : (indices added : List ℕ) (vs more : List ValueCode) (value : Value) → here ≡ Ok value → value_at index added (map value_view more) ≡ value
      → ((rest : Fields) → fields_onto 0 (take index names) added (map value_view more) rest ≡ fields_onto 0 (take index names) indices (map value_view vs) rest)
      → Fields_before names of given index indices vs
      → fields_read (Of names of) given ≡ (later >>= λ rest. Ok (fields_onto 0 (take (index + 1) names) added (map value_view more) rest))
  next_read indices added vs more value is at kept before =
      before.read ∙ ap (λ all. all >>= λ rest. Ok (fields_onto 0 (take index names) indices (map value_view vs) rest)) (fields_here ∙ rw is refl)
      ∙ moved indices added (map value_view vs) (map value_view more) value later at kept

  -- a field that is nil needs no value
  pub field_absent : (indices : List ℕ) (vs : List ValueCode) → Fields_before names of given index indices vs → here ≡ Ok nil → Fields_before names of given (index + 1) indices vs
  field_absent indices vs before is = record {
    same = before.same;
    below = below_next indices before.below;
    read = next_read indices indices vs vs nil is (at_none index indices (map value_view vs) before.below) (λ rest. refl) before;
  }

  -- a field that was read has its index and its value
  pub field_present : (indices : List ℕ) (vs : List ValueCode) (v : ValueCode) → Fields_before names of given index indices vs → here ≡ Ok (value_view v)
      → Fields_before names of given (index + 1) (indices ++ index ∷ []) (vs ++ v ∷ [])
  field_present indices vs v before is = record {
    same = rw (length_push, length_push, before.same) refl;
    below = All-push (λ p. p < index + 1) indices index (below_next indices before.below) (omega arith);
    read = next_read indices (indices ++ index ∷ []) vs (vs ++ v ∷ []) (value_view v) is
        (rw (map-append value_view vs (v ∷ [])) (at_new index indices (map value_view vs) (value_view v) (before.same ∙ sym (length-map vs value_view)) before.below))
        (λ rest. rw (map-append value_view vs (v ∷ []))
        (onto_kept 0 (take index names) indices (map value_view vs) index (value_view v) rest (before.same ∙ sym (length-map vs value_view)) (omega (arith, length-take-le index names (omega (arith, in_names))))))
        before;
  }

  pub field_fails : (indices : List ℕ) (vs : List ValueCode) (e : ShapeFault) → Fields_before names of given index indices vs → Unless (is_reading_memory e) (here ≡ Err e) → Unless (is_reading_memory e) (fields_read (Of names of) given ≡ Err e)
  field_fails indices vs e before is =
      leads (is_reading_memory e) (λ fails. before.read ∙ ap (λ all. all >>= λ rest. Ok (fields_onto 0 (take index names) indices (map value_view vs) rest)) (fields_here ∙ failed here _ e fails)) is

pub no_field_left : (names : List (List ℕ)) (of : List ShapeCode) (given : json.Members) (index : ℕ) (indices : List ℕ) (vs : List ValueCode) → length names ≤ length of → length names ≤ index
    → Fields_before names of given index indices vs → fields_read (Of names of) given ≡ Ok (fields_from 0 names indices (map value_view vs))
no_field_left names of given index indices vs long past before =
    before.read
    ∙ rw (no_field_at names of index (omega (arith, long, past)), take_all index names past) (ap (λ (fields : Fields). Ok fields) (onto_none 0 names indices (map value_view vs)))

-- names past the shapes name no field
pub first_names : (names : List (List ℕ)) (of : List ShapeCode) → Of (take (length of) names) of ≡ Of names of
first_names [] [] = refl
first_names [] (s ∷ of) = refl
first_names (n ∷ names) [] = refl
first_names (n ∷ names) (s ∷ of) = ap (shapes.field n (shape_view s)) (first_names names of)

-- a record of names and values
pub record_view : (fields : Box FieldsCode Global) → value_view (ObjectValue fields) ≡ object (fields_from 0 (out-Fields fields.value).names (out-Fields fields.value).indices (map value_view (out-Fields fields.value).values.items))
record_view fields = rw (value_view-object fields, fields_view-from fields.value) refl

pub record_read : (of : List (List ℕ)) (of_shapes : List ShapeCode) (given : json.Members) (fields : FieldsCode) (boxed : Box FieldsCode Global) → boxed.value ≡ fields
    → (out-Fields fields).names ≡ take (length of_shapes) of
    → fields_read (Of (out-Fields fields).names of_shapes) given ≡ Ok (fields_from 0 (out-Fields fields).names (out-Fields fields).indices (map value_view (out-Fields fields).values.items))
    → read (shapes.object (Of of of_shapes)) (json.object given) ≡ Ok (value_view (ObjectValue boxed))
record_read of of_shapes given fields boxed is first is_read =
    ap (λ fs. fields_read fs given >>= λ f. Ok (object f)) (sym (first_names of of_shapes) ∙ ap (λ ns. Of ns of_shapes) (sym first))
    ∙ ap (λ all. all >>= λ f. Ok (object f)) is_read
    ∙ ap (λ (v : Value). Ok v)
    (sym (record_view boxed ∙ ap (λ f. object (fields_from 0 (out-Fields f).names (out-Fields f).indices (map value_view (out-Fields f).values.items))) is))

pub record_fails : (of names : List (List ℕ)) (of_shapes : List ShapeCode) (given : json.Members) (e : ShapeFault) → names ≡ take (length of_shapes) of
    → Unless (is_reading_memory e) (fields_read (Of names of_shapes) given ≡ Err e) → Unless (is_reading_memory e) (read (shapes.object (Of of of_shapes)) (json.object given) ≡ Err e)
record_fails of names of_shapes given e first fails =
    leads (is_reading_memory e) (λ (h : fields_read (Of names of_shapes) given ≡ Err e).
    failed (fields_read (Of of of_shapes) given) (λ f. Ok (object f)) e (ap (λ fs. fields_read fs given) (sym (first_names of of_shapes) ∙ ap (λ ns. Of ns of_shapes) (sym first)) ∙ h)) fails

-- Lists.

count_of_view : (json : List Json) → item_count (items_view json) ≡ length json
count_of_view [] = refl
count_of_view (x ∷ xs) = ap suc (count_of_view xs)

pub list_too_long : (R : Data → Result Value ShapeFault) (max : ℕ) (json : List Json) → max < length json → list_read R max (items_view json) ≡ Err ListTooLong
list_too_long R max json long = rw (count_of_view json) (grind (arith, nat_tests))

pub list_short : (R : Data → Result Value ShapeFault) (max : ℕ) (json : List Json) → length json ≤ max → list_read R max (items_view json) ≡ (items_read R (items_view json) >>= λ values. Ok (list values))
list_short R max json short = rw (count_of_view json) (grind (arith, nat_tests))

-- The names of a shape that was read rise, since those of a JSON object do.
use Rattle.std.proofs.Common.{◌≡◌, ℕ, List, [], ◌∷◌, ◌++◌, map, Result, Ok, Err, refl, sym, ap, ◌∙◌, String, Global, string_bytes}
use Rattle.std.specs.Cmp.Lexicographic.{slice_cmp}
use Rattle.std.specs.List.{AllByRecursion}
use Rattle.std.specs.List.Sorted.{IsStrictlySortedBy}
use Rattle.std.specs.Map.{keys_of}
use Rattle.std.specs.Ordering.{nat_cmp}
use Rattle.std.specs.String.{string_cmp}
use Rattle.std.specs.declared.cmp.Ordering.TheVariants.{Less}
use Rattle.serde_json.specs.Data.{Data, Members, no_members, member}
use Rattle.serde_json.specs.View.{members_view}
use Rattle.ar_value.specs.Answer.{◌>>=◌}
use Rattle.ar_json.specs.Declaration.{fields_declared}
use Rattle.std.proofs.lemmas.List.{append-nil, append_assoc}
use Rattle.ar_value.specs.Names.{Rise}
use Rattle.ar_json.specs.Names.{member_names, shape_names, ShapeNamesRise, FieldShapeNamesRise}
use Rattle.ar_value.specs.Shape.{Shape, FieldShapes, field_shapes_of, no_fields, field}
use Rattle.ar_value.specs.View.{shape_view}
use Rattle.ar_value.specs.declared.shape.Shape.{Shape as ShapeCode}
use Rattle.serde_json.specs.declared.value.Value.{Value as Json}
use Rattle.ar_json.specs.declared.shape_reading.ShapeError.{ShapeError}
use Rattle.ar_json.proofs.Declarations.{Entry}

-- the shape has the names of the members

front : (name : List ℕ) (others : Members) (fields : FieldShapes) (first : Result Shape ShapeError) (rest : Result FieldShapes ShapeError)
    → ((found : FieldShapes) → rest ≡ Ok found → shape_names found ≡ member_names others)
    → (first >>= λ shape. rest >>= λ found. Ok (field name shape found)) ≡ Ok fields → shape_names fields ≡ name ∷ member_names others
front name others all (Ok shape) (Ok found) names h = let e : field name shape found ≡ all = cc in rw (← e) (ap (λ ns. name ∷ ns) (names found refl))
front name others all (Ok shape) (Err e) names h = absurd (cc)
front name others all (Err e) rest names h = absurd (cc)

declared_names : (R : Data → Result Shape ShapeError) (given : Members) (fields : FieldShapes) → fields_declared R given ≡ Ok fields → shape_names fields ≡ member_names given
declared_names R no_members fields h = let e : no_fields ≡ fields = cc in rw (← e) refl
declared_names R (member name json others) fields h = front name others fields (R json) (fields_declared R others) (declared_names R others) h

-- the names of the members rise

below_all : (name : String Global) (entries : List Entry) → AllByRecursion (λ key. string_cmp name key ≡ Less) (keys_of entries) → AllByRecursion (λ key. slice_cmp nat_cmp (string_bytes name) key ≡ Less) (member_names (members_view entries))
below_all name [] all = tt
below_all name (entry ∷ entries) all = (all.0, below_all name entries all.1)

pub member_names_rise : (entries : List Entry) → IsStrictlySortedBy string_cmp (keys_of entries) → Rise (member_names (members_view entries))
unfolding IsStrictlySortedBy
member_names_rise [] sorted = tt
member_names_rise (entry ∷ entries) sorted = (below_all entry.0 entries sorted.0, member_names_rise entries sorted.1)

pub names_rise : (R : Data → Result Shape ShapeError) (entries : List Entry) (fields : FieldShapes) → fields_declared R (members_view entries) ≡ Ok fields → IsStrictlySortedBy string_cmp (keys_of entries) → Rise (shape_names fields)
names_rise R entries fields h sorted = rw (declared_names R (members_view entries) fields h) (member_names_rise entries sorted)

-- one field more
pub one_more : (names : List (List ℕ)) (done : List ShapeCode) (s : ShapeCode) → FieldShapeNamesRise (field_shapes_of names (map shape_view done)) → ShapeNamesRise (shape_view s)
    → FieldShapeNamesRise (field_shapes_of names (map shape_view (done ++ s ∷ [])))
one_more [] done s all rise = tt
one_more (n ∷ names) (d ∷ done) s all rise = (all.0, one_more names done s all.1 rise)
one_more (n ∷ []) [] s all rise = (rise, tt)
one_more (n ∷ m ∷ names) [] s all rise = (rise, tt)

pub no_more : (names : List (List ℕ)) (done : List ShapeCode) → done ≡ [] → FieldShapeNamesRise (field_shapes_of names (map shape_view done))
no_more [] done is = tt
no_more (n ∷ names) done is = rw is tt

-- the names of the first members, and those of the rest
pub next_name : (all now left : List Entry) (done : List (List ℕ)) (name : String Global) (json : Json) (text : List ℕ) → now ≡ (name, json) ∷ left → text ≡ string_bytes name
    → done ++ member_names (members_view now) ≡ member_names (members_view all) → (done ++ text ∷ []) ++ member_names (members_view left) ≡ member_names (members_view all)
next_name all now left done name json text is same before = rw same (append_assoc done (string_bytes name ∷ []) (member_names (members_view left)) ∙ (rw is at before))

pub no_name_left : (all now : List Entry) (done : List (List ℕ)) → now ≡ [] → done ++ member_names (members_view now) ≡ member_names (members_view all) → done ≡ member_names (members_view all)
no_name_left all now done is before = sym (append-nil done) ∙ (rw is at before)

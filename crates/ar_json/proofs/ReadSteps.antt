-- Reading a record by its members, one after another, and passing over the fields between them.
use Rattle.std.proofs.Common.{◌≡◌, ℕ, zero, suc, ◌+◌, ◌-◌, ◌<◌, ◌≤◌, Bool, true, false, List, [], ◌∷◌, ◌++◌, length, map, drop, take, Option, None, Some, option_map, Result, Ok, Err, refl, sym, ◌∙◌, ap, arith, subst, add-one, nat_lt, nat_cmp, String, Global, string_bytes}
use Rattle.std.specs.Prelude.{◌==◌, if◌then◌else◌, slice_get, slice_index_or}
use Rattle.std.specs.Cmp.Lexicographic.{slice_cmp}
use Rattle.std.specs.List.{AllByRecursion}
use Rattle.std.specs.List.Sorted.{IsStrictlySortedBy}
use Rattle.std.specs.Map.{keys_of}
use Rattle.std.specs.Ordering.{is_eq, match_ordering, ordering_reverse}
use Rattle.std.specs.Str.{bytes_eq}
use Rattle.std.specs.String.{string_cmp}
use Rattle.std.specs.declared.cmp.Ordering.{Ordering}
use Rattle.std.specs.declared.cmp.Ordering.TheVariants.{Less, Equal, Greater}
use Rattle.std.proofs.lemmas.Bool.Decides.{nat_tests}
use Rattle.std.proofs.lemmas.Cmp.{nat_list_cmp_total}
use Rattle.std.proofs.lemmas.List.{drop-drop, drop_more, get_or-drop, length-drop, take_all}
use Rattle.std.proofs.lemmas.Map.Text.{is_eq-slice_cmp}
use Rattle.std.proofs.lemmas.Slice.Eq.{bytes_eq-Decides}
use Rattle.serde_json.specs.Data as json
use Rattle.serde_json.specs.Data.{Data}
use Rattle.serde_json.specs.Find.{get_member}
use Rattle.serde_json.specs.View.{members_view, view}
use Rattle.serde_json.specs.declared.value.Value.{Value as Json}
use Rattle.ar_value.specs.Answer.{Unless}
use Rattle.ar_value.specs.Kind.{is_optional}
use Rattle.ar_value.specs.Names.{Rise, index_named}
use Rattle.ar_value.specs.Shape.{Shape, FieldShapes}
use Rattle.ar_value.specs.Shape as shapes
use Rattle.ar_value.specs.Value.{fields_from, nil}
use Rattle.ar_value.specs.View.{shape_view, value_view}
use Rattle.ar_value.specs.declared.shape.Shape.{Shape as ShapeCode}
use Rattle.ar_value.specs.declared.value.Value.{Value as ValueCode}
use Rattle.ar_value.proofs.FieldLists.{Of}
use Rattle.ar_value.proofs.Orders.{index_within, sorted_drop}
use Rattle.ar_json.specs.Names.{member_names}
use Rattle.ar_json.specs.Private.Needs.{passed, passed_to, required_in}
use Rattle.ar_json.specs.Reading.{absent_read, field_read, fields_read, is_reading_memory, read}
use Rattle.ar_json.specs.declared.value_reading.ShapeFault.{ShapeFault}
use Rattle.ar_json.specs.declared.value_reading.ShapeFault.TheVariants.{MissingField}
use Rattle.ar_json.proofs.Declarations.{Entry}
use Rattle.ar_json.proofs.NeedsLemmas.{required_here, there}
use Rattle.ar_json.proofs.ReadLemmas.{Fields_before, field_absent, field_fails, field_present, leads, no_field_left, no_field_yet}
use Rattle.ar_json.proofs.ShapeNames.{member_names_rise}

-- ---- names among members

-- a name is found in the one list of members as in the other
abbrev Known : (given left : json.Members) → List ℕ → Type 0
Known given left name = get_member name given ≡ get_member name left

abbrev Absent : json.Members → List ℕ → Type 0
Absent given name = get_member name given ≡ None

of_other : (o : Ordering) (here rest : Option Data) → is_eq o ≡ false → match_ordering o rest here rest ≡ rest
of_other Less here rest differs = refl
of_other Equal here rest differs = absurd (cc)
of_other Greater here rest differs = refl

of_same : (o : Ordering) (here rest : Option Data) → is_eq o ≡ true → match_ordering o rest here rest ≡ here
of_same Less here rest same = absurd (cc)
of_same Equal here rest same = refl
of_same Greater here rest same = absurd (cc)

-- a member of another name isn't examined
unread : (of name : List ℕ) (d : Data) (later : json.Members) → is_eq (slice_cmp nat_cmp of name) ≡ false → get_member of (json.member name d later) ≡ get_member of later
unread of name d later differs = of_other (slice_cmp nat_cmp of name) (Some d) (get_member of later) differs

looked_at : (of name : List ℕ) (d : Data) (later : json.Members) → bytes_eq of name ≡ true → get_member of (json.member name d later) ≡ Some d
looked_at of name d later same = of_same (slice_cmp nat_cmp of name) (Some d) (get_member of later) (is_eq-slice_cmp of name ∙ same)

-- a name below those of all members is that of none
below_all : (of : List ℕ) (members : json.Members) → AllByRecursion (λ name. slice_cmp nat_cmp of name ≡ Less) (member_names members) → get_member of members ≡ None
below_all of json.no_members below = refl
below_all of (json.member name d later) below = unread of name d later (ap is_eq below.0) ∙ below_all of later below.1

below_later : (of name : List ℕ) → slice_cmp nat_cmp of name ≡ Less → (names : List (List ℕ)) → AllByRecursion (λ later. slice_cmp nat_cmp name later ≡ Less) names → AllByRecursion (λ later. slice_cmp nat_cmp of later ≡ Less) names
below_later of name less [] below = tt
below_later of name less (later ∷ names) below = (nat_list_cmp_total.trans of name later less below.0, below_later of name less names below.1)

is_later : (name of : List ℕ) → slice_cmp nat_cmp name of ≡ Less → is_eq (slice_cmp nat_cmp of name) ≡ false
is_later name of less = ap is_eq (nat_list_cmp_total.antisymm of name ∙ ap ordering_reverse less)

-- ---- one member more, whose name is looked for among the names that are left

module _ (given later : json.Members) (name : List ℕ) (d : Data) where
  abbrev now : json.Members
  now = json.member name d later

  -- it has another name than they
  pub of_none : (names : List (List ℕ)) → index_named name names ≡ None → AllByRecursion (Known given now) names → AllByRecursion (Known given later) names
  of_none [] none known = tt
  of_none (of ∷ names) none known = by (bytes_eq of name) (index_named name names) refl refl none (λ e. of_none names e known.1)
    where
      by : (same : Bool) (found : Option ℕ) → bytes_eq of name ≡ same → index_named name names ≡ found → (if same then Some 0 else option_map suc found) ≡ None
          → (index_named name names ≡ None → AllByRecursion (Known given later) names) → AllByRecursion (Known given later) (of ∷ names)
      by true found is is_found none rest = absurd (cc)
      by false None is is_found none rest = (known.0 ∙ unread of name d later (is_eq-slice_cmp of name ∙ is), rest is_found)
      by false (Some i) is is_found none rest = absurd (cc)

  -- those after its name are not its own
  known_after : (names : List (List ℕ)) → AllByRecursion (λ of. slice_cmp nat_cmp name of ≡ Less) names → AllByRecursion (Known given now) names → AllByRecursion (Known given later) names
  known_after [] below known = tt
  known_after (of ∷ names) below known = (known.0 ∙ unread of name d later (is_later name of below.0), known_after names below.1 known.1)

  -- a name below some is below the one that is found among them
  below_found : (of : List ℕ) (names : List (List ℕ)) (i : ℕ) → AllByRecursion (λ other. slice_cmp nat_cmp of other ≡ Less) names → index_named name names ≡ Some i → slice_cmp nat_cmp of name ≡ Less
  below_found of [] i below is = absurd (cc)
  below_found of (first ∷ names) i below is = by (bytes_eq first name) (index_named name names) refl refl is (λ j e. below_found of names j below.1 e)
    where
      by : (same : Bool) (found : Option ℕ) → bytes_eq first name ≡ same → index_named name names ≡ found → (if same then Some 0 else option_map suc found) ≡ Some i
          → ((j : ℕ) → index_named name names ≡ Some j → slice_cmp nat_cmp of name ≡ Less) → slice_cmp nat_cmp of name ≡ Less
      by true found same is_found is rest = ap (slice_cmp nat_cmp of) (sym ((bytes_eq-Decides first name).0 same)) ∙ below.0
      by false None same is_found is rest = absurd (cc)
      by false (Some j) same is_found is rest = rest j is_found

  -- what is known of the names before the one that is found, of that name and of those after it
  pub record Found (names : List (List ℕ)) (i : ℕ) : Type 0 where
    pub before : AllByRecursion (Absent given) (take i names)
    pub here : (of : List ℕ) → of ≡ slice_index_or names i of → get_member of given ≡ Some d
    pub after : AllByRecursion (Known given later) (drop (suc i) names)

  pub of_one : (names : List (List ℕ)) (i : ℕ) → Rise names → Rise (member_names now) → index_named name names ≡ Some i → AllByRecursion (Known given now) names → Found names i
  unfolding IsStrictlySortedBy
  of_one [] i rise members is known = absurd (cc)
  of_one (of ∷ names) i rise members is known = by (bytes_eq of name) (index_named name names) i refl refl is (λ j e. of_one names j rise.1 members e known.1)
    where
      by : (same : Bool) (found : Option ℕ) (i : ℕ) → bytes_eq of name ≡ same → index_named name names ≡ found → (if same then Some 0 else option_map suc found) ≡ Some i
          → ((j : ℕ) → index_named name names ≡ Some j → Found names j) → Found (of ∷ names) i
      by true found zero same is_found is rest =
          let is_name : of ≡ name = (bytes_eq-Decides of name).0 same in record {
            before = tt;
            here = λ first e. ap (λ n. get_member n given) e ∙ known.0 ∙ looked_at of name d later same;
            after = known_after names (subst (λ n. AllByRecursion (λ other. slice_cmp nat_cmp n other ≡ Less) names) is_name rise.0) known.1;
          }
      by true found (suc i) same is_found is rest = absurd (cc)
      by false None i same is_found is rest = absurd (cc)
      by false (Some j) zero same is_found is rest = absurd (cc)
      by false (Some j) (suc i) same is_found is rest =
          let less : slice_cmp nat_cmp of name ≡ Less = below_found of names j rise.0 is_found in
          let e : j ≡ i = cc in
          let found : Found names i = subst (Found names) e (rest j is_found) in record {
            before = (known.0 ∙ unread of name d later (ap is_eq less) ∙ below_all of later (below_later of name less (member_names later) members.0), found.before);
            here = λ n at. found.here n at;
            after = found.after;
          }

-- ---- the fields between, of which some are required

abbrev first_of : List ℕ → Option ℕ
first_of [] = None
first_of (first ∷ later) = Some first

get_first : (xs : List ℕ) (i : ℕ) → slice_get xs i ≡ first_of (drop i xs)
get_first [] zero = refl
get_first [] (suc i) = refl
get_first (x ∷ xs) zero = refl
get_first (x ∷ xs) (suc i) = get_first xs i

drop_next : (xs later : List ℕ) (i first : ℕ) → drop i xs ≡ first ∷ later → drop (suc i) xs ≡ later
drop_next [] later zero first is = absurd (cc)
drop_next [] later (suc i) first is = absurd (cc)
drop_next (x ∷ xs) later zero first is = let e : xs ≡ later = cc in e
drop_next (x ∷ xs) later (suc i) first is = drop_next xs later i first is

-- no field before an index is among these
abbrev NoneBefore : ℕ → List ℕ → Type 0
NoneBefore index [] = Unit {0}
NoneBefore index (first ∷ later) = index ≤ first

-- a field before it is
abbrev OneBefore : ℕ → List ℕ → Type 0
OneBefore index [] = Unit {0} → ⊥
OneBefore index (first ∷ later) = first < index

passes : (next index after : ℕ) (indices : List ℕ) → passed_to next index (first_of indices) ≡ Ok after → NoneBefore index indices
passes next index after [] is = tt
passes next index after (first ∷ later) is = by (nat_lt first index) refl is
  where
    by : (below : Bool) → nat_lt first index ≡ below → (if below then Err MissingField else (if first == index then Ok (suc next) else Ok next)) ≡ Ok after → index ≤ first
    by true test is = absurd (cc)
    by false test is = grind (arith, nat_tests, test)

stops : (next index : ℕ) (e : ShapeFault) (indices : List ℕ) → passed_to next index (first_of indices) ≡ Err e → OneBefore index indices × (e ≡ MissingField)
stops next index e [] is = absurd (cc)
stops next index e (first ∷ later) is = by (nat_lt first index) (first == index) refl is
  where
    by : (below same : Bool) → nat_lt first index ≡ below → (if below then Err MissingField else (if same then Ok (suc next) else Ok next)) ≡ Err e → (first < index) × (e ≡ MissingField)
    by true same test is = (grind (arith, nat_tests, test), cc)
    by false true test is = absurd (cc)
    by false false test is = absurd (cc)

-- two indices that are answers are the same
abbrev same_answer : ℕ → ℕ → Type 0
same_answer a b = ◌≡◌ {A = Result ℕ ShapeFault} (Ok a) (Ok b)

-- the field at the index may be absent: the next that is required is after it
stays : (next index after : ℕ) (indices : List ℕ) → passed_to next index (first_of indices) ≡ Ok after → NoneBefore (suc index) indices → after ≡ next
stays next index after [] is none = cc
stays next index after (first ∷ later) is none =
    let below : nat_lt first index ≡ false = grind (arith, nat_tests, none) in
    let same : (first == index) ≡ false = grind (arith, nat_tests, none) in
    stepped (rw (below, same) at is)
  where
    stepped : same_answer next after → after ≡ next
    stepped e = cc

-- the field at the index is required, and is there
continues : (next index after : ℕ) (later : List ℕ) → passed_to next index (Some index) ≡ Ok after → after ≡ suc next
continues next index after later is =
    let below : nat_lt index index ≡ false = grind (arith, nat_tests) in
    let same : (index == index) ≡ true = grind (arith, nat_tests) in
    stepped (rw (below, same) at is)
  where
    stepped : same_answer (suc next) after → after ≡ suc next
    stepped e = cc

optional_absent : (shape : Shape) → is_optional shape ≡ true → absent_read shape ≡ Ok nil
optional_absent shapes.bool is = absurd (cc)
optional_absent shapes.whole is = absurd (cc)
optional_absent shapes.decimal is = absurd (cc)
optional_absent shapes.text is = absurd (cc)
optional_absent (shapes.list shape max) is = absurd (cc)
optional_absent (shapes.object of) is = absurd (cc)
optional_absent (shapes.optional shape) is = refl

required_absent : (shape : Shape) → is_optional shape ≡ false → absent_read shape ≡ Err MissingField
required_absent (shapes.optional shape) is = absurd (cc)
required_absent shape is = refl

-- indices of required fields are not before the first field's
not_before : (index : ℕ) (fields : FieldShapes) → NoneBefore index (required_in index fields)
not_before index shapes.no_fields = tt
not_before index (shapes.field name shape others) = by (is_optional shape) (required_in (suc index) others) (not_before (suc index) others)
  where
    by : (optional : Bool) (indices : List ℕ) → NoneBefore (suc index) indices → NoneBefore index (if optional then indices else index ∷ indices)
    by true [] none = tt
    by true (first ∷ indices) none = omega (arith, none)
    by false indices none = omega arith

neither : (index : ℕ) (indices : List ℕ) → NoneBefore index indices → OneBefore index indices → ⊥
neither index [] none one = one tt
neither index (first ∷ indices) none one = absurd (omega (arith, none, one))

-- the fields from an index on
abbrev pub Left : List (List ℕ) → List ShapeCode → ℕ → FieldShapes
Left names of index = Of (drop index names) (drop index of)

module _ (names : List (List ℕ)) (of : List ShapeCode) (given : json.Members) (long : length names ≤ length of) where
  absent_read_at : (name : List ℕ) (shape : ShapeCode) → Absent given name → field_read (λ d. read (shape_view shape) d) (shape_view shape) (get_member name given) ≡ absent_read (shape_view shape)
  absent_read_at name shape absent = rw absent refl

  -- names that are absent, from an index on
  absent_front : (from k : ℕ) (name : List ℕ) → from < length names → name ≡ slice_index_or names from name → AllByRecursion (Absent given) (take (suc k) (drop from names))
      → Absent given name × AllByRecursion (Absent given) (take k (drop (from + 1) names))
  absent_front from k name within is absent =
      let e : drop from names ≡ name ∷ drop (from + 1) names = drop_more names from name within ∙ ap (λ n. n ∷ drop (from + 1) names) (sym is) in rw e at absent

  -- absent fields of which none is required are skipped
  gap : (k from to : ℕ) (indices : List ℕ) (vs : List ValueCode) → to ≡ from + k → to ≤ length names → AllByRecursion (Absent given) (take k (drop from names)) → NoneBefore to (required_in from (Left names of from))
      → Fields_before names of given from indices vs → Fields_before names of given to indices vs × (required_in from (Left names of from) ≡ required_in to (Left names of to))
  gap zero from to indices vs is inside absent none before = let e : from ≡ to = omega (arith, is) in
      subst (λ at. Fields_before names of given at indices vs × (required_in from (Left names of from) ≡ required_in at (Left names of at))) e (before, refl)
  gap (suc k) from to indices vs is inside absent none before =
      let name = there names from (omega (arith, is, inside)) in
      let shape = there of from (omega (arith, is, inside, long)) in
      let front = absent_front from k name.0 (omega (arith, is, inside)) name.1 absent in
      by name.0 shape.0 name.1 shape.1 front.0 (is_optional (shape_view shape.0)) refl
      (λ none before. gap k (from + 1) to indices vs (omega (arith, is)) inside front.1 none before)
    where
      by : (name : List ℕ) (shape : ShapeCode) → name ≡ slice_index_or names from name → shape ≡ slice_index_or of from shape → Absent given name → (optional : Bool) → is_optional (shape_view shape) ≡ optional
          → (NoneBefore to (required_in (from + 1) (Left names of (from + 1))) → Fields_before names of given (from + 1) indices vs → Fields_before names of given to indices vs × (required_in (from + 1) (Left names of (from + 1)) ≡ required_in to (Left names of to)))
          → Fields_before names of given to indices vs × (required_in from (Left names of from) ≡ required_in to (Left names of to))
      by name shape is_name is_shape missing true optional rest =
          let e = required_here names of from shape (omega (arith, is, inside)) (omega (arith, is, inside, long)) is_shape true optional in
          let done = rest (subst (NoneBefore to) e none)
          (field_absent names of given from name shape (omega (arith, is, inside)) (omega (arith, is, inside, long)) is_name is_shape indices vs before
          (absent_read_at name shape missing ∙ optional_absent (shape_view shape) optional)) in
          (done.0, e ∙ done.1)
      by name shape is_name is_shape missing false optional rest =
          let e = required_here names of from shape (omega (arith, is, inside)) (omega (arith, is, inside, long)) is_shape false optional in
          let wrong : to ≤ from = subst (NoneBefore to) e none in absurd (omega (arith, wrong, is))

  -- an absent field that is required is missing
  missing : (k from to : ℕ) (indices : List ℕ) (vs : List ValueCode) → to ≡ from + k → to ≤ length names → AllByRecursion (Absent given) (take k (drop from names)) → OneBefore to (required_in from (Left names of from))
      → Fields_before names of given from indices vs → fields_read (Of names of) given ≡ Err MissingField
  missing zero from to indices vs is inside absent one before =
      let e : to ≡ from = omega (arith, is) in absurd (neither from (required_in from (Left names of from)) (not_before from (Left names of from)) (subst (λ at. OneBefore at (required_in from (Left names of from))) e one))
  missing (suc k) from to indices vs is inside absent one before =
      let name = there names from (omega (arith, is, inside)) in
      let shape = there of from (omega (arith, is, inside, long)) in
      let front = absent_front from k name.0 (omega (arith, is, inside)) name.1 absent in
      by name.0 shape.0 name.1 shape.1 front.0 (is_optional (shape_view shape.0)) refl
      (λ one before. missing k (from + 1) to indices vs (omega (arith, is)) inside front.1 one before)
    where
      by : (name : List ℕ) (shape : ShapeCode) → name ≡ slice_index_or names from name → shape ≡ slice_index_or of from shape → Absent given name → (optional : Bool) → is_optional (shape_view shape) ≡ optional
          → (OneBefore to (required_in (from + 1) (Left names of (from + 1))) → Fields_before names of given (from + 1) indices vs → fields_read (Of names of) given ≡ Err MissingField)
          → fields_read (Of names of) given ≡ Err MissingField
      by name shape is_name is_shape absent true optional rest =
          let e = required_here names of from shape (omega (arith, is, inside)) (omega (arith, is, inside, long)) is_shape true optional in
          rest (subst (OneBefore to) e one)
          (field_absent names of given from name shape (omega (arith, is, inside)) (omega (arith, is, inside, long)) is_name is_shape indices vs before
          (absent_read_at name shape absent ∙ optional_absent (shape_view shape) optional))
      by name shape is_name is_shape absent false optional rest =
          field_fails names of given from name shape (omega (arith, is, inside)) (omega (arith, is, inside, long)) is_name is_shape indices vs MissingField before
          (absent_read_at name shape absent ∙ required_absent (shape_view shape) optional)

-- ---- the members that were read

-- What was read so far: the fields before `from` with their values, where these members are left, and the required
-- field at the named `next` is the next that has to be present.
pub record Members_read (names : List (List ℕ)) (of : List ShapeCode) (given : json.Members) (required : List ℕ) (left : List Entry) (from next : ℕ) (indices : List ℕ) (vs : List ValueCode) : Type 0 where
  pub before : Fields_before names of given from indices vs
  pub inside : from ≤ length names
  pub known : AllByRecursion (Known given (members_view left)) (drop from names)
  pub rise : Rise (member_names (members_view left))
  pub wanted : drop next required ≡ required_in from (Left names of from)

same_known : (given : json.Members) (names : List (List ℕ)) → AllByRecursion (Known given given) names
same_known given [] = tt
same_known given (name ∷ names) = (refl, same_known given names)

pub starts : (names : List (List ℕ)) (of : List ShapeCode) (required : List ℕ) (all left : List Entry) (indices : List ℕ) (vs : List ValueCode) → left ≡ all → indices ≡ [] → vs ≡ [] → IsStrictlySortedBy string_cmp (keys_of all)
    → required ≡ required_in 0 (Of names of) → Members_read names of (members_view all) required left 0 0 indices vs
starts names of required all left indices vs is none empty sorted wanted = rw (is, none, empty) (record {
  before = no_field_yet names of (members_view all);
  inside = omega arith;
  known = same_known (members_view all) names;
  rise = member_names_rise all sorted;
  wanted = wanted;
})

passed_from : (required indices : List ℕ) (next index : ℕ) → drop next required ≡ indices → passed required next index ≡ passed_to next index (first_of indices)
passed_from required indices next index wanted = ap (passed_to next index) (get_first required next ∙ ap first_of wanted)

-- the named of a name among all names
index_among : (from index : ℕ) (found : Option ℕ) → Some index ≡ option_map (λ i. from + i) found → (i : ℕ) × (found ≡ Some i) × (index ≡ from + i)
index_among from index None is = absurd (cc)
index_among from index (Some i) is = (i, refl, cc)

no_index : (from : ℕ) (found : Option ℕ) → None ≡ option_map (λ i. from + i) found → found ≡ None
no_index from None is = refl
no_index from (Some i) is = absurd (cc)

module _ {names : List (List ℕ)} {of : List ShapeCode} {given : json.Members} (long : length names ≤ length of) {required : List ℕ} {now later : List Entry} {name : String Global} {value : Json}
    (is : now ≡ (name, value) ∷ later) {from next : ℕ} {indices : List ℕ} {vs : List ValueCode} (so_far : Members_read names of given required now from next indices vs) where
  known_now : AllByRecursion (Known given (json.member (string_bytes name) (view value) (members_view later))) (drop from names)
  known_now = rw is at so_far.known

  rise_now : Rise (string_bytes name ∷ member_names (members_view later))
  rise_now = rw is at so_far.rise

  rise_later : Rise (member_names (members_view later))
  unfolding IsStrictlySortedBy
  rise_later = rise_now.1

  -- a member that is no field
  pub other_member : None ≡ option_map (λ i. from + i) (index_named (string_bytes name) (drop from names)) → Members_read names of given required later from next indices vs
  other_member none = record {
    before = so_far.before;
    inside = so_far.inside;
    known = of_none given (members_view later) (string_bytes name) (view value) (drop from names) (no_index from (index_named (string_bytes name) (drop from names)) none) known_now;
    rise = rise_later;
    wanted = so_far.wanted;
  }

  -- a member that is a field
  module _ (rise : Rise names) (index : ℕ) (found : Some index ≡ option_map (λ i. from + i) (index_named (string_bytes name) (drop from names))) where
    named : (i : ℕ) × (index_named (string_bytes name) (drop from names) ≡ Some i) × (index ≡ from + i)
    named = index_among from index (index_named (string_bytes name) (drop from names)) found

    facts : Found given (members_view later) (string_bytes name) (view value) (drop from names) named.0
    facts = of_one given (members_view later) (string_bytes name) (view value) (drop from names) named.0 (sorted_drop (slice_cmp nat_cmp) from names rise) rise_now named.1 known_now

    pub index_inside : index < length names
    index_inside = omega (arith, named.2, index_within (string_bytes name) (drop from names) named.0 named.1, length-drop from names)

    -- a required field before it is missing
    pub index_missing : (e : ShapeFault) → Err e ≡ passed required next index → fields_read (Of names of) given ≡ Err e
    index_missing e refused =
        let stop = stops next index e (required_in from (Left names of from)) (sym (refused ∙ passed_from required _ next index so_far.wanted)) in
        missing names of given long named.0 from index indices vs named.2 (omega (arith, index_inside)) facts.before stop.0 so_far.before ∙ ap (λ (fault : ShapeFault). Err fault) (sym stop.1)

    module _ (after : ℕ) (met : Ok after ≡ passed required next index) where
      met_from : passed_to next index (first_of (required_in from (Left names of from))) ≡ Ok after
      met_from = sym (met ∙ passed_from required _ next index so_far.wanted)

      over : Fields_before names of given index indices vs × (required_in from (Left names of from) ≡ required_in index (Left names of index))
      over = gap names of given long named.0 from index indices vs named.2 (omega (arith, index_inside)) facts.before (passes next index after (required_in from (Left names of from)) met_from) so_far.before

      field_here : (n : List ℕ) (shape : ShapeCode) → n ≡ slice_index_or names index n → field_read (λ d. read (shape_view shape) d) (shape_view shape) (get_member n given) ≡ read (shape_view shape) (view value)
      field_here n shape is_name = rw (facts.here n (is_name ∙ ap (λ at. slice_index_or names at n) named.2 ∙ sym (get_or-drop from names named.0 n))) refl

      -- the field is refused
      pub index_fails : (e : ShapeFault) → ((shape : ShapeCode) → shape ≡ slice_index_or of index shape → Unless (is_reading_memory e) (read (shape_view shape) (view value) ≡ Err e))
          → Unless (is_reading_memory e) (fields_read (Of names of) given ≡ Err e)
      index_fails e fails =
          let n = there names index index_inside in
          let shape = there of index (omega (arith, index_inside, long)) in
          field_fails names of given index n.0 shape.0 index_inside (omega (arith, index_inside, long)) n.1 shape.1 indices vs e over.0
          (leads (is_reading_memory e) (λ (h : read (shape_view shape.0) (view value) ≡ Err e). field_here n.0 shape.0 n.1 ∙ h) (fails shape.0 shape.1))

      wanted_next : (shape : ShapeCode) → shape ≡ slice_index_or of index shape → drop after required ≡ required_in (index + 1) (Left names of (index + 1))
      wanted_next shape is_shape = by (is_optional (shape_view shape)) refl
        where
          by : (optional : Bool) → is_optional (shape_view shape) ≡ optional → drop after required ≡ required_in (index + 1) (Left names of (index + 1))
          by true optional =
              let e = over.1 ∙ required_here names of index shape index_inside (omega (arith, index_inside, long)) is_shape true optional in
              let first : passed_to next index (first_of (required_in (index + 1) (Left names of (index + 1)))) ≡ Ok after = rw e at met_from in
              rw (stays next index after (required_in (index + 1) (Left names of (index + 1))) first (subst (λ at. NoneBefore at (required_in (index + 1) (Left names of (index + 1)))) (add-one index) (not_before (index + 1) (Left names of (index + 1))))) (so_far.wanted ∙ e)
          by false optional =
              let e = over.1 ∙ required_here names of index shape index_inside (omega (arith, index_inside, long)) is_shape false optional in
              let first : passed_to next index (Some index) ≡ Ok after = rw e at met_from in
              rw (continues next index after [] first) (drop_next required (required_in (index + 1) (Left names of (index + 1))) next index (so_far.wanted ∙ e))

      -- the field is read
      pub index_read : (v : ValueCode) → ((shape : ShapeCode) → shape ≡ slice_index_or of index shape → read (shape_view shape) (view value) ≡ Ok (value_view v))
          → Members_read names of given required later (index + 1) after (indices ++ index ∷ []) (vs ++ v ∷ [])
      index_read v reads =
          let n = there names index index_inside in
          let shape = there of index (omega (arith, index_inside, long)) in record {
            before = field_present names of given index n.0 shape.0 index_inside (omega (arith, index_inside, long)) n.1 shape.1 indices vs v over.0 (field_here n.0 shape.0 n.1 ∙ reads shape.0 shape.1);
            inside = omega (arith, index_inside);
            known = subst (AllByRecursion (Known given (members_view later)))
                (drop-drop (suc named.0) from names ∙ ap (λ at. drop at names) (omega (arith, named.2))) facts.after;
            rise = rise_later;
            wanted = wanted_next shape.0 shape.1;
          }

module _ {names : List (List ℕ)} {of : List ShapeCode} {given : json.Members} (long : length names ≤ length of) {required : List ℕ} {now : List Entry} (none : now ≡ []) {from next : ℕ} {indices : List ℕ} {vs : List ValueCode}
    (so_far : Members_read names of given required now from next indices vs) where
  known_end : AllByRecursion (Known given json.no_members) (drop from names)
  known_end = rw none at so_far.known

  absent_end : AllByRecursion (Absent given) (take (length names - from) (drop from names))
  absent_end = rw (take_all (length names - from) (drop from names) (omega (arith, length-drop from names))) known_end

  -- no field after the last member is required
  pub ends : (after : ℕ) → Ok after ≡ passed required next (length names) → fields_read (Of names of) given ≡ Ok (fields_from 0 names indices (map value_view vs))
  ends after met =
      let met_from = sym (met ∙ passed_from required _ next (length names) so_far.wanted) in
      let over = gap names of given long (length names - from) from (length names) indices vs (omega (arith, so_far.inside)) (omega arith) absent_end
      (passes next (length names) after (required_in from (Left names of from)) met_from) so_far.before in
      no_field_left names of given (length names) indices vs long (omega arith) over.0

  -- one has
  pub ends_missing : (e : ShapeFault) → Err e ≡ passed required next (length names) → fields_read (Of names of) given ≡ Err e
  ends_missing e refused =
      let stop = stops next (length names) e (required_in from (Left names of from)) (sym (refused ∙ passed_from required _ next (length names) so_far.wanted)) in
      missing names of given long (length names - from) from (length names) indices vs (omega (arith, so_far.inside)) (omega arith) absent_end stop.0 so_far.before
      ∙ ap (λ (fault : ShapeFault). Err fault) (sym stop.1)

-- Reading borrowed values, item by item.
use Rattle.std.proofs.Common.{◌≡◌, ℕ, suc, ◌+◌, ◌<◌, ◌≤◌, Bool, true, false, List, [], ◌∷◌, ◌++◌, length, map, drop, get_or, Option, Some, None, option_map, option_and_then, IsSome, Result, Ok, Err, IfOk, arith, refl, sym, ap, ◌∙◌}
use Rattle.std.proofs.lemmas.Bool.Decides.{nat_tests}
use Rattle.std.proofs.lemmas.List.{drop_all, drop_more}
use Rattle.json.specs.Json as json
use Rattle.json.specs.Find as json_find
use Rattle.json.specs.Value.{value_view as borrowed_view, items_view as borrowed_items}
use Rattle.json.specs.declared.value.Value.{Value as Borrowed}
use Rattle.json.proofs.Found.{Some_inj, not_found}
use Rattle.serde_json.specs.Data as serde
use Rattle.serde_json.specs.Data.{Data}
use Rattle.serde_json.specs.Read.{number_of, of_json, of_items, of_members}
use Rattle.ar_value.specs.Answer.{◌>>=◌, Gives, Unless}
use Rattle.ar_value.specs.Fits.{fits}
use Rattle.ar_value.specs.Shape.{Shape}
use Rattle.ar_value.specs.Shape as shapes
use Rattle.ar_value.specs.Value.{Value, Items, items_of, item, no_items}
use Rattle.ar_value.specs.Value as values
use Rattle.ar_value.specs.View.{value_view}
use Rattle.ar_value.specs.declared.value.Value.{Value as ValueCode}
use Rattle.ar_json.specs.declared.value_reading.ShapeFault.{ShapeFault}
use Rattle.ar_json.specs.declared.value_reading.ShapeFault.TheVariants.{ListTooLong, WrongKind}
use Rattle.ar_json.specs.Names.{ShapeNamesRise, ValueNamesRise}
use Rattle.ar_json.specs.Reading.{read, items_read, list_read, item_count, is_reading_memory, is_memory_under}
use Rattle.ar_json.proofs.ReadLemmas.{Items_before, under_is_memory}
use Rattle.ar_json.proofs.ReadFits.{read_value_fits}
use Rattle.ar_json.proofs.ReadNames.{gives_names}
use Rattle.ar_measured.specs.Private.Measuring.{IsDefinedFault, IsMeasured}

-- ---- Data that is there

-- what a value that is there was made of
made_of : {A B : Type 0} (f : A → B) (o : Option A) (b : B) → option_map f o ≡ Some b → (a : A) × (o ≡ Some a) × (f a ≡ b)
made_of f None b e = not_found b e
made_of f (Some a) b e = (a, refl, Some_inj _ _ e)

-- a refusal that isn't out of memory leads to another
leads : {P Q : Type 0} (memory : Bool) → (P → Q) → Unless memory P → Unless memory Q
leads true f h = tt
leads false f h = f h

-- ---- What a call gives

pub measured_exact : (m : ShapeFault → Bool) (R : Data → Result Value ShapeFault) (o : Option Data) (r : Result ValueCode ShapeFault) → IsMeasured m value_view r (option_map R o) → (d : Data) → o ≡ Some d → Gives m value_view r (R d)
measured_exact m R o (Ok v) h d is = Some_inj _ _ (sym (ap (option_map R) is) ∙ h)
measured_exact m R o (Err e) h d is = leads (m e) (λ (fault : IsDefinedFault e (option_map R o)). rw is at fault) h

pub measured_there : (m : ShapeFault → Bool) (R : Data → Result Value ShapeFault) (o : Option Data) (r : Result ValueCode ShapeFault) → IsMeasured m value_view r (option_map R o) → IfOk r (λ v. IsSome o)
measured_there m R o (Ok v) h = let made = made_of R o _ h in rw made.1 refl
measured_there m R o (Err e) h = tt

pub measured_fits : (m : ShapeFault → Bool) (shape : Shape) (o : Option Data) (r : Result ValueCode ShapeFault) → IsMeasured m value_view r (option_map (λ d. read shape d) o) → IfOk r (λ v. fits (value_view v) shape ≡ true)
measured_fits m shape o (Ok v) h = let made = made_of (λ d. read shape d) o _ h in read_value_fits shape made.0 (value_view v) made.2
measured_fits m shape o (Err e) h = tt

pub measured_names : (m : ShapeFault → Bool) (shape : Shape) (o : Option Data) (r : Result ValueCode ShapeFault) → IsMeasured m value_view r (option_map (λ d. read shape d) o) → ShapeNamesRise shape → IfOk r (λ v. ValueNamesRise (value_view v))
measured_names m shape o (Ok v) h rise = let made = made_of (λ d. read shape d) o _ h in gives_names (Ok v) shape made.0 made.2 rise
measured_names m shape o (Err e) h rise = tt

-- ---- Kinds

-- whether a value may be of a shape, by its kind
abbrev suits : Shape → json.Json → Bool
suits shapes.bool (json.boolean b) = true
suits shapes.whole (json.number s) = true
suits shapes.decimal (json.number s) = true
suits shapes.decimal (json.string s) = true
suits shapes.text (json.string s) = true
suits (shapes.list shape max) (json.array js) = true
suits (shapes.object of) (json.object ms) = true
suits (shapes.optional shape) j = true
suits shape j = false

wrong : {B : Type 0} (R : Data → Result Value ShapeFault) (make : B → Data) (o : Option B) → ((b : B) → R (make b) ≡ Err WrongKind) → IsDefinedFault WrongKind (option_map R (option_map make o))
wrong R make None each = tt
wrong R make (Some b) each = each b

pub wrong_kind : (shape : Shape) (j : json.Json) → suits shape j ≡ false → IsDefinedFault WrongKind (option_map (λ d. read shape d) (of_json j))
wrong_kind shapes.bool (json.boolean b) is = absurd (cc)
wrong_kind shapes.bool json.null is = refl
wrong_kind shapes.bool (json.number s) is = wrong (λ d. read shapes.bool d) serde.number (number_of s) (λ n. refl)
wrong_kind shapes.bool (json.string s) is = refl
wrong_kind shapes.bool (json.array js) is = wrong (λ d. read shapes.bool d) serde.array (of_items js) (λ ds. refl)
wrong_kind shapes.bool (json.object ms) is = wrong (λ d. read shapes.bool d) serde.object (of_members ms serde.no_members) (λ ds. refl)
wrong_kind shapes.whole (json.number s) is = absurd (cc)
wrong_kind shapes.whole json.null is = refl
wrong_kind shapes.whole (json.boolean b) is = refl
wrong_kind shapes.whole (json.string s) is = refl
wrong_kind shapes.whole (json.array js) is = wrong (λ d. read shapes.whole d) serde.array (of_items js) (λ ds. refl)
wrong_kind shapes.whole (json.object ms) is = wrong (λ d. read shapes.whole d) serde.object (of_members ms serde.no_members) (λ ds. refl)
wrong_kind shapes.decimal (json.number s) is = absurd (cc)
wrong_kind shapes.decimal (json.string s) is = absurd (cc)
wrong_kind shapes.decimal json.null is = refl
wrong_kind shapes.decimal (json.boolean b) is = refl
wrong_kind shapes.decimal (json.array js) is = wrong (λ d. read shapes.decimal d) serde.array (of_items js) (λ ds. refl)
wrong_kind shapes.decimal (json.object ms) is = wrong (λ d. read shapes.decimal d) serde.object (of_members ms serde.no_members) (λ ds. refl)
wrong_kind shapes.text (json.string s) is = absurd (cc)
wrong_kind shapes.text json.null is = refl
wrong_kind shapes.text (json.boolean b) is = refl
wrong_kind shapes.text (json.number s) is = wrong (λ d. read shapes.text d) serde.number (number_of s) (λ n. refl)
wrong_kind shapes.text (json.array js) is = wrong (λ d. read shapes.text d) serde.array (of_items js) (λ ds. refl)
wrong_kind shapes.text (json.object ms) is = wrong (λ d. read shapes.text d) serde.object (of_members ms serde.no_members) (λ ds. refl)
wrong_kind (shapes.list shape max) (json.array js) is = absurd (cc)
wrong_kind (shapes.list shape max) json.null is = refl
wrong_kind (shapes.list shape max) (json.boolean b) is = refl
wrong_kind (shapes.list shape max) (json.number s) is = wrong (λ d. read (shapes.list shape max) d) serde.number (number_of s) (λ n. refl)
wrong_kind (shapes.list shape max) (json.string s) is = refl
wrong_kind (shapes.list shape max) (json.object ms) is = wrong (λ d. read (shapes.list shape max) d) serde.object (of_members ms serde.no_members) (λ ds. refl)
wrong_kind (shapes.object of) (json.object ms) is = absurd (cc)
wrong_kind (shapes.object of) json.null is = refl
wrong_kind (shapes.object of) (json.boolean b) is = refl
wrong_kind (shapes.object of) (json.number s) is = wrong (λ d. read (shapes.object of) d) serde.number (number_of s) (λ n. refl)
wrong_kind (shapes.object of) (json.string s) is = refl
wrong_kind (shapes.object of) (json.array js) is = wrong (λ d. read (shapes.object of) d) serde.array (of_items js) (λ ds. refl)
wrong_kind (shapes.optional shape) j is = absurd (cc)

-- ---- Optional shapes

pub nil_read : (shape : Shape) (j : json.Json) → json_find.is_null j ≡ true → option_map (λ d. read (shapes.optional shape) d) (of_json j) ≡ Some (Ok values.nil)
nil_read shape json.null is = refl
nil_read shape (json.boolean b) is = absurd (cc)
nil_read shape (json.number s) is = absurd (cc)
nil_read shape (json.string s) is = absurd (cc)
nil_read shape (json.array js) is = absurd (cc)
nil_read shape (json.object ms) is = absurd (cc)

plain_made : {B : Type 0} (shape : Shape) (make : B → Data) (o : Option B) → ((b : B) → read (shapes.optional shape) (make b) ≡ read shape (make b))
    → option_map (λ d. read (shapes.optional shape) d) (option_map make o) ≡ option_map (λ d. read shape d) (option_map make o)
plain_made shape make None each = refl
plain_made shape make (Some b) each = ap (λ (a : Result Value ShapeFault). Some a) (each b)

-- what isn't null is read under the plain shape
pub plain_read : (shape : Shape) (j : json.Json) → json_find.is_null j ≡ false → option_map (λ d. read (shapes.optional shape) d) (of_json j) ≡ option_map (λ d. read shape d) (of_json j)
plain_read shape json.null is = absurd (cc)
plain_read shape (json.boolean b) is = refl
plain_read shape (json.number s) is = plain_made shape serde.number (number_of s) (λ n. refl)
plain_read shape (json.string s) is = refl
plain_read shape (json.array js) is = plain_made shape serde.array (of_items js) (λ ds. refl)
plain_read shape (json.object ms) is = plain_made shape serde.object (of_members ms serde.no_members) (λ ds. refl)

-- ---- By way of a tree

kept : {P : Type 0} (memory : Bool) → P → Unless memory P
kept true h = tt
kept false h = h

more_memory : (P : Type 0) (m n : Bool) → (m ≡ true → n ≡ true) → Unless m P → Unless n P
more_memory P true n more h = rw (more refl) tt
more_memory P false n more h = kept n h

pub given : (m n : ShapeFault → Bool) (r : Result ValueCode ShapeFault) (answer : Result Value ShapeFault) → ((e : ShapeFault) → m e ≡ true → n e ≡ true) → Gives m value_view r answer → IsMeasured n value_view r (Some answer)
given m n (Ok x) answer more h = ap (λ (a : Result Value ShapeFault). Some a) h
given m n (Err e) answer more h = more_memory (answer ≡ Err e) (m e) (n e) (more e) h

abbrev as_data : Data → Result Data ShapeFault
as_data d = Ok d

-- what is read of the tree is what is read of the data
pub tree_read : (shape : Shape) (o : Option Data) (d : Data) (r : Result ValueCode ShapeFault) → option_map as_data o ≡ Some (as_data d) → Gives (is_memory_under shape) value_view r (read shape d)
    → IsMeasured is_reading_memory value_view r (option_map (λ d. read shape d) o)
tree_read shape None d r there h = absurd (cc)
tree_read shape (Some x) d r there h =
    let same : x ≡ d = grind arith in
    rw same (given (is_memory_under shape) is_reading_memory r (read shape d) (under_is_memory shape) h)

-- ---- Lists

then_of : {A B : Type 0} (f : A → Option B) (o : Option A) (b : B) → option_and_then f o ≡ Some b → (a : A) × (o ≡ Some a) × (f a ≡ Some b)
then_of f None b e = not_found b e
then_of f (Some a) b e = (a, refl, e)

-- an array has as many items as its data
counted : {A : Type 0} (list : List (Borrowed A)) (ds : serde.Items) → of_items (borrowed_items list) ≡ Some ds → item_count ds ≡ length list
counted [] ds e = ap item_count (sym (Some_inj _ _ e))
counted (x ∷ xs) ds e =
    let first = then_of (λ d. option_map (serde.item d) (of_items (borrowed_items xs))) (of_json (borrowed_view x)) ds e in
    let rest = made_of (serde.item first.0) (of_items (borrowed_items xs)) ds first.2 in
    ap item_count (sym rest.2) ∙ ap suc (counted xs rest.0 rest.1)

abbrev as_list : Result Items ShapeFault → Result Value ShapeFault
as_list answer = answer >>= λ items. Ok (values.list items)

module _ {A : Type 0} (R : Data → Result Value ShapeFault) (max : ℕ) (json : List (Borrowed A)) where
  pub list_too_long : max < length json → IsDefinedFault ListTooLong (option_map (λ ds. list_read R max ds) (of_items (borrowed_items json)))
  list_too_long long = by (of_items (borrowed_items json)) refl
    where
      by : (o : Option serde.Items) → of_items (borrowed_items json) ≡ o → IsDefinedFault ListTooLong (option_map (λ ds. list_read R max ds) o)
      by None is = tt
      by (Some ds) is = rw (counted json ds is) (grind (arith, nat_tests))

  pub list_short : length json ≤ max
      → option_map (λ ds. list_read R max ds) (of_items (borrowed_items json)) ≡ option_map as_list (option_map (λ ds. items_read R ds) (of_items (borrowed_items json)))
  list_short short = by (of_items (borrowed_items json)) refl
    where
      by : (o : Option serde.Items) → of_items (borrowed_items json) ≡ o → option_map (λ ds. list_read R max ds) o ≡ option_map as_list (option_map (λ ds. items_read R ds) o)
      by None is = refl
      by (Some ds) is = ap (λ (a : Result Value ShapeFault). Some a) (rw (counted json ds is) (grind (arith, nat_tests)))

  pub list_refused : (e : ShapeFault) → length json ≤ max → Unless (is_reading_memory e) (IsDefinedFault e (option_map (λ ds. items_read R ds) (of_items (borrowed_items json))))
      → Unless (is_reading_memory e) (IsDefinedFault e (option_map (λ ds. list_read R max ds) (of_items (borrowed_items json))))
  list_refused e short h =
      leads (is_reading_memory e) (λ (fault : IsDefinedFault e (option_map (λ ds. items_read R ds) (of_items (borrowed_items json)))). rw (list_short short) (by (option_map (λ ds. items_read R ds) (of_items (borrowed_items json))) fault)) h
    where
      by : (answer : Option (Result Items ShapeFault)) → IsDefinedFault e answer → IsDefinedFault e (option_map as_list answer)
      by None fault = tt
      by (Some a) fault = ap as_list fault

pub array_read : (shape : Shape) (max : ℕ) (o : Option serde.Items) → option_map (λ d. read (shapes.list shape max) d) (option_map serde.array o) ≡ option_map (λ ds. list_read (λ d. read shape d) max ds) o
array_read shape max None = refl
array_read shape max (Some ds) = refl

-- ---- Items

-- what is read of an array's items
abbrev pub Read_of : {A : Type 0} → (Data → Result Value ShapeFault) → List (Borrowed A) → Option (Result Items ShapeFault)
Read_of R list = option_map (λ ds. items_read R ds) (of_items (borrowed_items list))

-- items that were read, before what is read of the rest
abbrev pub Read_before : List ValueCode → Option (Result Items ShapeFault) → Option (Result Items ShapeFault)
Read_before done rest = option_map (Items_before (map value_view done)) rest

before_err : (done : List Value) (e : ShapeFault) → Items_before done (Err e) ≡ Err e
before_err [] e = refl
before_err (value ∷ vs) e = rw (before_err vs e) refl

before_none : (done : List Value) → Items_before done (Ok no_items) ≡ Ok (items_of done)
before_none [] = refl
before_none (value ∷ vs) = rw (before_none vs) refl

before_one : (done : List ValueCode) (v : ValueCode) (rest : Result Items ShapeFault)
    → Items_before (map value_view done) (rest >>= λ items. Ok (item (value_view v) items)) ≡ Items_before (map value_view (done ++ v ∷ [])) rest
before_one [] v rest = refl
before_one (d ∷ done) v rest = rw (before_one done v rest) refl

-- the value of an item, and the items after it
abbrev with_rest : Result Value ShapeFault → Result Items ShapeFault → Result Items ShapeFault
with_rest first rest = first >>= λ value. rest >>= λ items. Ok (item value items)

module _ (R : Data → Result Value ShapeFault) where
  first_read : (j : json.Json) (js : json.Items) (d : Data) → of_json j ≡ Some d
      → option_map (λ ds. items_read R ds) (of_items (json.item j js)) ≡ option_map (with_rest (R d)) (option_map (λ ds. items_read R ds) (of_items js))
  first_read j js d is = ap (λ o. option_map (λ ds. items_read R ds) (option_and_then (λ d. option_map (serde.item d) (of_items js)) o)) is ∙ by (of_items js)
    where
      by : (o : Option serde.Items) → option_map (λ ds. items_read R ds) (option_map (serde.item d) o) ≡ option_map (with_rest (R d)) (option_map (λ ds. items_read R ds) o)
      by None = refl
      by (Some ds) = refl

  one_more : (done : List ValueCode) (v : ValueCode) (d : Data) (rest : Option (Result Items ShapeFault)) → R d ≡ Ok (value_view v) → Read_before done (option_map (with_rest (R d)) rest) ≡ Read_before (done ++ v ∷ []) rest
  one_more done v d None is = refl
  one_more done v d (Some rest) is = ap (λ (a : Result Items ShapeFault). Some a) (ap (λ r. Items_before (map value_view done) (with_rest r rest)) is ∙ before_one done v rest)

  one_refused : (done : List ValueCode) (e : ShapeFault) (d : Data) (rest : Option (Result Items ShapeFault)) → R d ≡ Err e → IsDefinedFault e (Read_before done (option_map (with_rest (R d)) rest))
  one_refused done e d None is = tt
  one_refused done e d (Some rest) is = ap (λ r. Items_before (map value_view done) (with_rest r rest)) is ∙ before_err (map value_view done) e

  module _ {A : Type 0} (list : List (Borrowed A)) (i : ℕ) (done : List ValueCode) (all : Option (Result Items ShapeFault)) where
    at : (x : Borrowed A) → i < length list → x ≡ get_or list i x → Read_of R (drop i list) ≡ Read_of R (x ∷ drop (i + 1) list)
    at x below is = ap (Read_of R) (drop_more list i x below ∙ ap (λ (first : Borrowed A). first ∷ drop (i + 1) list) (sym is))

    pub next_item : (x : Borrowed A) (v : ValueCode) (later : List ValueCode) → i < length list → x ≡ get_or list i x → later ≡ done ++ v ∷ []
        → all ≡ Read_before done (Read_of R (drop i list)) → option_map R (of_json (borrowed_view x)) ≡ Some (Ok (value_view v))
        → all ≡ Read_before later (Read_of R (drop (i + 1) list))
    next_item x v later below is pushed so_far reads =
        let made = made_of R (of_json (borrowed_view x)) (Ok (value_view v)) reads in
        so_far ∙ ap (Read_before done) (at x below is ∙ first_read (borrowed_view x) (borrowed_items (drop (i + 1) list)) made.0 made.1)
        ∙ one_more done v made.0 (Read_of R (drop (i + 1) list)) made.2
        ∙ ap (λ vs. Read_before vs (Read_of R (drop (i + 1) list))) (sym pushed)

    pub item_refused : (m : Bool) (x : Borrowed A) (e : ShapeFault) → (m ≡ true → is_reading_memory e ≡ true) → i < length list → x ≡ get_or list i x
        → all ≡ Read_before done (Read_of R (drop i list)) → Unless m (IsDefinedFault e (option_map R (of_json (borrowed_view x))))
        → Unless (is_reading_memory e) (IsDefinedFault e all)
    item_refused m x e more below is so_far h =
        leads (is_reading_memory e) (λ (fault : IsDefinedFault e (option_map R (of_json (borrowed_view x)))). rw so_far (rw (at x below is) (by (of_json (borrowed_view x)) refl fault)))
        (more_memory (IsDefinedFault e (option_map R (of_json (borrowed_view x)))) m (is_reading_memory e) more h)
      where
        by : (o : Option Data) → of_json (borrowed_view x) ≡ o → IsDefinedFault e (option_map R o) → IsDefinedFault e (Read_before done (Read_of R (x ∷ drop (i + 1) list)))
        by None none fault = rw none tt
        by (Some d) there fault = rw (first_read (borrowed_view x) (borrowed_items (drop (i + 1) list)) d there) (one_refused done e d (Read_of R (drop (i + 1) list)) fault)

    pub items_end : length list ≤ i → all ≡ Read_before done (Read_of R (drop i list)) → all ≡ Some (Ok (items_of (map value_view done)))
    items_end past so_far =
        so_far ∙ ap (λ rest. Read_before done (Read_of R rest)) (drop_all i list past) ∙ ap (λ (a : Result Items ShapeFault). Some a) (before_none (map value_view done))

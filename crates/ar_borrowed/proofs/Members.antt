-- A JSON value and the data that it is: members, texts and items.
use Rattle.std.proofs.Common.{◌≡◌, ℕ, List, Bool, true, false, cond, Option, Some, None, option_map, bytes_eq, true≢false, refl, sym, ap, ◌∙◌}
use Rattle.std.specs.Prelude.{option_and_then}
use Rattle.std.proofs.lemmas.Slice.Eq.{bytes_eq-Decides}
use Rattle.json.specs.Json as json
use Rattle.json.specs.Find as json_find
use Rattle.json.proofs.Found.{Some_inj, not_found}
use Rattle.serde_json.specs.Data.{Data, number, array, object, Items, Members, no_members, put}
use Rattle.serde_json.specs.Find as find
use Rattle.serde_json.specs.Read.{number_of, of_json, of_items, of_members}
use Rattle.serde_json.proofs.Views.{get_member-put, get_member-put_other}

-- ---- Values that are there

-- what a value that is there was made of
made_of : {A B : Type 0} (f : A → B) (o : Option A) (b : B) → option_map f o ≡ Some b → (a : A) × (o ≡ Some a) × (b ≡ f a)
made_of f None b e = not_found b e
made_of f (Some a) b e = (a, refl, sym (Some_inj _ _ e))

then_of : {A B : Type 0} (f : A → Option B) (o : Option A) (b : B) → option_and_then f o ≡ Some b → (a : A) × (o ≡ Some a) × (f a ≡ Some b)
then_of f None b e = not_found b e
then_of f (Some a) b e = (a, refl, e)

-- ---- Members

-- the data of a member that may be there
abbrev data_of : Option json.Json → Option (Option Data)
data_of o = option_map of_json o

abbrev there : Option Data → Option (Option Data)
there o = option_map (λ (d : Data). Some d) o

-- a later member, or else what is found
abbrev later_data : Option (Option Data) → Option (Option Data) → Option (Option Data)
later_data None found = found
later_data (Some d) found = Some d

later_of : (later earlier : Option json.Json) → data_of (json_find.later_or later earlier) ≡ later_data (data_of later) (data_of earlier)
later_of None earlier = refl
later_of (Some j) earlier = refl

later_nothing : (later found : Option (Option Data)) → later_data (later_data later None) found ≡ later_data later found
later_nothing None found = refl
later_nothing (Some d) found = refl

later_something : (later found : Option (Option Data)) (d : Option Data) → later_data (later_data later (Some d)) found ≡ later_data later (Some d)
later_something None found d = refl
later_something (Some e) found d = refl

-- a member of the name, or of another, before the members that are left
member_first : (same : Bool) (name k : List ℕ) (j : json.Json) (d : Data) (later : Option json.Json) (found : Members) → bytes_eq k name ≡ same → of_json j ≡ Some d
    → later_data (data_of (json_find.later_or later (cond same (Some j) None))) (there (find.get_member name found)) ≡ later_data (data_of later) (there (find.get_member name (put k d found)))
member_first true name k j d later found is of =
    let named : k ≡ name = (bytes_eq-Decides k name).0 is in
    let put_there : find.get_member name (put k d found) ≡ Some d = ap (λ n. find.get_member n (put k d found)) (sym named) ∙ get_member-put k d found in
    ap (λ o. later_data o (there (find.get_member name found))) (later_of later (Some j))
    ∙ later_something (data_of later) (there (find.get_member name found)) (of_json j)
    ∙ ap (λ o. later_data (data_of later) (Some o)) of
    ∙ ap (λ o. later_data (data_of later) (there o)) (sym put_there)
member_first false name k j d later found is of =
    let other : find.get_member name (put k d found) ≡ find.get_member name found = get_member-put_other name k d found (λ same. true≢false (sym ((bytes_eq-Decides k name).1 (sym same)) ∙ is)) in
    ap (λ o. later_data o (there (find.get_member name found))) (later_of later None)
    ∙ later_nothing (data_of later) (there (find.get_member name found))
    ∙ ap (λ o. later_data (data_of later) (there o)) (sym other)

-- members that are put one after another: the last of a name is found, or else what was there before
members_found : (name : List ℕ) (ms : json.Members) (found all : Members) → of_members ms found ≡ Some all
    → later_data (data_of (json_find.get_member name ms)) (there (find.get_member name found)) ≡ there (find.get_member name all)
members_found name json.no_members found all e = ap (λ ds. there (find.get_member name ds)) (Some_inj _ _ e)
members_found name (json.member k j ms) found all e =
    let made = then_of (λ d. of_members ms (put k d found)) (of_json j) all e in
    member_first (bytes_eq k name) name k j made.0 (json_find.get_member name ms) found refl made.1
    ∙ members_found name ms (put k made.0 found) all made.2

nothing_found : (o : Option (Option Data)) → later_data o None ≡ o
nothing_found None = refl
nothing_found (Some d) = refl

-- A member is there in both or in none, and its data is that of the member.
pub found_member : (name : List ℕ) (j : json.Json) (d : Data) → of_json j ≡ Some d → option_map of_json (json_find.get name j) ≡ option_map Some (find.get name d)
found_member name json.null d e = ap (λ x. there (find.get name x)) (Some_inj _ _ e)
found_member name (json.boolean b) d e = ap (λ x. there (find.get name x)) (Some_inj _ _ e)
found_member name (json.number s) d e = let made = made_of number (number_of s) d e in ap (λ x. there (find.get name x)) (sym made.2)
found_member name (json.string s) d e = ap (λ x. there (find.get name x)) (Some_inj _ _ e)
found_member name (json.array js) d e = let made = made_of array (of_items js) d e in ap (λ x. there (find.get name x)) (sym made.2)
found_member name (json.object ms) d e =
    let made = made_of object (of_members ms no_members) d e in
    sym (nothing_found (data_of (json_find.get_member name ms))) ∙ members_found name ms no_members made.0 made.1 ∙ ap (λ x. there (find.get name x)) (sym made.2)

-- ---- Texts and items

-- both are the same text, or neither is a text
pub text_of_data : (j : json.Json) (d : Data) → of_json j ≡ Some d → json_find.as_str j ≡ find.as_str d
text_of_data json.null d e = ap find.as_str (Some_inj _ _ e)
text_of_data (json.boolean b) d e = ap find.as_str (Some_inj _ _ e)
text_of_data (json.number s) d e = let made = made_of number (number_of s) d e in ap find.as_str (sym made.2)
text_of_data (json.string s) d e = ap find.as_str (Some_inj _ _ e)
text_of_data (json.array js) d e = let made = made_of array (of_items js) d e in ap find.as_str (sym made.2)
text_of_data (json.object ms) d e = let made = made_of object (of_members ms no_members) d e in ap find.as_str (sym made.2)

-- both are arrays, of items and of their data, or neither is an array
pub items_of_data : (j : json.Json) (d : Data) → of_json j ≡ Some d → option_map of_items (json_find.as_array j) ≡ option_map Some (find.as_array d)
items_of_data json.null d e = ap (λ x. option_map (λ (ds : Items). Some ds) (find.as_array x)) (Some_inj _ _ e)
items_of_data (json.boolean b) d e = ap (λ x. option_map (λ (ds : Items). Some ds) (find.as_array x)) (Some_inj _ _ e)
items_of_data (json.number s) d e = let made = made_of number (number_of s) d e in ap (λ x. option_map (λ (ds : Items). Some ds) (find.as_array x)) (sym made.2)
items_of_data (json.string s) d e = ap (λ x. option_map (λ (ds : Items). Some ds) (find.as_array x)) (Some_inj _ _ e)
items_of_data (json.array js) d e =
    let made = made_of array (of_items js) d e in
    ap (λ (o : Option Items). Some o) made.1 ∙ ap (λ x. option_map (λ (ds : Items). Some ds) (find.as_array x)) (sym made.2)
items_of_data (json.object ms) d e = let made = made_of object (of_members ms no_members) d e in ap (λ x. option_map (λ (ds : Items). Some ds) (find.as_array x)) (sym made.2)

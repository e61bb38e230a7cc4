-- What an entry says, in a value that borrows its texts and in its data.
use Rattle.std.proofs.Common.{◌≡◌, ℕ, List, length, Bool, false, Option, Some, None, option_map, Bor, refl, sym, ap, ◌∙◌}
use Rattle.std.specs.Prelude.{codes, is_some, option_and_then}
use Rattle.json.specs.Json as json
use Rattle.json.specs.Find as json_find
use Rattle.json.specs.Value.{value_view}
use Rattle.json.specs.declared.value.Value.{Value}
use Rattle.json.proofs.Found.{Some_inj}
use Rattle.serde_json.specs.Data as serde
use Rattle.serde_json.specs.Data.{Data}
use Rattle.serde_json.specs.Find.{as_str, get}
use Rattle.serde_json.specs.Read.{number_of, of_items, of_json, of_members}
use Rattle.ar_borrowed.proofs.Members.{found_member, text_of_data}
use Rattle.ar_document.specs.Entries.{Entry, Stated, entry_in, entry_saying, is_true, stated_as, stated_by}
use Rattle.ar_document.specs.Opening.{Opened}
use Rattle.ar_document.specs.Private.Saying.{IsGiven, is_true_in}

-- ---- a member that was found, and its data

texts : (found : Option json.Json) (given : Option Data) → option_map of_json found ≡ option_map Some given → option_and_then json_find.as_str found ≡ option_and_then as_str given
texts None None same = refl
texts (Some j) (Some d) same = text_of_data j d (Some_inj _ _ same)
texts None (Some d) same = absurd (cc)
texts (Some j) None same = absurd (cc)

theres : (found : Option json.Json) (given : Option Data) → option_map of_json found ≡ option_map Some given → is_some found ≡ is_some given
theres None None same = refl
theres (Some j) (Some d) same = refl
theres None (Some d) same = absurd (cc)
theres (Some j) None same = absurd (cc)

not_true : {B : Type 0} (make : B → Data) (o : Option B) (d : Data) → ((b : B) → is_true (Some (make b)) ≡ false) → option_map make o ≡ Some d → false ≡ is_true (Some d)
not_true make None d each same = absurd (cc)
not_true make (Some b) d each same = sym (each b) ∙ ap is_true same

same_boolean : (j : json.Json) (d : Data) → of_json j ≡ Some d → is_true_in (Some j) ≡ is_true (Some d)
same_boolean json.null d is = ap is_true is
same_boolean (json.boolean b) d is = ap is_true is
same_boolean (json.number s) d is = not_true serde.number (number_of s) d (λ n. refl) is
same_boolean (json.string s) d is = ap is_true is
same_boolean (json.array js) d is = not_true serde.array (of_items js) d (λ ds. refl) is
same_boolean (json.object ms) d is = not_true serde.object (of_members ms serde.no_members) d (λ ds. refl) is

same_booleans : (found : Option json.Json) (given : Option Data) → option_map of_json found ≡ option_map Some given → is_true_in found ≡ is_true given
same_booleans None None same = refl
same_booleans (Some j) (Some d) same = same_boolean j d (Some_inj _ _ same)
same_booleans None (Some d) same = absurd (cc)
same_booleans (Some j) None same = absurd (cc)

givens : {A : Type 0} (found : Option (Bor (Value A))) (given : Option Data) → option_map of_json (option_map (λ (v : Bor (Value A)). value_view v.now) found) ≡ option_map Some given → IsGiven found given
givens None None same = tt
givens (Some v) (Some d) same = Some_inj _ _ same
givens None (Some d) same = absurd (cc)
givens (Some v) None same = absurd (cc)

-- ---- an item

module _ (j : json.Json) (made : Data) (is : of_json j ≡ Some made) where
  pub is_given : {A : Type 0} (name : List ℕ) (found : Option (Bor (Value A))) → option_map (λ (v : Bor (Value A)). value_view v.now) found ≡ json_find.get name j → IsGiven found (get name made)
  is_given name found looked = givens found (get name made) (ap (option_map of_json) looked ∙ found_member name j made is)

  pub says : (run metric : Option (List ℕ)) (stops fails : Bool) → run ≡ option_and_then json_find.as_str (json_find.get (codes "run") j) → metric ≡ option_and_then json_find.as_str (json_find.get (codes "metric") j)
      → stops ≡ is_true_in (json_find.get (codes "stop") j) → fails ≡ is_some (json_find.get (codes "error") j) → stated_as run metric stops (get (codes "value") made) fails ≡ stated_by made
  says run metric stops fails r m s f =
      rw (
        r ∙ texts (json_find.get (codes "run") j) (get (codes "run") made) (found_member (codes "run") j made is),
        m ∙ texts (json_find.get (codes "metric") j) (get (codes "metric") made) (found_member (codes "metric") j made is),
        s ∙ same_booleans (json_find.get (codes "stop") j) (get (codes "stop") made) (found_member (codes "stop") j made is),
        f ∙ theres (json_find.get (codes "error") j) (get (codes "error") made) (found_member (codes "error") j made is),
      ) refl

pub mapped_there : {A B : Type 0} (f : A → B) (o : Option A) → is_some o ≡ is_some (option_map f o)
mapped_there f None = refl
mapped_there f (Some a) = refl

-- the entry of an item is that of what it says
pub entry_same : (opened : Opened) (number : ℕ) (earlier : List Entry) (made : Data) (said : Stated) → length earlier ≡ number → said ≡ stated_by made → entry_saying opened number said ≡ entry_in opened earlier made
unfolding entry_in
entry_same opened number earlier made said many says = ap (λ n. entry_saying opened n said) (sym many) ∙ ap (entry_saying opened (length earlier)) says

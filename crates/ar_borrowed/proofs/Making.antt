-- Values made of borrowed ones, item by item and member by member.
use Rattle.std.proofs.Common.{◌≡◌, ℕ, ◌+◌, ◌<◌, ◌≤◌, Bool, true, false, List, [], ◌∷◌, ◌++◌, length, drop, get_or, Option, Some, None, option_map, option_and_then, Result, Ok, Err, arith, String, Global, Vec, BTreeMap, Bor, string_bytes, string_cmp, refl, sym, ap, ◌∙◌}
use Rattle.std.proofs.lemmas.List.{drop_all, drop_more}
use Rattle.std.specs.BTreeMap.{insert_entry}
use Rattle.json.specs.Value.{value_view, items_view as borrowed_items, members_view as borrowed_members}
use Rattle.json.specs.declared.value.Value.{Value as Borrowed, Object as BorrowedObject}
use Rattle.json.proofs.Trees.{view-Object as borrowed-Object}
use Rattle.serde_json.specs.Data.{Data, Items, Members, no_items, item, no_members, object, put}
use Rattle.serde_json.specs.Read.{of_json, of_items, of_members}
use Rattle.serde_json.specs.View.{view, items_view, members_view}
use Rattle.serde_json.specs.declared.value.Value.{Value, Object}
use Rattle.serde_json.proofs.Views.{Entry, members_view-insert_entry, view-Object}
use Rattle.ar_value.specs.Answer.{Unless, there_or}
use Rattle.ar_borrowed.specs.declared.trees.TreeError.{TreeError}
use Rattle.ar_borrowed.specs.declared.trees.TreeError.TheVariants.{OutOfRange}

-- ---- Refusals

value_of : {A : Type 0} (o : Option A) (x : A) → there_or OutOfRange o ≡ Ok x → o ≡ Some x
value_of None x h = absurd (cc)
value_of (Some y) x h = grind arith

abbrev refusal_of : {A : Type 0} → Result A TreeError → TreeError
refusal_of (Ok x) = OutOfRange
refusal_of (Err e) = e

refused : {A B : Type 0} (e : TreeError) (o : Option A) (p : Option B) → (o ≡ None → p ≡ None) → there_or OutOfRange o ≡ Err e → there_or OutOfRange p ≡ Err e
refused e None p none h = ap (there_or OutOfRange) (none refl) ∙ ap (λ (refusal : TreeError). Err refusal) (ap refusal_of h)
refused e (Some x) p none h = absurd (cc)

-- what is refused with a part
pub refused_with : {A B : Type 0} (memory : Bool) (e : TreeError) (o : Option A) (p : Option B) → (o ≡ None → p ≡ None)
    → Unless memory (there_or OutOfRange o ≡ Err e) → Unless memory (there_or OutOfRange p ≡ Err e)
refused_with true e o p none h = tt
refused_with false e o p none h = refused e o p none h

-- ---- Items

-- items that are made, before what is made of the rest
abbrev pub Items_made : List Value → Option Items → Option Items
Items_made [] rest = rest
Items_made (v ∷ vs) rest = option_map (item (view v)) (Items_made vs rest)

made_more : (vs : List Value) (v : Value) (rest : Option Items) → Items_made vs (option_map (item (view v)) rest) ≡ Items_made (vs ++ v ∷ []) rest
made_more [] v rest = refl
made_more (w ∷ vs) v rest = ap (option_map (item (view w))) (made_more vs v rest)

made_none : (vs : List Value) → Items_made vs None ≡ None
made_none [] = refl
made_none (v ∷ vs) = ap (option_map (item (view v))) (made_none vs)

made_all : (vs : List Value) → Items_made vs (Some no_items) ≡ Some (items_view vs)
made_all [] = refl
made_all (v ∷ vs) = ap (option_map (item (view v))) (made_all vs)

pub at : {X : Type 0} (list : List X) (i : ℕ) (x : X) → i < length list → x ≡ get_or list i x → drop i list ≡ x ∷ drop (i + 1) list
at {X} list i x below is = drop_more list i x below ∙ ap (λ (first : X). first ∷ drop (i + 1) list) (sym is)

module _ {A : Type 0} (list : List (Borrowed A)) (i : ℕ) (done : List Value) (all : Option Items) where
  item_at : (x : Borrowed A) → i < length list → x ≡ get_or list i x
      → of_items (borrowed_items (drop i list)) ≡ option_and_then (λ d. option_map (item d) (of_items (borrowed_items (drop (i + 1) list)))) (of_json (value_view x))
  item_at x below is = ap (λ rest. of_items (borrowed_items rest)) (at list i x below is)

  pub next_item : (x : Borrowed A) (v : Value) (later : List Value) → i < length list → x ≡ get_or list i x → later ≡ done ++ v ∷ []
      → all ≡ Items_made done (of_items (borrowed_items (drop i list))) → there_or OutOfRange (of_json (value_view x)) ≡ Ok (view v)
      → all ≡ Items_made later (of_items (borrowed_items (drop (i + 1) list)))
  next_item x v later below is pushed so_far makes =
      so_far
      ∙ ap (Items_made done) (item_at x below is ∙ ap (option_and_then (λ d. option_map (item d) (of_items (borrowed_items (drop (i + 1) list))))) (value_of _ _ makes))
      ∙ made_more done v _
      ∙ ap (λ vs. Items_made vs (of_items (borrowed_items (drop (i + 1) list)))) (sym pushed)

  pub item_refused : (memory : Bool) (x : Borrowed A) (e : TreeError) → i < length list → x ≡ get_or list i x
      → all ≡ Items_made done (of_items (borrowed_items (drop i list)))
      → Unless memory (there_or OutOfRange (of_json (value_view x)) ≡ Err e) → Unless memory (there_or OutOfRange all ≡ Err e)
  item_refused memory x e below is so_far h =
      refused_with memory e (of_json (value_view x)) all
      (λ none. so_far ∙ ap (Items_made done) (item_at x below is ∙ ap (option_and_then (λ d. option_map (item d) (of_items (borrowed_items (drop (i + 1) list))))) none) ∙ made_none done)
      h

  pub items_end : length list ≤ i → all ≡ Items_made done (of_items (borrowed_items (drop i list))) → there_or OutOfRange all ≡ Ok (items_view done)
  items_end past so_far = ap (there_or OutOfRange) (so_far ∙ ap (λ rest. Items_made done (of_items (borrowed_items rest))) (drop_all i list past) ∙ made_all done)

-- ---- Members

module _ {A : Type 0} (list : List (Bor (List ℕ) × Borrowed A)) (i : ℕ) (done : List Entry) (all : Option Members) where
  member_at : (m : Bor (List ℕ) × Borrowed A) → i < length list → m ≡ get_or list i m
      → of_members (borrowed_members (drop i list)) (members_view done)
      ≡ option_and_then (λ d. of_members (borrowed_members (drop (i + 1) list)) (put m.0.now d (members_view done))) (of_json (value_view m.1))
  member_at m below is = ap (λ rest. of_members (borrowed_members rest) (members_view done)) (at list i m below is)

  pub next_member : (m : Bor (List ℕ) × Borrowed A) (k : String Global) (v : Value) (later : List Entry) → i < length list → m ≡ get_or list i m
      → string_bytes k ≡ m.0.now → later ≡ insert_entry string_cmp done k v
      → all ≡ of_members (borrowed_members (drop i list)) (members_view done) → there_or OutOfRange (of_json (value_view m.1)) ≡ Ok (view v)
      → all ≡ of_members (borrowed_members (drop (i + 1) list)) (members_view later)
  next_member m k v later below is named inserted so_far makes =
      let placed : members_view later ≡ put m.0.now (view v) (members_view done) =
      ap members_view inserted ∙ members_view-insert_entry done k v ∙ ap (λ name. put name (view v) (members_view done)) named in
      so_far ∙ member_at m below is
      ∙ ap (option_and_then (λ d. of_members (borrowed_members (drop (i + 1) list)) (put m.0.now d (members_view done)))) (value_of _ _ makes)
      ∙ ap (of_members (borrowed_members (drop (i + 1) list))) (sym placed)

  pub member_refused : (memory : Bool) (m : Bor (List ℕ) × Borrowed A) (e : TreeError) → i < length list → m ≡ get_or list i m
      → all ≡ of_members (borrowed_members (drop i list)) (members_view done)
      → Unless memory (there_or OutOfRange (of_json (value_view m.1)) ≡ Err e) → Unless memory (there_or OutOfRange all ≡ Err e)
  member_refused memory m e below is so_far h =
      refused_with memory e (of_json (value_view m.1)) all
      (λ none. so_far ∙ member_at m below is ∙ ap (option_and_then (λ d. of_members (borrowed_members (drop (i + 1) list)) (put m.0.now d (members_view done)))) none)
      h

  pub members_end : length list ≤ i → all ≡ of_members (borrowed_members (drop i list)) (members_view done) → there_or OutOfRange all ≡ Ok (members_view done)
  members_end past so_far = ap (there_or OutOfRange) (so_far ∙ ap (λ rest. of_members (borrowed_members rest) (members_view done)) (drop_all i list past))

-- ---- Objects

module _ {A : Type 0} (borrowed : Vec (Bor (List ℕ) × Borrowed A) A) where
  pub object_of : of_json (value_view (BorrowedObject borrowed)) ≡ option_map object (of_members (borrowed_members borrowed.items) no_members)
  object_of = ap of_json (borrowed-Object borrowed)

  pub object_made : (made : BTreeMap (String Global) Value) → there_or OutOfRange (of_members (borrowed_members borrowed.items) no_members) ≡ Ok (members_view made.entries)
      → there_or OutOfRange (of_json (value_view (BorrowedObject borrowed))) ≡ Ok (view (Object made))
  object_made made h =
      ap (there_or OutOfRange) (object_of ∙ ap (option_map object) (value_of _ _ h)) ∙ ap (λ (d : Data). Ok d) (sym (view-Object made))

  pub object_refused : (memory : Bool) (e : TreeError) → Unless memory (there_or OutOfRange (of_members (borrowed_members borrowed.items) no_members) ≡ Err e)
      → Unless memory (there_or OutOfRange (of_json (value_view (BorrowedObject borrowed))) ≡ Err e)
  object_refused memory e h =
      refused_with memory e (of_members (borrowed_members borrowed.items) no_members) _ (λ none. object_of ∙ ap (option_map object) none) h

-- Forms of items and of fields, one after another, and the room that is left.
use Rattle.std.proofs.Common.{◌≡◌, ◌≤◌, ℕ, suc, ◌+◌, ◌-◌, Bool, true, false, if◌then◌else◌, List, [], ◌∷◌, ◌++◌, drop, map, Option, Some, None, refl, ap, ◌∙◌, arith}
use Rattle.std.specs.Prelude.{nat_le}
use Rattle.std.proofs.lemmas.Bool.Decides.{nat_tests}
use Rattle.json.proofs.Found.{Some_inj}
use Rattle.serde_json.specs.Data.{Data, Items, item}
use Rattle.serde_json.specs.View.{items_of, view}
use Rattle.serde_json.specs.declared.value.Value.{Value as Json}
use Rattle.ar_value.specs.Value.{Value}
use Rattle.ar_value.specs.Value as values
use Rattle.ar_exact.specs.Exact.{form, forms, items_room, room_of}
use Rattle.ar_exact.specs.Private.Forming.{formed}

-- ---- room

-- what was made, with the room that is left
abbrev pub with_left : Data → ℕ → Option (Data × ℕ)
with_left found left = Some (found, left)

pub has_room : (made : Data) (taken room : ℕ) (found : Data) (left : ℕ) → with_left found left ≡ formed made taken room → (found ≡ made) × (taken + left ≡ room)
has_room made taken room found left is = by (nat_le taken room) refl is where
  by : (fits : Bool) → nat_le taken room ≡ fits → with_left found left ≡ (if fits then Some (made, room - taken) else None) → (found ≡ made) × (taken + left ≡ room)
  by true fits same =
      let inside : taken ≤ room = grind (arith, nat_tests) in
      let pair = Some_inj _ _ same in
      let rest : left ≡ room - taken = ap (λ (pair : Data × ℕ). pair.1) pair in
      (ap (λ (pair : Data × ℕ). pair.0) pair, omega (arith, inside, rest))
  by false fits same = absurd (cc)

pub fits_room : (made : Data) (taken room left : ℕ) → taken + left ≡ room → with_left made left ≡ formed made taken room
fits_room made taken room left is =
    let fits : nat_le taken room ≡ true = grind (arith, nat_tests) in
    let rest : room - taken ≡ left = omega (arith, is) in
    rw (fits, rest) refl

-- ---- items

-- items with those of a list before them
abbrev pub before : List Data → Items → Items
before [] later = later
before (first ∷ others) later = item first (before others later)

pub before_none : (done : List Data) → before done Items.no_items ≡ items_of done
before_none [] = refl
before_none (first ∷ done) = ap (item first) (before_none done)

one_more : (done : List Json) (one : Json) (later : Items) → before (map view (done ++ one ∷ [])) later ≡ before (map view done) (item (view one) later)
one_more [] one later = refl
one_more (first ∷ done) one later = ap (item (view first)) (one_more done one later)

pub next_item : (vs : List Value) (index : ℕ) (value : Value) (done : List Json) (one : Json) (room left rest : ℕ) → drop index vs ≡ value ∷ drop (index + 1) vs
    → with_left (view one) rest ≡ formed (form value) (suc (room_of value)) left
    → (before (map view done) (forms (values.items_of (drop index vs))) ≡ forms (values.items_of vs))
    × (items_room (values.items_of vs) + left ≡ room + items_room (values.items_of (drop index vs))) × (left ≤ room)
    → (before (map view (done ++ one ∷ [])) (forms (values.items_of (drop (index + 1) vs))) ≡ forms (values.items_of vs))
    × (items_room (values.items_of vs) + rest ≡ room + items_room (values.items_of (drop (index + 1) vs))) × (rest ≤ room)
next_item vs index value done one room left rest here made so_far =
    let taken = has_room (form value) (suc (room_of value)) left (view one) rest made in
    let whole = rw here at so_far in
    let others = values.items_of (drop (index + 1) vs) in (
      one_more done one (forms others) ∙ ap (λ first. before (map view done) (item first (forms others))) taken.0 ∙ whole.0,
      omega (arith, taken.1, whole.1),
      omega (arith, taken.1, whole.2),
    )

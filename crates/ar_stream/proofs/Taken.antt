-- The items of an array, taken one after another.
use Rattle.std.proofs.Common.{◌≡◌, ℕ, zero, suc, ◌-◌, ◌<◌, ◌≤◌, List, [], ◌∷◌, ◌++◌, length, Option, Some, None, refl, ap, ◌∙◌, arith, option_map}
use Rattle.json.specs.Json as json
use Rattle.json.specs.Json.{Parse, parse_map, after_end_array, items, value}
use Rattle.json.specs.Token.{Token}
use Rattle.json.proofs.Grammar.{items_end, items_fail, items_more, left-parse_map, value-begin_array}
use Rattle.serde_json.specs.Data.{Data, Items, array, item, no_items}
use Rattle.serde_json.specs.Read.{converted, of_items, of_json}
use Rattle.ar_stream.specs.Passing.{after_value, data_at, tokens_left}
use Rattle.ar_stream.specs.Private.Rest.{after_items}
use Rattle.ar_stream.proofs.Kept.{no_converted}
use Rattle.ar_stream.proofs.Turns.{converted_array, found_some}

-- an array that was entered is what the rest of its tokens are
pub array_at : (levels : ℕ) (old new : List Token) → 0 < levels → old ≡ Token.begin_array ∷ new
    → data_at levels old ≡ parse_map array (converted of_items (items (value (levels - 1)) (length new) new))
array_at levels old new some is =
    ap (data_at levels) is ∙ ap (converted of_json) (value-begin_array levels new some) ∙ converted_array (items (value (levels - 1)) (length new) new)

pub after_array : (levels : ℕ) (old new : List Token) → 0 < levels → old ≡ Token.begin_array ∷ new → after_value levels old ≡ after_items (levels - 1) new
after_array levels old new some is =
    ap tokens_left (array_at levels old new some is) ∙ left-parse_map array (converted of_items (items (value (levels - 1)) (length new) new))

-- ---- a list that grows at its end

abbrev pub items_before : List Data → Items → Items
items_before [] rest = rest
items_before (first ∷ done) rest = item first (items_before done rest)

pub none_before : (parsed : Option (Items × List Token)) → parsed ≡ parse_map (items_before []) parsed
none_before None = refl
none_before (Some pair) = refl

pub before_more : (done : List Data) (one : Data) (rest : Items) → items_before done (item one rest) ≡ items_before (done ++ one ∷ []) rest
before_more [] one rest = refl
before_more (first ∷ done) one rest = ap (item first) (before_more done one rest)

pub one_before : (done : List Data) (one : Data) (parsed : Option (Items × List Token)) → parse_map (items_before done) (parse_map (item one) parsed) ≡ parse_map (items_before (done ++ one ∷ [])) parsed
one_before done one None = refl
one_before done one (Some pair) = ap (λ items. Some (items, pair.1)) (before_more done one pair.0)

-- ---- a turn

with_item : (made : Data) (left : List Token) (others : Option Items)
    → option_map {U = Items × List Token} (λ found. (found, left)) (option_map (item made) others) ≡ parse_map (item made) (option_map {U = Items × List Token} (λ found. (found, left)) others)
with_item made left None = refl
with_item made left (Some others) = refl

item_and_others : (j : json.Json) (made : Data) (parsed : Option (json.Items × List Token)) → of_json j ≡ Some made
    → converted of_items (parse_map (json.item j) parsed) ≡ parse_map (item made) (converted of_items parsed)
item_and_others j made None is = refl
item_and_others j made (Some pair) is = rw is (with_item made pair.1 (of_items pair.0))

no_item : (j : json.Json) (parsed : Option (json.Items × List Token)) → of_json j ≡ None → converted of_items (parse_map (json.item j) parsed) ≡ None
no_item j None none = refl
no_item j (Some pair) none = rw none refl

module _ (p : Parse json.Json) where
  -- an item, and what comes after it
  pub item_read : (n : ℕ) (tokens rest : List Token) (made : Data) → 0 < n → after_end_array tokens ≡ None → converted of_json (p tokens) ≡ Some (made, rest)
      → converted of_items (items p n tokens) ≡ parse_map (item made) (converted of_items (items p (n - 1) rest))
  item_read n tokens rest made some going read =
      let found = found_some of_json (p tokens) made rest read in
      ap (converted of_items) (items_more p n tokens rest found.of some going found.parsed_is) ∙ item_and_others found.of made _ found.made_is

  item_not : (n : ℕ) (tokens : List Token) (parsed : Option (json.Json × List Token)) → after_end_array tokens ≡ None → p tokens ≡ parsed → converted of_json parsed ≡ None → 0 < n
      → converted of_items (items p n tokens) ≡ None
  item_not n tokens None going is none some = ap (converted of_items) (items_fail p n tokens going is)
  item_not n tokens (Some pair) going is none some =
      ap (converted of_items) (items_more p n tokens pair.1 pair.0 some going is) ∙ no_item pair.0 _ (no_converted of_json pair.1 (of_json pair.0) none)

  -- or what is no item
  pub item_refused : (n : ℕ) (tokens : List Token) → after_end_array tokens ≡ None → converted of_json (p tokens) ≡ None → converted of_items (items p n tokens) ≡ None
  unfolding items
  item_refused zero tokens going none = refl
  item_refused (suc n) tokens going none = item_not (suc n) tokens (p tokens) going refl none (omega arith)

  -- or the end
  pub items_read : (n : ℕ) (tokens rest : List Token) → length tokens ≤ n → after_end_array tokens ≡ Some rest → converted of_items (items p n tokens) ≡ Some (no_items, rest)
  items_read n tokens rest enough ends = ap (converted of_items) (items_end p n tokens rest enough ends)

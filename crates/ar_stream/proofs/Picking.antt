-- Items that are picked, one after another.
use Rattle.std.proofs.Common.{◌≡◌, ℕ, ◌-◌, ◌<◌, ◌≤◌, Bool, if◌then◌else◌, List, [], ◌∷◌, ◌++◌, length, map, Some, None, refl, sym, ap, ◌∙◌, arith}
use Rattle.json.specs.Json.{after_end_array, items, parse_map, value}
use Rattle.json.specs.Token.{Token}
use Rattle.serde_json.specs.Data.{Data, Items, item, no_items, null}
use Rattle.serde_json.specs.Find.{as_array}
use Rattle.serde_json.specs.Read.{converted, of_items}
use Rattle.serde_json.specs.View.{items_of, items_view, view}
use Rattle.serde_json.specs.declared.value.Value.{Value}
use Rattle.ar_stream.specs.Passing.{data_at}
use Rattle.ar_stream.specs.Picked.{picked_items, picked_of}
use Rattle.ar_stream.specs.Private.Keeping.{first_pick, later_picks}
use Rattle.ar_stream.proofs.Taken.{before_more, item_read, items_before, items_read, none_before, one_before}

-- what was picked of an array's items so far, and the flags that are left
pub record Picking (picks : List Bool) (levels : ℕ) (start now : List Token) (left : List Bool) (kept : List Value) : Type 0 where
  pub n : ℕ
  pub enough : length now ≤ n
  pub no_longer : length now ≤ length start
  pub done : List Data
  pub reads : converted of_items (items (value levels) (length start) start) ≡ parse_map (items_before done) (converted of_items (items (value levels) n now))
  pub picked : (rest : Items) → picked_items picks (items_before done rest) ≡ items_before (map view kept) (picked_items left rest)

-- one more flag is taken
one_pick : (picks : List Bool) (first : Data) (rest : Items) → picked_items picks (item first rest) ≡ item (if first_pick picks then first else null) (picked_items (later_picks picks) rest)
one_pick [] first rest = refl
one_pick (pick ∷ picks) first rest = refl

none_after : (done : List Data) → items_before done no_items ≡ items_of done
none_after [] = refl
none_after (first ∷ done) = ap (item first) (none_after done)

map_more : (kept : List Value) (one : Value) → map view (kept ++ one ∷ []) ≡ map view kept ++ view one ∷ []
map_more [] one = refl
map_more (first ∷ kept) one = ap (λ others. view first ∷ others) (map_more kept one)

module _ (picks : List Bool) (levels : ℕ) (start now : List Token) (left : List Bool) (kept : List Value) where
  pub none_picked : kept ≡ [] → Picking picks levels start start picks kept
  none_picked empty = record {
    n = length start;
    enough = omega arith;
    no_longer = omega arith;
    done = [];
    reads = none_before (converted of_items (items (value levels) (length start) start));
    picked = λ rest. ap (λ kept. items_before (map view kept) (picked_items picks rest)) (sym empty);
  }

  module _ (so_far : Picking picks levels start now left kept) where
    pub one_picked : (next : List Token) (made : Data) (one : Value) → after_end_array now ≡ None → data_at levels now ≡ Some (made, next) → length next < length now
        → view one ≡ (if first_pick left then made else null) → Picking picks levels start next (later_picks left) (kept ++ one ∷ [])
    one_picked next made one going found shorter is = record {
      n = so_far.n - 1;
      enough = omega (arith, so_far.enough, shorter);
      no_longer = omega (arith, so_far.no_longer, shorter);
      done = so_far.done ++ made ∷ [];
      reads = so_far.reads ∙ ap (parse_map (items_before so_far.done)) (item_read (value levels) so_far.n now next made (omega (arith, so_far.enough, shorter)) going found)
          ∙ one_before so_far.done made (converted of_items (items (value levels) (so_far.n - 1) next));
      picked = λ rest. ap (picked_items picks) (sym (before_more so_far.done made rest)) ∙ so_far.picked (item made rest)
          ∙ ap (items_before (map view kept)) (one_pick left made rest ∙ ap (λ first. item first (picked_items (later_picks left) rest)) (sym is))
          ∙ before_more (map view kept) (view one) (picked_items (later_picks left) rest)
          ∙ ap (λ done. items_before done (picked_items (later_picks left) rest)) (sym (map_more kept one));
    }

    pub all_picked : (next : List Token) → after_end_array now ≡ Some next
        → (all : Items) × (converted of_items (items (value levels) (length start) start) ≡ Some (all, next)) × (items_view kept ≡ picked_items picks all)
    all_picked next ends = (
      items_before so_far.done no_items,
      so_far.reads ∙ ap (parse_map (items_before so_far.done)) (items_read (value levels) so_far.n now next so_far.enough ends),
      sym (so_far.picked no_items ∙ none_after (map view kept)),
    )

-- of what is no array, null is kept
pub no_array : (picks : List Bool) (made : Data) → as_array made ≡ None → picked_of picks made ≡ null
no_array picks Data.null none = refl
no_array picks (Data.boolean value) none = refl
no_array picks (Data.number value) none = refl
no_array picks (Data.string text) none = refl
no_array picks (Data.array own) none = absurd (cc)
no_array picks (Data.object own) none = refl

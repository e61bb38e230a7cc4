-- Names of items, one after another.
use Rattle.std.proofs.Common.{◌≡◌, ◌<◌, ℕ, ◌+◌, List, [], ◌∷◌, ◌++◌, length, map, take, sym, ◌∙◌, ap, add-one}
use Rattle.std.specs.Prelude.{slice_index_or}
use Rattle.std.specs.List.{cons_option}
use Rattle.std.proofs.Math.Seq.{take-suc}
use Rattle.std.proofs.lemmas.List.{map-append}
use Rattle.std.proofs.lemmas.List.Elements.{filter_map-append}
use Rattle.serde_json.specs.View.{view}
use Rattle.serde_json.specs.declared.value.Value.{Value}
use Rattle.ar_words.specs.Names.{item_name, item_names}

-- one more name comes after those of the items before it
pub next_name : (items : List Value) (index : ℕ) (item : Value) (before now : List (List ℕ)) → index < length items → item ≡ slice_index_or items index item
    → before ≡ item_names (map (λ item. view item) (take index items)) → now ≡ before ++ cons_option (item_name (view item)) []
    → now ≡ item_names (map (λ item. view item) (take (index + 1) items))
next_name items index item before now inside is so_far pushed =
    let first = take index items in
    let next : take (index + 1) items ≡ first ++ item ∷ [] = rw (add-one index) (take-suc items index item inside ∙ ap (λ one. first ++ one ∷ []) (sym is)) in
    pushed ∙ (ap (λ names. names ++ cons_option (item_name (view item)) []) so_far
    ∙ sym (ap (λ some. item_names (map (λ item. view item) some)) next
    ∙ (ap item_names (map-append (λ item. view item) first (item ∷ [])) ∙ filter_map-append item_name (map (λ item. view item) first) (view item ∷ []))))

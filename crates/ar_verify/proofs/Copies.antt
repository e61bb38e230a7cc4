-- Lists that are made item by item.
use Rattle.std.proofs.Common.{◌≡◌, ℕ, ◌+◌, ◌<◌, ◌≤◌, List, [], ◌∷◌, ◌++◌, length, map, take, sym, ap, ◌∙◌, add-one}
use Rattle.std.specs.Prelude.{slice_index_or}
use Rattle.std.proofs.Math.ListN.{drop_of_length-le}
use Rattle.std.proofs.Math.Seq.{take-suc}
use Rattle.std.proofs.lemmas.List.{append-nil, map-append, take-append-drop}

all_taken : {A : Type 0} (items : List A) (i : ℕ) → length items ≤ i → take i items ≡ items
all_taken items i past = sym (append-nil (take i items)) ∙ ap (λ rest. take i items ++ rest) (sym (drop_of_length-le items past)) ∙ take-append-drop i items

-- copies of the items before an index, by a view
module _ {A B : Type 0} (view : A → B) (items copies : List A) (i : ℕ) where
  pub one_viewed : (item : A) (after : List A) → i < length items → item ≡ slice_index_or items i item → map view after ≡ map view copies ++ view item ∷ [] → map view copies ≡ map view (take i items)
      → map view after ≡ map view (take (i + 1) items)
  one_viewed item after within is longer so_far =
      rw (add-one i) (longer ∙ ap (λ before. before ++ view item ∷ []) so_far ∙ ap (λ last. map view (take i items) ++ last ∷ []) (ap view is)
      ∙ sym (map-append view (take i items) (slice_index_or items i item ∷ [])) ∙ ap (map view) (sym (take-suc items i item within)))

  pub one_copied : (item copy : A) (after : List A) → i < length items → item ≡ slice_index_or items i item → after ≡ copies ++ copy ∷ [] → view copy ≡ view item → map view copies ≡ map view (take i items)
      → map view after ≡ map view (take (i + 1) items)
  one_copied item copy after within is longer same so_far =
      one_viewed item after within is (ap (map view) longer ∙ map-append view copies (copy ∷ []) ∙ ap (λ last. map view copies ++ last ∷ []) same) so_far

  pub all_copied : length items ≤ i → map view copies ≡ map view (take i items) → map view copies ≡ map view items
  all_copied past so_far = so_far ∙ ap (map view) (all_taken items i past)

-- what is made of the items before an index, by views
module _ {A B C : Type 0} (view : A → B) (made : C → B) (of : B → B) (items : List A) (all : List C) (i : ℕ) where
  pub one_made : (item : A) (one : C) (after : List C) → i < length items → item ≡ slice_index_or items i item → after ≡ all ++ one ∷ [] → made one ≡ of (view item) → map made all ≡ map of (map view (take i items))
      → map made after ≡ map of (map view (take (i + 1) items))
  one_made item one after within is longer same so_far =
      rw (add-one i) (ap (map made) longer ∙ map-append made all (one ∷ []) ∙ ap (λ last. map made all ++ last ∷ []) same ∙ ap (λ before. before ++ of (view item) ∷ []) so_far
      ∙ ap (λ last. map of (map view (take i items)) ++ of (view last) ∷ []) is ∙ sym (map-append of (map view (take i items)) (view (slice_index_or items i item) ∷ []))
      ∙ ap (map of) (sym (map-append view (take i items) (slice_index_or items i item ∷ []))) ∙ ap (λ before. map of (map view before)) (sym (take-suc items i item within)))

  pub all_made : length items ≤ i → map made all ≡ map of (map view (take i items)) → map made all ≡ map of (map view items)
  all_made past so_far = so_far ∙ ap (λ before. map of (map view before)) (all_taken items i past)

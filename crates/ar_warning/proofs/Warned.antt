-- Warnings, one after another.
use Rattle.std.proofs.Common.{◌≡◌, ◌<◌, ◌≤◌, ℕ, suc, ◌+◌, List, [], ◌∷◌, ◌++◌, length, map, drop, refl, sym, ◌∙◌, ap, add-one, drop-cons}
use Rattle.std.specs.Prelude.{flat_map, slice_index_or}
use Rattle.std.proofs.Math.ListN.{drop_of_length-le}
use Rattle.std.proofs.lemmas.List.{append-nil, append_assoc}
use Rattle.ar_warning.specs.Each.{each_from}

pub two : {X : Type 0} (before first after a b : List X) → first ≡ before ++ a → after ≡ first ++ b → after ≡ before ++ (a ++ b)
two before first after a b one other = other ∙ (ap (λ found. found ++ b) one ∙ append_assoc before a b)

pub left_at : {A : Type 0} (xs : List A) (offset : ℕ) (x : A) → offset < length xs → x ≡ slice_index_or xs offset x → drop offset xs ≡ x ∷ drop (suc offset) xs
left_at xs offset x within is = drop-cons xs offset x within ∙ ap (λ first. first ∷ drop (suc offset) xs) (sym is)

-- one name more
pub next_close : {A B X : Type 0} (f : A → List X) (g : B → A) (names : List B) (offset : ℕ) (name : B) (written total : List X) → offset < length names → name ≡ slice_index_or names offset name
    → written ++ flat_map f (map g (drop offset names)) ≡ total → (written ++ f (g name)) ++ flat_map f (map g (drop (offset + 1) names)) ≡ total
next_close f g names offset name written total within is so_far =
    rw (add-one offset)
    (append_assoc written (f (g name)) (flat_map f (map g (drop (suc offset) names)))
    ∙ ap (λ names. written ++ flat_map f (map g names)) (sym (left_at names offset name within is)) ∙ so_far)

pub no_close : {A B X : Type 0} (f : A → List X) (g : B → A) (names : List B) (offset : ℕ) (written total : List X) → length names ≤ offset → written ++ flat_map f (map g (drop offset names)) ≡ total → written ≡ total
no_close f g names offset written total past so_far =
    sym (append-nil written) ∙ ap (λ names. written ++ flat_map f (map g names)) (sym (drop_of_length-le names past)) ∙ so_far

-- one item more, by its number
pub next_item : {A X : Type 0} (f : ℕ → A → List X) (items : List A) (number : ℕ) (item : A) (written total : List X) → number < length items → item ≡ slice_index_or items number item
    → written ++ each_from f number (drop number items) ≡ total → (written ++ f number item) ++ each_from f (number + 1) (drop (number + 1) items) ≡ total
next_item f items number item written total within is so_far =
    rw (add-one number)
    (append_assoc written (f number item) (each_from f (suc number) (drop (suc number) items))
    ∙ ap (λ items. written ++ each_from f number items) (sym (left_at items number item within is)) ∙ so_far)

pub no_item : {A X : Type 0} (f : ℕ → A → List X) (items : List A) (number : ℕ) (written total : List X) → length items ≤ number → written ++ each_from f number (drop number items) ≡ total → written ≡ total
no_item f items number written total past so_far =
    sym (append-nil written) ∙ ap (λ items. written ++ each_from f number items) (sym (drop_of_length-le items past)) ∙ so_far

-- items that are seen by a view
each_view : {A B X : Type 0} (f : ℕ → A → List X) (view : B → A) (number : ℕ) (items : List B) → each_from (λ number item. f number (view item)) number items ≡ each_from f number (map view items)
each_view f view number [] = refl
each_view f view number (item ∷ items) = ap (λ rest. f number (view item) ++ rest) (each_view f view (suc number) items)

pub no_viewed : {A B X : Type 0} (f : ℕ → A → List X) (view : B → A) (items : List B) (number : ℕ) (written before : List X) → length items ≤ number
    → written ++ each_from (λ number item. f number (view item)) number (drop number items) ≡ before ++ each_from (λ number item. f number (view item)) 0 items → written ≡ before ++ each_from f 0 (map view items)
no_viewed f view items number written before past so_far =
    no_item (λ number item. f number (view item)) items number written _ past so_far ∙ ap (λ all. before ++ all) (each_view f view 0 items)

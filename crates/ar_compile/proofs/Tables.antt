-- Looking a text up among others.
use Rattle.std.proofs.Common.{◌≡◌, ℕ, suc, ◌+◌, ◌<◌, ◌≤◌, Bool, true, false, cond, List, [], ◌∷◌, ◌++◌, length, map, drop, refl, sym, ap, ◌∙◌, arith}
use Rattle.std.specs.Prelude.{slice_index_or}
use Rattle.std.specs.Bool.{Decides}
use Rattle.std.specs.Str.{bytes_eq}
use Rattle.std.proofs.Math.ListN.{drop_of_length-le}
use Rattle.std.proofs.lemmas.List.{length-map, map-append}
use Rattle.std.proofs.lemmas.Slice.Eq.{bytes_eq-Decides}
use Rattle.ar_compile.specs.Compiled.{index_among, with_text}
use Rattle.ar_compile.proofs.Sequences.{first_left}

same_text : (text : List ℕ) (b : Bool) → Decides b (text ≡ text) → b ≡ true
same_text text b decides = decides.1 refl

other_text : (first text : List ℕ) (b : Bool) → Decides b (first ≡ text) → (first ≡ text → ⊥) → b ≡ false
other_text first text true decides other = absurd (other (decides.0 refl))
other_text first text false decides other = refl

pub found_here : {A : Type 0} (f : A → List ℕ) (xs : List A) (i : ℕ) (x : A) (text : List ℕ) → i < length xs → x ≡ slice_index_or xs i x → f x ≡ text
    → index_among text (map f xs) ≡ i + index_among text (map f (drop i xs)) → i ≡ index_among text (map f xs)
found_here f xs i x text within is same so_far =
    let here : index_among text (map f (drop i xs)) ≡ 0 = ap (λ ys. index_among text (map f ys)) (first_left xs i x within is) ∙ rw same (ap (λ b. cond b 0 (suc (index_among text (map f (drop (i + 1) xs))))) (same_text text (bytes_eq text text) (bytes_eq-Decides text text))) in
    omega (arith, so_far, here)

pub not_here : {A : Type 0} (f : A → List ℕ) (xs : List A) (i : ℕ) (x : A) (text : List ℕ) → i < length xs → x ≡ slice_index_or xs i x → (f x ≡ text → ⊥)
    → index_among text (map f xs) ≡ i + index_among text (map f (drop i xs)) → index_among text (map f xs) ≡ (i + 1) + index_among text (map f (drop (i + 1) xs))
not_here f xs i x text within is other so_far =
    let here : index_among text (map f (drop i xs)) ≡ suc (index_among text (map f (drop (i + 1) xs))) =
    ap (λ ys. index_among text (map f ys)) (first_left xs i x within is)
    ∙ ap (λ b. cond b 0 (suc (index_among text (map f (drop (i + 1) xs))))) (other_text (f x) text (bytes_eq (f x) text) (bytes_eq-Decides (f x) text) other) in
    omega (arith, so_far, here)

pub not_there : {A : Type 0} (f : A → List ℕ) (xs : List A) (i : ℕ) (text : List ℕ) → length xs ≤ i → i ≤ length xs → index_among text (map f xs) ≡ i + index_among text (map f (drop i xs)) → length xs ≡ index_among text (map f xs)
not_there f xs i text past within so_far =
    let none : index_among text (map f (drop i xs)) ≡ 0 = ap (λ ys. index_among text (map f ys)) (drop_of_length-le xs past) in
    omega (arith, so_far, none, past, within)

-- ---- a text that is added where it isn't there

added_by : (b : Bool) (first text : List ℕ) (others : List (List ℕ)) → cond b 0 (suc (index_among text others)) ≡ suc (length others) → (index_among text others ≡ length others → with_text text others ≡ others ++ text ∷ [])
    → first ∷ cond b others (with_text text others) ≡ first ∷ (others ++ text ∷ [])
added_by true first text others is rest = absurd (omega (arith, is))
added_by false first text others is rest = ap (λ l. first ∷ l) (rest (omega (arith, is)))

is_added : (text : List ℕ) (texts : List (List ℕ)) → index_among text texts ≡ length texts → with_text text texts ≡ texts ++ text ∷ []
is_added text [] is = refl
is_added text (first ∷ others) is = added_by (bytes_eq first text) first text others is (is_added text others)

there_by : (b : Bool) (first text : List ℕ) (others : List (List ℕ)) → cond b 0 (suc (index_among text others)) < suc (length others) → (index_among text others < length others → with_text text others ≡ others)
    → first ∷ cond b others (with_text text others) ≡ first ∷ others
there_by true first text others less rest = refl
there_by false first text others less rest = ap (λ l. first ∷ l) (rest (omega (arith, less)))

is_there : (text : List ℕ) (texts : List (List ℕ)) → index_among text texts < length texts → with_text text texts ≡ texts
is_there text [] less = absurd (omega (arith, less))
is_there text (first ∷ others) less = there_by (bytes_eq first text) first text others less (is_there text others)

few_by : (b : Bool) (n : ℕ) (others : List (List ℕ)) → n ≤ length others → cond b 0 (suc n) ≤ suc (length others)
few_by true n others h = omega arith
few_by false n others h = omega (arith, h)

number_is_small : (text : List ℕ) (texts : List (List ℕ)) → index_among text texts ≤ length texts
number_is_small text [] = omega arith
number_is_small text (first ∷ others) = few_by (bytes_eq first text) (index_among text others) others (number_is_small text others)

pub added : {A : Type 0} (f : A → List ℕ) (xs ys : List A) (x : A) (text : List ℕ) (n : ℕ) → n ≡ index_among text (map f xs) → length xs ≤ n → f x ≡ text → ys ≡ xs ++ x ∷ [] → map f ys ≡ with_text text (map f xs)
added f xs ys x text n number end same is =
    ap (map f) is ∙ map-append f xs (x ∷ []) ∙ ap (λ t. map f xs ++ t ∷ []) same ∙ sym (is_added text (map f xs) (omega (arith, number, number_is_small text (map f xs), end, length-map xs f)))

pub stays : {A : Type 0} (f : A → List ℕ) (xs : List A) (text : List ℕ) (n : ℕ) → n ≡ index_among text (map f xs) → n < length xs → map f xs ≡ with_text text (map f xs)
stays f xs text n number within = sym (is_there text (map f xs) (omega (arith, number, within, length-map xs f)))

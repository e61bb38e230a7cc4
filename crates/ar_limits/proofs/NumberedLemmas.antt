-- A list made from the numbered items of another one: `map f (enumerate_from 0 xs)`.
use Rattle.std.proofs.Common.{◌≡◌, ◌≢◌, ℕ, ◌+◌, zero, suc, Some, List, [], ◌∷◌, map, length, refl, ap, arith, add-zero, zero-add}
use Rattle.std.proofs.Math.ListN.{set}
use Rattle.std.specs.Prelude.{slice_get}
use Rattle.std.specs.List.{enumerate_from}

same_from : {A B : Type 0} (f g : ℕ × A → B) (n : ℕ) (xs : List A)
    → ((i : ℕ) (x : A) → slice_get xs i ≡ Some x → g (n + i, x) ≡ f (n + i, x))
    → map g (enumerate_from n xs) ≡ map f (enumerate_from n xs)
same_from f g n [] h = refl
same_from f g n (x ∷ xs) h =
    let first : g (n, x) ≡ f (n, x) = rw (add-zero n) at (h 0 x refl) in
    let rest = same_from f g (n + 1) xs (λ i y e. let moved : n + 1 + i ≡ n + suc i = omega arith in rw moved (h (suc i) y e)) in
    rw (first, rest) refl

set_from : {A B : Type 0} (f g : ℕ × A → B) (n : ℕ) (xs : List A) (i : ℕ) (x : A) → slice_get xs i ≡ Some x
    → ((j : ℕ) (y : A) → slice_get xs j ≡ Some y → j ≢ i → g (n + j, y) ≡ f (n + j, y))
    → map g (enumerate_from n xs) ≡ set (map f (enumerate_from n xs)) i (g (n + i, x))
set_from f g n [] i x e h = cc
set_from f g n (y ∷ ys) zero x e h =
    let same : y ≡ x = cc in
    let rest = same_from f g (n + 1) ys (λ j z at. let moved : n + 1 + j ≡ n + suc j = omega arith in rw moved (h (suc j) z at (omega arith))) in
    rw (rest, add-zero n, same) refl
set_from f g n (y ∷ ys) (suc i) x e h =
    let first : g (n, y) ≡ f (n, y) = rw (add-zero n) at (h 0 y refl (omega arith)) in
    let rest = set_from f g (n + 1) ys i x e (λ j z at other. let moved : n + 1 + j ≡ n + suc j = omega arith in rw moved (h (suc j) z at (omega arith))) in
    let moved : n + 1 + i ≡ n + suc i = omega arith in
    rw (rest, first, moved) refl

get_from : {A B : Type 0} (f : ℕ × A → B) (n : ℕ) (xs : List A) (i : ℕ) (x : A) → slice_get xs i ≡ Some x
    → slice_get (map f (enumerate_from n xs)) i ≡ Some (f (n + i, x))
get_from f n [] i x e = cc
get_from f n (y ∷ ys) zero x e = let same : y ≡ x = cc in rw (add-zero n, same) refl
get_from f n (y ∷ ys) (suc i) x e = let moved : n + 1 + i ≡ n + suc i = omega arith in rw (get_from f (n + 1) ys i x e, moved) refl

-- two functions with the same values at the items give the same list
pub numbered_same : {A B : Type 0} (f g : ℕ × A → B) (xs : List A)
    → ((i : ℕ) (x : A) → slice_get xs i ≡ Some x → g (i, x) ≡ f (i, x))
    → map g (enumerate_from 0 xs) ≡ map f (enumerate_from 0 xs)
numbered_same f g xs h = same_from f g 0 xs (λ i x e. rw (zero-add i) (h i x e))

-- where they differ at one item alone, the lists do so at its index alone
pub numbered_set : {A B : Type 0} (f g : ℕ × A → B) (xs : List A) (i : ℕ) (x : A) → slice_get xs i ≡ Some x
    → ((j : ℕ) (y : A) → slice_get xs j ≡ Some y → j ≢ i → g (j, y) ≡ f (j, y))
    → map g (enumerate_from 0 xs) ≡ set (map f (enumerate_from 0 xs)) i (g (i, x))
numbered_set f g xs i x e h = rw (set_from f g 0 xs i x e (λ j y at other. rw (zero-add j) (h j y at other)), zero-add i) refl

-- the item at an index
pub numbered_get : {A B : Type 0} (f : ℕ × A → B) (xs : List A) (i : ℕ) (x : A) → slice_get xs i ≡ Some x
    → slice_get (map f (enumerate_from 0 xs)) i ≡ Some (f (i, x))
numbered_get f xs i x e = rw (get_from f 0 xs i x e, zero-add i) refl

pub length-numbered : {A B : Type 0} (f : ℕ × A → B) (n : ℕ) (xs : List A)
    → length (map f (enumerate_from n xs)) ≡ length xs
length-numbered f n [] = refl
length-numbered f n (x ∷ xs) = ap suc (length-numbered f (n + 1) xs)

plain_from : {A B : Type 0} (f : ℕ × A → B) (g : A → B) (n : ℕ) (xs : List A)
    → ((i : ℕ) (x : A) → slice_get xs i ≡ Some x → f (n + i, x) ≡ g x)
    → map f (enumerate_from n xs) ≡ map g xs
plain_from f g n [] h = refl
plain_from f g n (x ∷ xs) h =
    let first : f (n, x) ≡ g x = rw (add-zero n) at (h 0 x refl) in
    let rest = plain_from f g (n + 1) xs (λ i y e. let moved : n + 1 + i ≡ n + suc i = omega arith in rw moved (h (suc i) y e)) in
    rw (first, rest) refl

-- a function that does not use the numbers
pub numbered_plain : {A B : Type 0} (f : ℕ × A → B) (g : A → B) (xs : List A)
    → ((i : ℕ) (x : A) → slice_get xs i ≡ Some x → f (i, x) ≡ g x) → map f (enumerate_from 0 xs) ≡ map g xs
numbered_plain f g xs h = plain_from f g 0 xs (λ i x e. rw (zero-add i) (h i x e))

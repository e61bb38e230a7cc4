-- Entries of lists, by number.
use Rattle.std.specs.Prelude.{slice_get}
use Rattle.std.proofs.Common.{◌≡◌, ℕ, zero, suc, ◌<◌, ◌≤◌, List, [], ◌∷◌, length, Some, None, refl, ap, arith, get_or}

pub nth_within : {A : Type 0} (xs : List A) (i : ℕ) (x : A) → i < length xs → x ≡ get_or xs i x → slice_get xs i ≡ Some x
nth_within [] i x within is = absurd (omega arith)
nth_within (y ∷ ys) zero x within is = ap Some cc
nth_within (y ∷ ys) (suc i) x within is = nth_within ys i x (omega arith) is

pub nth_past : {A : Type 0} (xs : List A) (i : ℕ) → length xs ≤ i → slice_get xs i ≡ None
nth_past [] i past = refl
nth_past (y ∷ ys) zero past = absurd (omega arith)
nth_past (y ∷ ys) (suc i) past = nth_past ys i (omega arith)

pub nth_at : {A : Type 0} (xs : List A) (i : ℕ) (d : A) → i < length xs → slice_get xs i ≡ Some (get_or xs i d)
nth_at [] i d within = absurd (omega arith)
nth_at (y ∷ ys) zero d within = refl
nth_at (y ∷ ys) (suc i) d within = nth_at ys i d (omega arith)

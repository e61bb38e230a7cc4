-- Names by number.
use Rattle.std.specs.Prelude.{slice_get}
use Rattle.std.proofs.Common.{◌≡◌, ℕ, zero, suc, ◌<◌, ◌≤◌, List, [], ◌∷◌, length, map, Some, None, ap, arith, get_or}
use Rattle.std.proofs.lemmas.List.{length-map}
use Rattle.ar_safety.proofs.Entries.{nth_past}

pub nth_name : {A B : Type 0} (f : A → B) (xs : List A) (i : ℕ) (x : A) → i < length xs → x ≡ get_or xs i x → slice_get (map f xs) i ≡ Some (f x)
nth_name f [] i x within is = absurd (omega arith)
nth_name f (y ∷ ys) zero x within is = ap (λ z. Some (f z)) cc
nth_name f (y ∷ ys) (suc i) x within is = nth_name f ys i x (omega arith) is

pub no_name : {A B : Type 0} (f : A → B) (xs : List A) (i : ℕ) → length xs ≤ i → slice_get (map f xs) i ≡ None
no_name f xs i past = nth_past (map f xs) i (rw (length-map xs f) past)

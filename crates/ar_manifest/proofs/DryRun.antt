-- Names of metrics, as they are in a document.
use Rattle.std.proofs.Common.{◌≡◌, Bool, List, [], ◌∷◌, map, refl}
use Rattle.std.specs.List.{list_any}

pub list_any-of_map : {A B : Type 0} (f : A → B) (test : B → Bool) (xs : List A) → list_any (λ x. test (f x)) xs ≡ list_any test (map f xs)
list_any-of_map f test [] = refl
list_any-of_map f test (x ∷ xs) = rw (list_any-of_map f test xs) refl

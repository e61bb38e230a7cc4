-- What is written of an object reads back: it has no float, and isn't deep.
use Rattle.std.proofs.Common.{◌≡◌, ◌≤◌, ℕ, suc, max, false, List, [], ◌∷◌, map, Option, Some, None, refl, arith}
use Rattle.std.proofs.Math.Nat.{max-le}
use Rattle.serde_json.specs.Data.{Data, depth, items_depth}
use Rattle.serde_json.specs.Read.{max_depth}
use Rattle.serde_json.specs.View.{items_of}
use Rattle.serde_json.specs.Written.{has_float, items_have_float}
use Rattle.ar_object.specs.Object.{count_or_null, text_or_null}

-- ---- no number is a float

pub none_float : {A : Type 0} (data_of : A → Data) → ((x : A) → has_float (data_of x) ≡ false) → (xs : List A) → items_have_float (items_of (map data_of xs)) ≡ false
none_float data_of each [] = refl
none_float data_of each (x ∷ xs) = rw (each x, none_float data_of each xs) refl

pub count_exact : (found : Option ℕ) → has_float (count_or_null found) ≡ false
count_exact (Some n) = refl
count_exact None = refl

pub text_exact : (found : Option (List ℕ)) → has_float (text_or_null found) ≡ false
text_exact (Some text) = refl
text_exact None = refl

-- ---- and none is deep

pub none_deep : {A : Type 0} (data_of : A → Data) (levels : ℕ) → ((x : A) → depth (data_of x) ≤ levels) → (xs : List A) → items_depth (items_of (map data_of xs)) ≤ levels
none_deep data_of levels each [] = omega arith
none_deep data_of levels each (x ∷ xs) = max-le (each x) (none_deep data_of levels each xs)

pub count_flat : (found : Option ℕ) → depth (count_or_null found) ≡ 0
count_flat (Some n) = refl
count_flat None = refl

pub text_flat : (found : Option (List ℕ)) → depth (text_or_null found) ≡ 0
text_flat (Some text) = refl
text_flat None = refl

pub above : {a b : ℕ} → a ≤ b → suc a ≤ suc b
above less = omega arith

-- an object with two lists, and with one
pub two_deep : (a b levels : ℕ) → a ≤ levels → b ≤ levels → suc (max a (max b 0)) ≤ suc levels
two_deep a b levels one other = let none : 0 ≤ levels = omega arith in above (max-le one (max-le other none))

pub one_deep : (a levels : ℕ) → a ≤ levels → suc (max a 0) ≤ suc levels
one_deep a levels one = let none : 0 ≤ levels = omega arith in above (max-le one none)

pub few : {a : ℕ} → a ≤ 10 → a ≤ max_depth
few less = omega arith

-- Where an exponent's mark is in a text.
use Rattle.std.proofs.Common.{◌≡◌, ℕ, suc, ◌+◌, ◌<◌, ◌≤◌, Bool, true, false, not, cond, nat_lt, List, [], ◌∷◌, drop, length, Option, Some, refl, arith}
use Rattle.std.specs.Prelude.{◌||◌}
use Rattle.std.specs.List.{list_any, position_or_len}
use Rattle.std.proofs.lemmas.Bool.Decides.{nat_tests}
use Rattle.ar_value.specs.DecimalText.{exponent_of, marks_exponent, scale_of}
use Rattle.ar_value.specs.declared.decimal_text.Scale.{Scale}

next_inside : (here : Bool) (any : Bool) (at len : ℕ) → any ≡ nat_lt at len → (here || any) ≡ nat_lt (cond (not here) (1 + at) 0) (suc len)
next_inside true any at len h = grind (arith, nat_tests)
next_inside false any at len h = rw h (grind (arith, nat_tests))

-- a byte passes a test where the first one that does is inside
first_inside : (test : ℕ → Bool) (text : List ℕ) → list_any test text ≡ nat_lt (position_or_len test text) (length text)
first_inside test [] = refl
first_inside test (x ∷ xs) = next_inside (test x) (list_any test xs) (position_or_len test xs) (length xs) (first_inside test xs)

is_inside : (a b : ℕ) → a < b → nat_lt a b ≡ true
is_inside a b h = grind (arith, nat_tests)

is_outside : (a b : ℕ) → b ≤ a → nat_lt a b ≡ false
is_outside a b h = grind (arith, nat_tests)

-- a text with a mark has the scale of the exponent after it
pub marked : (text : List ℕ) (at : ℕ) (scale : Option Scale) → at ≡ position_or_len marks_exponent text → at < length text → scale ≡ exponent_of (drop (at + 1) text) → scale ≡ scale_of text
marked text at scale is inside e =
    let any : list_any marks_exponent text ≡ true = rw (first_inside marks_exponent text) (is_inside _ _ (omega (arith, is))) in
    rw (any, e, is) refl

pub unmarked : (text : List ℕ) → length text ≤ position_or_len marks_exponent text → scale_of text ≡ Some (record { up = 0; down = 0 })
unmarked text outside = let none : list_any marks_exponent text ≡ false = rw (first_inside marks_exponent text) (is_outside _ _ outside) in rw none refl

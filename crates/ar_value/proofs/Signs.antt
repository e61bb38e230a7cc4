-- Magnitudes with their signs.
use Rattle.std.proofs.Common.{◌≡◌, ℕ, zero, suc, ◌+◌, ◌*◌, ◌/◌, ◌^◌, ◌<◌, ◌++◌, Bool, true, false, List, length, refl, sym, ◌∙◌, ap, arith, rules, lit<, Ok, Err}
use Rattle.std.specs.Prelude.{ℤ, pos, IsTrue, if◌then◌else◌}
use Rattle.std.specs.Str.Parse.{digits_value}
use Rattle.std.proofs.Math.Nat.{zero-div}
use Rattle.std.proofs.lemmas.Bool.Decides.{nat_tests}
use Rattle.ar_value.specs.Decimal.{cut, is_i64}
use Rattle.ar_value.specs.Private.Scaled.{scaled_magnitude}
use Rattle.ar_value.specs.DecimalText.{with_sign, in_range, millionths_of}
use Rattle.ar_value.specs.declared.decimal_text.Scale.{Scale}
use Rattle.ar_value.specs.declared.decimal.NumberFault.TheVariants.{OutOfRange}

-- a quotient cut toward zero is the magnitudes' quotient with the sign
cut-with_sign : (is_negative : Bool) (n q : ℕ) → cut (with_sign is_negative n) (pos q) ≡ with_sign is_negative (n / q)
cut-with_sign false n q = refl
cut-with_sign true zero q = rw (zero-div q) refl
cut-with_sign true (suc n) q = refl

pub chosen_true : {A : Type 0} (b : Bool) (x y : A) → IsTrue b → x ≡ (if b then x else y)
chosen_true true x y h = refl
chosen_true false x y h = absurd (search rules)

pub chosen_false : {A : Type 0} (b : Bool) (x y : A) → (IsTrue b → ⊥) → y ≡ (if b then x else y)
chosen_false false x y h = refl
chosen_false true x y h = absurd (h (search rules))

in_range_ok : (z : ℤ) → IsTrue (is_i64 z) → Ok z ≡ in_range z
in_range_ok z h = chosen_true (is_i64 z) (Ok z) (Err OutOfRange) h

in_range_err : (z : ℤ) → (IsTrue (is_i64 z) → ⊥) → Err OutOfRange ≡ in_range z
in_range_err z h = chosen_false (is_i64 z) (Ok z) (Err OutOfRange) h

no_i64 : (is_negative : Bool) (n : ℕ) → (n < 2 ^ 64 → ⊥) → IsTrue (is_i64 (with_sign is_negative n)) → ⊥
no_i64 false n h fits = grind (arith, nat_tests)
no_i64 true zero h fits = h (lit< tt)
no_i64 true (suc n) h fits = grind (arith, nat_tests)

-- the millionths of digits, by their magnitude
signed : (is_negative : Bool) (whole fraction : List ℕ) (scale : Scale)
    → millionths_of is_negative whole fraction scale ≡ with_sign is_negative (scaled_magnitude whole fraction scale.up scale.down)
signed is_negative whole fraction scale = cut-with_sign is_negative (digits_value 10 (whole ++ fraction) * 10 ^ (6 + scale.up)) (10 ^ (length fraction + scale.down))

pub large : (is_negative : Bool) (whole fraction : List ℕ) (scale : Scale) → (scaled_magnitude whole fraction scale.up scale.down < 2 ^ 64 → ⊥) → Err OutOfRange ≡ in_range (millionths_of is_negative whole fraction scale)
large is_negative whole fraction scale h =
    in_range_err (with_sign is_negative (scaled_magnitude whole fraction scale.up scale.down)) (no_i64 is_negative (scaled_magnitude whole fraction scale.up scale.down) h) ∙ ap in_range (sym (signed is_negative whole fraction scale))

pub outside : (is_negative : Bool) (whole fraction : List ℕ) (scale : Scale) (magnitude : ℕ) → magnitude ≡ scaled_magnitude whole fraction scale.up scale.down → (IsTrue (is_i64 (with_sign is_negative magnitude)) → ⊥)
    → Err OutOfRange ≡ in_range (millionths_of is_negative whole fraction scale)
outside is_negative whole fraction scale magnitude e h =
    in_range_err (with_sign is_negative magnitude) h ∙ ap (λ n. in_range (with_sign is_negative n)) e ∙ ap in_range (sym (signed is_negative whole fraction scale))

pub inside : (is_negative : Bool) (whole fraction : List ℕ) (scale : Scale) (magnitude : ℕ) → magnitude ≡ scaled_magnitude whole fraction scale.up scale.down → IsTrue (is_i64 (with_sign is_negative magnitude))
    → Ok (with_sign is_negative magnitude) ≡ in_range (millionths_of is_negative whole fraction scale)
inside is_negative whole fraction scale magnitude e h =
    in_range_ok (with_sign is_negative magnitude) h ∙ ap (λ n. in_range (with_sign is_negative n)) e ∙ ap in_range (sym (signed is_negative whole fraction scale))

-- The digits of a fraction, one after another.
use Rattle.std.proofs.Common.{◌≡◌, ℕ, zero, suc, ◌-◌, ◌*◌, ◌/◌, ◌%◌, [], ◌++◌, refl, ap, ◌∙◌, append-nil, Bool, false, arith}
use Rattle.std.specs.Prelude.{decimal, if◌then◌else◌, ◌==◌}
use Rattle.std.proofs.lemmas.Bool.Decides.{nat_tests}
use native.Mathlib.Numerals.{unary_clauses}
use Rattle.ar_value.specs.DecimalShown.{fraction_text}

digit_first : (most millionths : ℕ) → (most ≡ 0 → ⊥) → fraction_text most millionths ≡ decimal (millionths / 100000) ++ (if millionths % 100000 == 0 then [] else fraction_text (most - 1) (millionths % 100000 * 10))
digit_first zero millionths h = absurd (h refl)
digit_first (suc most) millionths h = simp unary_clauses refl

-- nothing is left after the digit
pub last_digit : (most millionths : ℕ) → (most ≡ 0 → ⊥) → millionths % 100000 ≡ 0 → fraction_text most millionths ≡ decimal (millionths / 100000)
last_digit most millionths h none = digit_first most millionths h ∙ (ap (λ (left : ℕ). decimal (millionths / 100000) ++ (if left == 0 then [] else fraction_text (most - 1) (millionths % 100000 * 10))) none ∙ append-nil (decimal (millionths / 100000)))

unequal : (n : ℕ) → (n ≡ 0 → ⊥) → (n == 0) ≡ false
unequal n some = grind (arith, nat_tests)

-- something is left
pub more_digits : (most millionths : ℕ) → (most ≡ 0 → ⊥) → (millionths % 100000 ≡ 0 → ⊥) → fraction_text most millionths ≡ decimal (millionths / 100000) ++ fraction_text (most - 1) (millionths % 100000 * 10)
more_digits most millionths h some =
    digit_first most millionths h ∙ ap (λ (none : Bool). decimal (millionths / 100000) ++ (if none then [] else fraction_text (most - 1) (millionths % 100000 * 10))) (unequal (millionths % 100000) some)

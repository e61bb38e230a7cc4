-- Wholes as decimals.
use Rattle.std.proofs.Common.{◌≡◌, ◌∙◌, ap, arith, rules, Ok, Err}
use Rattle.std.specs.Prelude.{ℤ, pos, negsuc, FitsSigned, IsTrue, Some, ◌*ℤ◌}
use Rattle.std.specs.Int.{w64}
use Rattle.std.proofs.lemmas.Bool.Decides.{nat_tests}
use Rattle.ar_value.specs.Decimal.{is_i64}
use Rattle.ar_value.specs.Value.{decimal}
use Rattle.ar_value.proofs.Signs.{chosen_false, chosen_true}
use Rattle.ar_json.specs.Reading.{whole_as_millionths}
use Rattle.ar_json.specs.declared.value_reading.ShapeFault.TheVariants as shape

-- the two ways to say that a number fits 64 bits with a sign
fits_is_i64 : (z : ℤ) → FitsSigned w64 z → IsTrue (is_i64 z)
fits_is_i64 (pos n) h = search rules
fits_is_i64 (negsuc n) h = search rules

i64_fits : (z : ℤ) → IsTrue (is_i64 z) → FitsSigned w64 z
i64_fits (pos n) h = search rules
i64_fits (negsuc n) h = search rules

-- a factor of a number in range is in range
factor_fits : (z : ℤ) → IsTrue (is_i64 (z *ℤ pos 1000000)) → IsTrue (is_i64 z)
factor_fits (pos n) h = grind (arith, nat_tests)
factor_fits (negsuc n) h = grind (arith, nat_tests)

-- a whole out of range has no decimal in range
pub whole_outside : (whole : ℤ) → (FitsSigned w64 whole → ⊥) → Err shape.OutOfRange ≡ whole_as_millionths (Some whole)
whole_outside whole h =
    chosen_false (is_i64 (whole *ℤ pos 1000000)) (Ok (decimal (whole *ℤ pos 1000000))) (Err shape.OutOfRange) (λ fits. h (i64_fits whole (factor_fits whole fits)))

pub millionths_outside : (whole : ℤ) → (FitsSigned w64 (whole *ℤ pos 1000000) → ⊥) → Err shape.OutOfRange ≡ whole_as_millionths (Some whole)
millionths_outside whole h =
    chosen_false (is_i64 (whole *ℤ pos 1000000)) (Ok (decimal (whole *ℤ pos 1000000))) (Err shape.OutOfRange) (λ fits. h (i64_fits (whole *ℤ pos 1000000) fits))

pub millionths_inside : (whole millionths : ℤ) → FitsSigned w64 (whole *ℤ pos 1000000) → millionths ≡ whole *ℤ pos 1000000 → Ok (decimal millionths) ≡ whole_as_millionths (Some whole)
millionths_inside whole millionths h e =
    ap (λ z. Ok (decimal z)) e ∙ chosen_true (is_i64 (whole *ℤ pos 1000000)) (Ok (decimal (whole *ℤ pos 1000000))) (Err shape.OutOfRange) (fits_is_i64 (whole *ℤ pos 1000000) h)

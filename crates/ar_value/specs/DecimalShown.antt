-- How a decimal is written: its whole part, a point, and its millionths without the zeros at their end.
use Rattle.std.specs.Prelude.{◌≡◌, refl, ℕ, zero, suc, ◌*◌, ◌/◌, ◌%◌, ◌==◌, ℤ, pos, negsuc, unsigned_abs, if◌then◌else◌, List, [], ◌++◌, codes, decimal}
use Rattle.std.specs.Fmt.{digits}
use Rattle.std.specs.Int.{is_negative}

-- The digits of a number of millionths below one, `most` at most, and none after the last that isn't zero: a digit,
-- and the digits of ten times what is left.
abbrev pub fraction_text : (most millionths : ℕ) → List ℕ
fraction_text zero millionths = []
fraction_text (suc most) millionths =
    decimal (millionths / 100000)
    ++ (if millionths % 100000 == 0 then [] else fraction_text most (millionths % 100000 * 10))

abbrev pub sign_text : ℤ → List ℕ
sign_text z = if is_negative z then codes "-" else []

-- a decimal by its millionths, with at least one digit after its point
unfoldable pub decimal_text : (millionths : ℤ) → List ℕ
decimal_text millionths =
    sign_text millionths ++ (decimal (unsigned_abs millionths / 1000000)
    ++ (codes "." ++ fraction_text 6 (unsigned_abs millionths % 1000000)))

-- ---- worked rows

without_zeros_at_its_end : decimal_text (pos 950000) ≡ codes "0.95"
unfolding decimal_text digits
without_zeros_at_its_end = refl

one_millionth_below_zero : decimal_text (negsuc 0) ≡ codes "-0.000001"
unfolding decimal_text digits
one_millionth_below_zero = refl

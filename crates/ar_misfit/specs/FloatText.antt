-- How a float is shown. It has no digits of its own, so it is shown as a decimal, to the nearest millionth.
use Rattle.std.specs.Prelude.{◌≡◌, refl, ◌^◌, ◌-◌, pos, negsuc, ℤ, Float, Bool, true, false, ◌&&◌, if◌then◌else◌, int_lt, [], ◌++◌, codes}
use Rattle.std.specs.Float.{float_round, float_to_signed, float_with_sign, is_sign_negative, round_with}
use Rattle.std.specs.Float.Ieee.{binary64, div, eq, fin, mul, odd, of_bits, of_int, round, size, to_signed, units}
use Rattle.std.specs.Fmt.{digits}
use Rattle.std.specs.Int.{w64}
use Rattle.ar_value.specs.DecimalShown.{decimal_text}
use Rattle.ar_value.specs.Terms.{Text}
use Rattle.ar_misfit.specs.declared.floats.TheConstants.{MILLION}

-- without its sign, in millionths: the nearest whole number of them, or the greatest of 64 bits where it has more
abbrev pub millionths_near : Float → ℤ
millionths_near x = float_to_signed w64 (float_round binary64 (mul binary64 (float_with_sign false x) MILLION))

abbrev pub is_in_range : Float → Bool
is_in_range x = int_lt (millionths_near x) (pos (2 ^ 63 - 1))

-- of all floats this one is the nearest to its millionths
abbrev pub is_of_millionths : Float → Bool
is_of_millionths x = eq (div binary64 (of_int binary64 (millionths_near x)) MILLION) (float_with_sign false x)

-- its text is a decimal that is read as this float
abbrev pub is_shown_whole : Float → Bool
is_shown_whole x = is_in_range x && is_of_millionths x

abbrev pub float_sign : Float → Text
float_sign x = if is_sign_negative x then codes "-" else []

abbrev pub digits_text : Float → Text
digits_text x = float_sign x ++ decimal_text (millionths_near x)

unfoldable pub float_text : Float → Text
float_text x =
    if is_shown_whole x then digits_text x
    else if is_in_range x then codes "about " ++ digits_text x
    else codes "a number beyond the range of decimals"

-- ---- worked rows

a_half : float_text (fin true 1 (negsuc 0)) ≡ codes "-0.5"
unfolding float_text round_with float_with_sign is_sign_negative mul div of_int eq round size units odd to_signed of_bits decimal_text digits
a_half = refl

zero_with_a_sign : float_text (fin true 0 (pos 0)) ≡ codes "-0.0"
unfolding float_text round_with float_with_sign is_sign_negative mul div of_int eq round size units odd to_signed of_bits decimal_text digits
zero_with_a_sign = refl

-- 2^-20
finer_than_millionths : float_text (fin false 1 (negsuc 19)) ≡ codes "about 0.000001"
unfolding float_text round_with float_with_sign is_sign_negative mul div of_int eq round size units odd to_signed of_bits decimal_text digits
finer_than_millionths = refl

-- 2^64
too_large : float_text (fin false 1 (pos 64)) ≡ codes "a number beyond the range of decimals"
unfolding float_text round_with float_with_sign is_sign_negative mul div of_int eq round size units odd to_signed of_bits decimal_text digits
too_large = refl

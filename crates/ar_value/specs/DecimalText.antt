-- Reading a decimal text, as `0.9523809523809523` or `9.5e-1`: the number that it represents, in millionths.
use Rattle.std.specs.Prelude.{ℕ, ◌+◌, ◌*◌, ◌^◌, ℤ, pos, neg_ℤ, Bool, ◌&&◌, ◌||◌, ◌==◌, nat_le, if◌then◌else◌, List, [], ◌∷◌, ◌++◌, length, codes, Option, Some, None, Result, Ok, Err, ◌≡◌, refl}
use Rattle.std.specs.Char.{is_ascii_digit}
use Rattle.std.specs.List.{before_first, after_first, list_all, list_any}
use Rattle.std.specs.Str.{bytes_eq}
use Rattle.std.specs.Str.Parse.{digits_value, starts_with_minus, without_leading_sign}
use Rattle.ar_value.specs.Terms.{Text}
use Rattle.ar_value.specs.Bytes.{byte_of}
use Rattle.ar_value.specs.Decimal.{cut, is_i64}
use Rattle.ar_value.specs.declared.decimal.NumberFault.{NumberFault}
use Rattle.ar_value.specs.declared.decimal.NumberFault.TheVariants.{BadDecimal, NotFinite, OutOfRange}
use Rattle.ar_value.specs.declared.decimal_text.Scale.{Scale}

-- the texts for what is no finite number, as metric providers write them
abbrev pub is_not_finite : Text → Bool
is_not_finite text = list_any (bytes_eq text) (codes "NaN" ∷ codes "Inf" ∷ codes "+Inf" ∷ codes "-Inf" ∷ [])

abbrev pub most_mantissa_digits : ℕ
most_mantissa_digits = 64

-- the digits of a mantissa, those before its point and after it together: one at least, and nothing but digits
abbrev pub is_mantissa : List ℕ → Bool
is_mantissa digits =
    nat_le 1 (length digits) && nat_le (length digits) most_mantissa_digits && list_all is_ascii_digit digits

-- an exponent has one to three digits
abbrev pub is_exponent : List ℕ → Bool
is_exponent digits = nat_le 1 (length digits) && nat_le (length digits) 3 && list_all is_ascii_digit digits

-- a magnitude with its sign
abbrev pub with_sign : Bool → ℕ → ℤ
with_sign is_negative magnitude = if is_negative then neg_ℤ (pos magnitude) else pos magnitude

-- Digits m, f of which are after the point, with an exponent e, spell m * 10^(e - f): in millionths, cut toward zero.
-- An exponent is a scale: times 10^up where it is positive, over 10^down where it is negative.
abbrev pub millionths_of : Bool → List ℕ → List ℕ → Scale → ℤ
millionths_of is_negative whole fraction scale =
    cut (with_sign is_negative (digits_value 10 (whole ++ fraction) * 10 ^ (6 + scale.up)))
    (pos (10 ^ (length fraction + scale.down)))

-- a number where it fits a signed 64-bit number
abbrev pub in_range : ℤ → Result ℤ NumberFault
in_range millionths = if is_i64 millionths then Ok millionths else Err OutOfRange

-- the decimal that a mantissa after its sign represents, with its scale, or what is wrong with it
abbrev pub of_mantissa : Bool → List ℕ → List ℕ → Option Scale → Result ℤ NumberFault
of_mantissa is_negative whole fraction None = Err BadDecimal
of_mantissa is_negative whole fraction (Some scale) =
    if is_mantissa (whole ++ fraction) then in_range (millionths_of is_negative whole fraction scale)
    else Err BadDecimal

abbrev pub is_point : ℕ → Bool
is_point byte = byte == byte_of (codes ".")

-- `e` or `E`
abbrev pub marks_exponent : ℕ → Bool
marks_exponent byte = byte == byte_of (codes "e") || byte == byte_of (codes "E")

abbrev pub scale_by : Bool → ℕ → Scale
scale_by is_negative exponent =
    if is_negative then record { up = 0; down = exponent } else record { up = exponent; down = 0 }

-- the scale of an exponent's text, with a sign or without
abbrev pub exponent_of : Text → Option Scale
exponent_of text =
    if is_exponent (without_leading_sign text)
    then Some (scale_by (starts_with_minus text) (digits_value 10 (without_leading_sign text))) else None

-- the scale of a text: that of what comes after its exponent's mark, or none where there is no mark
abbrev pub scale_of : Text → Option Scale
scale_of text =
    if list_any marks_exponent text then exponent_of (after_first marks_exponent text)
    else Some (record { up = 0; down = 0 })

abbrev pub of_unsigned : Bool → Text → Result ℤ NumberFault
of_unsigned is_negative text =
    of_mantissa is_negative (before_first is_point (before_first marks_exponent text))
    (after_first is_point (before_first marks_exponent text)) (scale_of text)

-- The decimal that a text represents, or what is wrong with it: the mantissa is what comes after the sign and before
-- the exponent's mark, and has digits before its first point and after it.
unfoldable pub decimal_of : Text → Result ℤ NumberFault
decimal_of text =
    if is_not_finite text then Err NotFinite else of_unsigned (starts_with_minus text) (without_leading_sign text)

-- ---- worked rows

cut_to_millionths : decimal_of (codes "0.9523809523809523") ≡ Ok (pos 952380)
unfolding decimal_of
cut_to_millionths = refl

with_exponent : decimal_of (codes "9.5e-1") ≡ Ok (pos 950000)
unfolding decimal_of
with_exponent = refl

negative_text : decimal_of (codes "-.5") ≡ Ok (neg_ℤ (pos 500000))
unfolding decimal_of
negative_text = refl

not_a_number : decimal_of (codes "NaN") ≡ Err NotFinite
unfolding decimal_of
not_a_number = refl

no_digits : decimal_of (codes ".") ≡ Err BadDecimal
unfolding decimal_of
no_digits = refl

out_of_range : decimal_of (codes "1e13") ≡ Err OutOfRange
unfolding decimal_of
out_of_range = refl

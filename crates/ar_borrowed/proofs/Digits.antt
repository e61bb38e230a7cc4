-- Numbers of texts that are digits alone.
use Rattle.std.proofs.Common.{◌≡◌, ◌^◌, ◌<◌, ◌≤◌, ℕ, true, false, List, [], ◌∷◌, ◌++◌, length, get_or, is_some, Some, refl, sym, ap, ◌∙◌, arith, append-nil, lit<, lt-ltb, ne_eqb}
use Rattle.std.specs.Char.{digit_value, is_ascii_digit}
use Rattle.std.specs.List.{list_all}
use Rattle.std.specs.Str.Parse.{AllDigits, digits_value}
use Rattle.std.proofs.Math.Nat.{pow-le-pow_right}
use Rattle.std.proofs.lemmas.Int.Digits.{digits_value-lt}
use Rattle.fast_float.specs.Text.{IsWellFormed, Parts, scan}
use Rattle.fast_float.proofs.Writing.{scan-text_of}
use Rattle.serde_json.specs.Data.{unsigned}
use Rattle.serde_json.specs.Read.{number_from, number_of}
use Rattle.ar_value.proofs.DigitsLemmas.{AllDigits-from_list_all}

abbrev parts_of : List ℕ → Parts
parts_of digits =
    record { whole = digits; point = false; fraction = []; exponent_negative = false; exponent = []; len = length (digits ++ []) }

no_minus : (digits : List ℕ) → AllDigits 10 digits → 0 < length digits → get_or digits 0 0 ≡ 45 → ⊥
no_minus [] are some is = omega arith
no_minus (d ∷ digits) are some is = let digit : digit_value d < 10 = are.0 in let minus : d ≡ 45 = is in grind arith

spelled : (digits : List ℕ) → AllDigits 10 digits → 0 < length digits → digits_value 10 digits < 2 ^ 64 → number_of digits ≡ Some (unsigned (digits_value 10 digits))
unfolding number_of
spelled digits are some small =
    let formed : IsWellFormed (parts_of digits) = record { whole_digits = are; fraction_digits = tt; exponent_digits = tt; no_point = λ _. refl; no_exponent = λ _. refl; len_is = refl } in
    let scanned = ap (number_from false) (sym (ap scan (append-nil digits)) ∙ scan-text_of (parts_of digits) formed) in
    rw (ne_eqb (get_or digits 0 0) 45 (no_minus digits are some)) (scanned ∙ rw (append-nil digits) (rw (lt-ltb _ _ some, lt-ltb _ _ small) refl))

pub digits_alone : (digits : List ℕ) (whole : ℕ) → list_all is_ascii_digit digits ≡ true → 0 < length digits → digits_value 10 digits < 2 ^ 64 → whole ≡ digits_value 10 digits
    → number_of digits ≡ Some (unsigned whole)
digits_alone digits whole are some small is = rw is (spelled digits (AllDigits-from_list_all digits are) some small)

-- ---- a few digits

pub few_digits : (digits : List ℕ) → list_all is_ascii_digit digits ≡ true → 0 < length digits → length digits ≤ 19 → is_some (number_of digits) ≡ true
few_digits digits are some few =
    let all : AllDigits 10 digits = AllDigits-from_list_all digits are in
    let spells : digits_value 10 digits < 10 ^ length digits = digits_value-lt 10 digits all in
    let power : 10 ^ length digits ≤ 10 ^ 19 = pow-le-pow_right (lit< tt) few in
    let fits : 10 ^ 19 < 2 ^ 64 = lit< tt in
    ap is_some (spelled digits all some (omega (arith, spells, power, fits)))

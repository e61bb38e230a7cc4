-- Texts of limits.
use Rattle.std.proofs.Common.{◌≡◌, ◌<◌, ◌≤◌, ◌^◌, ℕ, true, List, length, Err, arith, rules}
use Rattle.std.specs.Prelude.{nat_le, ◌&&◌}
use Rattle.std.specs.Char.{is_ascii_digit}
use Rattle.std.specs.List.{list_all}
use Rattle.std.specs.Str.Parse.{ParsesUnsigned, digits_value}
use Rattle.std.proofs.lemmas.Bool.{and_parts}
use Rattle.std.proofs.lemmas.Bool.Decides.{nat_tests}
use Rattle.std.proofs.lemmas.Str.Parse.{IsDigitsTest, IsNumeralModel, numerals_by_value, digits_value_short, parse_gives}
use Rattle.ar_manifest.specs.Bound.{is_limit_text}

are_digits : IsDigitsTest (λ digits. list_all is_ascii_digit digits ≡ true)
are_digits = search rules

own : IsNumeralModel (λ digits. list_all is_ascii_digit digits ≡ true) (digits_value 10)
own = numerals_by_value (λ digits. list_all is_ascii_digit digits ≡ true) are_digits

-- one to ten digits are read as a number of 64 bits
pub limit_text_parses : {E : Type 0} → (text : List ℕ) (error : E) → ParsesUnsigned 64 10 text (Err error) → is_limit_text text ≡ true → ⊥
limit_text_parses text error refused is =
    let parts = and_parts (nat_le 1 (length text) && nat_le (length text) 10) (list_all is_ascii_digit text) is in
    let lengths = and_parts (nat_le 1 (length text)) (nat_le (length text) 10) parts.0 in
    let some : 0 < length text = grind (arith, nat_tests, lengths.0) in
    let few : length text ≤ 10 = grind (arith, nat_tests, lengths.1) in
    let short : digits_value 10 text < 10 ^ 10 = digits_value_short own text 10 parts.1 few in
    let fits : digits_value 10 text < 2 ^ 64 = omega (arith, short) in
    let read = parse_gives own 64 text (Err error) refused parts.1 some fits in
    cc

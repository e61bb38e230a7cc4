-- The text of a decimal has its digits, and they spell it.
use Rattle.std.proofs.Common.{◌≡◌, ℕ, zero, suc, ◌+◌, ◌*◌, ◌/◌, ◌%◌, ◌^◌, ◌<◌, ◌≤◌, Bool, true, false, pos, [], ◌∷◌, ◌++◌, length, refl, sym, ◌∙◌, ap, subst, arith, ◌==◌, Ok}
use Rattle.std.specs.Prelude.{codes, decimal, if◌then◌else◌}
use Rattle.std.specs.Char.{digit_value, is_ascii_digit}
use Rattle.std.specs.Int.{is_negative}
use Rattle.std.specs.List.{list_all}
use Rattle.std.specs.Str.Parse.{digits_value, digits_value_after}
use Rattle.std.proofs.Math.Nat.{add-mul, mul-div_cancel, mul_assoc, pow-succ'}
use Rattle.std.proofs.lemmas.Bool.{and_from, eqb-true, le-leb, le-ltb, ltb-true}
use Rattle.std.proofs.lemmas.Fmt.{decimal_digit, decimal_nonempty}
use Rattle.std.proofs.lemmas.Nat.{pow-add}
use Rattle.std.proofs.lemmas.Str.{digit_value_digit}
use Rattle.ar_value.specs.Decimal.{is_i64}
use Rattle.ar_value.specs.DecimalShown.{decimal_text, fraction_text}
use Rattle.ar_value.specs.Digits.{magnitude_of}
use Rattle.ar_value.specs.Terms.{Text}
use Rattle.ar_syntax.specs.Tokens.{number_text, number_token_kind}
use Rattle.ar_syntax.specs.declared.token.TokenKind.TheVariants as kinds
use Rattle.ar_parsed_back.proofs.Cutting.{IsEnd, Lexes}
use Rattle.ar_parsed_back.proofs.Digits.{decimal_digits, decimal_value, number_cut}

-- digits, at most that many, spell a part of a power of ten
pub record Spells (most part : ℕ) (digits : Text) : Type 0 where
  pub left : ℕ
  pub room : length digits + left ≡ most
  pub some : 0 < length digits
  pub all : list_all is_ascii_digit digits ≡ true
  pub value : (before : ℕ) → digits_value_after 10 before digits * 10 ^ left ≡ before * 10 ^ most + part

digit_is : (digit : ℕ) → digit < 10 → digit_value (48 + digit) ≡ digit
digit_is digit small = omega (arith, digit_value_digit (48 + digit) (omega arith, omega arith))

digit_passes : (digit : ℕ) → digit < 10 → is_ascii_digit (48 + digit) ≡ true
digit_passes digit small = and_from _ _ (le-leb 48 (48 + digit) (omega arith)) (le-leb (48 + digit) 57 (omega arith))

distributed : (before digit most : ℕ) → (before * 10 + digit) * 10 ^ most ≡ before * 10 ^ suc most + digit * 10 ^ most
distributed before digit most = add-mul (before * 10) digit (10 ^ most) ∙ rw (mul_assoc before 10 (10 ^ most), pow-succ' 10 most) refl

last_digit : (most digit part : ℕ) → digit < 10 → part ≡ digit * 10 ^ most → Spells (suc most) part ((48 + digit) ∷ [])
last_digit most digit part small is = record {
  left = most;
  room = omega arith;
  some = omega arith;
  all = and_from _ true (digit_passes digit small) refl;
  value = λ before. rw (digit_is digit small, is) (distributed before digit most);
}

one_more : (most digit later part : ℕ) (digits : Text) → digit < 10 → part ≡ digit * 10 ^ most + later → Spells most later digits → Spells (suc most) part ((48 + digit) ∷ digits)
one_more most digit later part digits small is spells = record {
  left = spells.left;
  room = omega (arith, spells.room);
  some = omega arith;
  all = and_from _ _ (digit_passes digit small) spells.all;
  value = λ before. rw (digit_is digit small) (spells.value (before * 10 + digit) ∙ omega (arith, distributed before digit most, is));
}

-- ---- a fraction's text, from its last digit to its first

module _ (most millionths digit later part : ℕ) (small : digit < 10) (is : part ≡ digit * 10 ^ most + later) (first : millionths / 100000 ≡ digit) where
  by_digits : (none : Bool) → (millionths % 100000 == 0) ≡ none → (millionths % 100000 ≡ 0 → later ≡ 0) → Spells most later (fraction_text most (millionths % 100000 * 10))
      → Spells (suc most) part (decimal (millionths / 100000) ++ (if none then [] else fraction_text most (millionths % 100000 * 10)))
  by_digits true test ended spells = rw (first, decimal_digit digit small) (last_digit most digit part small (omega (arith, is, ended (eqb-true (millionths % 100000) 0 test))))
  by_digits false test ended spells = rw (first, decimal_digit digit small) (one_more most digit later part _ small is spells)

  by_step : (millionths % 100000 ≡ 0 → later ≡ 0) → Spells most later (fraction_text most (millionths % 100000 * 10)) → Spells (suc most) part (fraction_text (suc most) millionths)
  by_step ended spells = by_digits (millionths % 100000 == 0) refl ended spells

one_digit : (part : ℕ) → part < 10 → Spells 1 part (fraction_text 1 (part * 100000))
one_digit part small = rw (first, rest, decimal_digit part small) (last_digit 0 part part small (omega arith))
  where
    first : part * 100000 / 100000 ≡ part
    first = omega arith

    rest : part * 100000 % 100000 ≡ 0
    rest = omega arith

at_part : (most a b part : ℕ) → a ≡ b → Spells most part (fraction_text most a) → Spells most part (fraction_text most b)
at_part most a b part same spells = subst (λ (n : ℕ). Spells most part (fraction_text most n)) same spells

two_digits : (part : ℕ) → part < 100 → Spells 2 part (fraction_text 2 (part * 10000))
two_digits part small = by_step 1 (part * 10000) (part / 10) (part % 10) part (omega arith) (omega arith) (omega arith) (λ none. omega arith) (at_part 1 (part % 10 * 100000) _ (part % 10) (omega arith) (one_digit (part % 10) (omega arith)))

three_digits : (part : ℕ) → part < 1000 → Spells 3 part (fraction_text 3 (part * 1000))
three_digits part small = by_step 2 (part * 1000) (part / 100) (part % 100) part (omega arith) (omega arith) (omega arith) (λ none. omega arith) (at_part 2 (part % 100 * 10000) _ (part % 100) (omega arith) (two_digits (part % 100) (omega arith)))

four_digits : (part : ℕ) → part < 10000 → Spells 4 part (fraction_text 4 (part * 100))
four_digits part small = by_step 3 (part * 100) (part / 1000) (part % 1000) part (omega arith) (omega arith) (omega arith) (λ none. omega arith) (at_part 3 (part % 1000 * 1000) _ (part % 1000) (omega arith) (three_digits (part % 1000) (omega arith)))

five_digits : (part : ℕ) → part < 100000 → Spells 5 part (fraction_text 5 (part * 10))
five_digits part small = by_step 4 (part * 10) (part / 10000) (part % 10000) part (omega arith) (omega arith) (omega arith) (λ none. omega arith) (at_part 4 (part % 10000 * 100) _ (part % 10000) (omega arith) (four_digits (part % 10000) (omega arith)))

six_digits : (part : ℕ) → part < 1000000 → Spells 6 part (fraction_text 6 part)
six_digits part small = by_step 5 part (part / 100000) (part % 100000) part (omega arith) (omega arith) refl (λ none. none) (five_digits (part % 100000) (omega arith))

-- ---- a decimal

value_append : (before : ℕ) (first second : Text) → digits_value_after 10 before (first ++ second) ≡ digits_value_after 10 (digits_value_after 10 before first) second
value_append before [] second = refl
value_append before (byte ∷ first) second = value_append (before * 10 + digit_value byte) first second

cut_power : (value power left : ℕ) (count : ℕ) → 0 < 10 ^ count → count + left ≡ 6 → value * 10 ^ left ≡ power → value * 10 ^ 6 / 10 ^ count ≡ power
cut_power value power left count positive room is =
    let sum : 6 ≡ left + count = omega arith in
    let six : 10 ^ 6 ≡ 10 ^ left * 10 ^ count = ap (λ (n : ℕ). 10 ^ n) sum ∙ pow-add 10 left count in
    let whole : value * 10 ^ 6 ≡ power * 10 ^ count = ap (λ (n : ℕ). value * n) six ∙ (sym (mul_assoc value (10 ^ left) (10 ^ count)) ∙ ap (λ (n : ℕ). n * 10 ^ count) is) in
    ap (λ (n : ℕ). n / 10 ^ count) whole ∙ mul-div_cancel power positive

power_positive : (count : ℕ) → 0 < 10 ^ count
power_positive zero = omega arith
power_positive (suc count) = omega (arith, power_positive count, pow-succ' 10 count)

magnitude_is : (whole part : ℕ) (digits : Text) → whole < 2 ^ 64 → Spells 6 part digits → magnitude_of (decimal whole) digits ≡ whole * 1000000 + part
magnitude_is whole part digits small spells =
    let value : digits_value 10 (decimal whole ++ digits) ≡ digits_value_after 10 whole digits = value_append 0 (decimal whole) digits ∙ ap (λ (n : ℕ). digits_value_after 10 n digits) (decimal_value whole small) in
    cut_power (digits_value 10 (decimal whole ++ digits)) (whole * 1000000 + part) spells.left (length digits) (power_positive (length digits)) spells.room
    (ap (λ (n : ℕ). n * 10 ^ spells.left) value ∙ spells.value whole)

with_point : (whole fraction : Text) → 0 < length fraction → number_text whole fraction ≡ whole ++ (codes "." ++ fraction)
with_point whole [] some = absurd (omega arith)
with_point whole (digit ∷ fraction) some = refl

kind_is : (at : ℕ) (whole fraction : Text) (millionths : ℕ) → 0 < length fraction → length fraction ≤ 6 → magnitude_of whole fraction ≡ millionths → is_i64 (pos millionths) ≡ true → number_token_kind at whole fraction ≡ Ok (kinds.Decimal (pos millionths))
kind_is at whole [] millionths some few is fits = absurd (omega arith)
kind_is at whole (digit ∷ fraction) millionths some few is fits = rw (le-ltb 6 (length (digit ∷ fraction)) few, is, fits) refl

pub not_negative : (n : ℕ) → is_negative (pos n) ≡ false
not_negative n = le-ltb n 0 (omega arith)

pub text_is : (millionths : ℕ) → decimal (millionths / 1000000) ++ (codes "." ++ fraction_text 6 (millionths % 1000000)) ≡ decimal_text (pos millionths)
unfolding decimal_text
text_is millionths = rw (not_negative millionths) refl

pub decimal_text_cut : (millionths : ℕ) → is_i64 (pos millionths) ≡ true → Lexes IsEnd (decimal_text (pos millionths)) (kinds.Decimal (pos millionths) ∷ [])
decimal_text_cut millionths fits =
    let small : millionths < 2 ^ 63 = ltb-true millionths (2 ^ 63) fits in
    let whole : millionths / 1000000 < 2 ^ 64 = omega arith in
    let spells = six_digits (millionths % 1000000) (omega arith) in
    let is : magnitude_of (decimal (millionths / 1000000)) (fraction_text 6 (millionths % 1000000)) ≡ millionths = magnitude_is (millionths / 1000000) (millionths % 1000000) (fraction_text 6 (millionths % 1000000)) whole spells ∙ omega arith in
    subst (λ (text : Text). Lexes IsEnd text (kinds.Decimal (pos millionths) ∷ [])) (with_point (decimal (millionths / 1000000)) (fraction_text 6 (millionths % 1000000)) spells.some ∙ text_is millionths)
    (number_cut (decimal (millionths / 1000000)) (fraction_text 6 (millionths % 1000000)) (kinds.Decimal (pos millionths)) (decimal_nonempty (millionths / 1000000) whole) (decimal_digits (millionths / 1000000) whole) spells.all
    (λ at. kind_is at (decimal (millionths / 1000000)) (fraction_text 6 (millionths % 1000000)) millionths spells.some (omega (arith, spells.room)) is fits))

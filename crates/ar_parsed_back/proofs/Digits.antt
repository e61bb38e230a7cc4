-- Numbers without a sign are cut as one token, and it has their value.
use Rattle.std.proofs.Common.{◌≡◌, ℕ, ◌^◌, ◌<◌, ◌≤◌, Bool, true, false, pos, [], ◌∷◌, ◌++◌, length, drop, refl, arith, append_assoc, ◌==◌, None, Ok, rules}
use Rattle.std.specs.Prelude.{slice_index, decimal, not, ◌||◌, if◌then◌else◌}
use Rattle.std.specs.Char.{is_ascii_digit}
use Rattle.std.specs.Int.{is_in_range}
use Rattle.std.specs.List.{list_all}
use Rattle.std.specs.Str.Parse.{digits_value}
use Rattle.std.proofs.Math.Seq.{drop-append_seam}
use Rattle.std.proofs.lemmas.Bool.{and_left, leb-true, lt-leb, ltb-true, ne_eqb, not_from_false, or_from}
use Rattle.std.proofs.lemmas.Str.Parse.{IsNumeralModel, numerals_by_value}
use Rattle.std.proofs.lemmas.Fmt.{decimal_nonempty, digits_decimal, digits_value-decimal}
use Rattle.ar_value.specs.Decimal.{is_i64}
use Rattle.ar_value.specs.Terms.{Text}
use Rattle.ar_syntax.specs.Token.{begins_word, continues_word}
use Rattle.ar_syntax.specs.Tokens.{base_named, base_of, digits_at, digits_after_point, front_of, number_at_front, number_text, number_token_kind, piece_found, plain_number, token, token_of, with_digit}
use Rattle.ar_syntax.specs.declared.token.Token.{Token}
use Rattle.ar_syntax.specs.declared.token.TokenKind.{TokenKind}
use Rattle.ar_syntax.specs.declared.token.TokenKind.TheVariants as kinds
use Rattle.ar_syntax.proofs.Fronts.{both_pass}
use Rattle.ar_parsed_back.proofs.Cutting.{IsEnd, Lexes, one_token}
use Rattle.ar_parsed_back.proofs.Words.{differs, taken}

-- ---- bytes

no_digit : (digit large small line : Bool) → (((digit || large) || small) || line) ≡ false → digit ≡ false
no_digit true large small line e = absurd cc
no_digit false large small line e = refl

ends_digits : (byte : ℕ) → continues_word byte ≡ false → is_ascii_digit byte ≡ false
ends_digits byte e = no_digit (is_in_range 48 57 byte) (is_in_range 65 90 byte) (is_in_range 97 122 byte) (byte == 95) e

digit_range : (byte : ℕ) → is_ascii_digit byte ≡ true → byte ≤ 57
digit_range byte is = leb-true byte 57 (both_pass _ _ is).1

no_letter : (byte : ℕ) → is_ascii_digit byte ≡ true → begins_word byte ≡ false
no_letter byte is =
    let small = digit_range byte is in
    or_from _ (byte == 95) (or_from (is_in_range 65 90 byte) (is_in_range 97 122 byte) (and_left _ _ (lt-leb 65 byte (omega arith))) (and_left _ _ (lt-leb 97 byte (omega arith)))) (ne_eqb byte 95 (λ same. omega arith))

-- ---- no base

-- no letter of a base
abbrev NoBase : ℕ → Type 0
NoBase byte = base_named byte ≡ None

digit_no_base : (byte : ℕ) → is_ascii_digit byte ≡ true → NoBase byte
digit_no_base byte is = rw (differs is_ascii_digit byte 98 is refl, differs is_ascii_digit byte 111 is refl, differs is_ascii_digit byte 120 is refl) refl

end_no_base : (byte : ℕ) → continues_word byte ≡ false → NoBase byte
end_no_base byte stop =
    let other = λ (b : ℕ). not (continues_word b) in
    let is : not (continues_word byte) ≡ true = not_from_false (continues_word byte) stop in
    rw (differs (λ b. not (continues_word b)) byte 98 is refl, differs (λ b. not (continues_word b)) byte 111 is refl, differs (λ b. not (continues_word b)) byte 120 is refl) refl

second_no_base : (whole fraction rest : Text) → list_all is_ascii_digit whole ≡ true → IsEnd rest → (byte : ℕ) → NoBase (slice_index (number_text (byte ∷ whole) fraction ++ rest) 1)
second_no_base [] [] rest all ends byte = end_no_base (slice_index rest 0) ends.no_word
second_no_base [] (digit ∷ fraction) rest all ends byte = refl
second_no_base (second ∷ whole) [] rest all ends byte = digit_no_base second (both_pass _ _ all).0
second_no_base (second ∷ whole) (digit ∷ fraction) rest all ends byte = digit_no_base second (both_pass _ _ all).0

no_base : (bytes : Text) → NoBase (slice_index bytes 1) → base_of bytes ≡ None
unfolding base_of
no_base bytes is = by (slice_index bytes 0 == 48)
  where
    by : (test : Bool) → (if test then with_digit (slice_index bytes 2) (base_named (slice_index bytes 1)) else None) ≡ None
    by true = rw is refl
    by false = refl

-- ---- the digits before and after the point

digits_are : (whole fraction rest : Text) → list_all is_ascii_digit whole ≡ true → IsEnd rest → digits_at (number_text whole fraction ++ rest) ≡ whole
digits_are whole [] rest wholes ends = taken is_ascii_digit whole rest wholes (ends_digits (slice_index rest 0) ends.no_word)
digits_are whole (digit ∷ fraction) rest wholes ends =
    rw (append_assoc whole (46 ∷ digit ∷ fraction) rest) (taken is_ascii_digit whole (46 ∷ digit ∷ fraction ++ rest) wholes refl)

fraction_following : (whole fraction rest : Text) → list_all is_ascii_digit fraction ≡ true → IsEnd rest → digits_after_point (drop (length whole) (number_text whole fraction ++ rest)) ≡ fraction
fraction_following whole [] rest fractions ends = rw (drop-append_seam whole rest) ends.no_fraction
fraction_following whole (digit ∷ fraction) rest fractions ends =
    rw (append_assoc whole (46 ∷ digit ∷ fraction) rest, drop-append_seam whole (46 ∷ digit ∷ fraction ++ rest))
    (taken is_ascii_digit (digit ∷ fraction) rest fractions (ends_digits (slice_index rest 0) ends.no_word))

index_following : (front rest : Text) → slice_index (front ++ rest) (length front) ≡ slice_index rest 0
index_following [] rest = refl
index_following (byte ∷ front) rest = index_following front rest

plain_is : (at : ℕ) (whole fraction rest : Text) (kind : TokenKind) → list_all is_ascii_digit whole ≡ true → list_all is_ascii_digit fraction ≡ true → IsEnd rest → number_token_kind at whole fraction ≡ Ok kind
    → plain_number at (number_text whole fraction ++ rest) ≡ Ok (token kind at (length (number_text whole fraction)))
plain_is at whole fraction rest kind wholes fractions ends value =
    let digits = digits_are whole fraction rest wholes ends in
    let following = fraction_following whole fraction rest fractions ends in
    rw (digits, following, value, index_following (number_text whole fraction) rest, ends.no_word) refl

module _ (at : ℕ) (field : Bool) (byte : ℕ) (whole fraction rest : Text) (kind : TokenKind) where
  front_is : (bytes : Text) (found : Token) → is_ascii_digit byte ≡ true → base_of (byte ∷ bytes) ≡ None → plain_number at (byte ∷ bytes) ≡ Ok found → front_of at field (byte ∷ bytes) ≡ piece_found found
  unfolding front_of token_of number_at_front
  front_is bytes found is no_prefix plain =
      rw (differs is_ascii_digit byte 32 is refl, differs is_ascii_digit byte 9 is refl, differs is_ascii_digit byte 13 is refl, differs is_ascii_digit byte 10 is refl, differs is_ascii_digit byte 47 is refl, no_letter byte is, is, no_prefix, plain) refl

pub number_cut : (whole fraction : Text) (kind : TokenKind) → 0 < length whole → list_all is_ascii_digit whole ≡ true → list_all is_ascii_digit fraction ≡ true → ((at : ℕ) → number_token_kind at whole fraction ≡ Ok kind)
    → Lexes IsEnd (number_text whole fraction) (kind ∷ [])
number_cut [] fraction kind some wholes fractions value = absurd (omega arith)
number_cut (byte ∷ whole) [] kind some wholes fractions value =
    let digits = both_pass (is_ascii_digit byte) (list_all is_ascii_digit whole) wholes in
    one_token IsEnd byte whole kind (λ at field rest ends.
    front_is at field byte whole [] rest kind (whole ++ rest) _ digits.0 (no_base _ (second_no_base whole [] rest digits.1 ends byte)) (plain_is at (byte ∷ whole) [] rest kind wholes fractions ends (value at)))
number_cut (byte ∷ whole) (digit ∷ fraction) kind some wholes fractions value =
    let digits = both_pass (is_ascii_digit byte) (list_all is_ascii_digit whole) wholes in
    one_token IsEnd byte (whole ++ 46 ∷ digit ∷ fraction) kind (λ at field rest ends.
    front_is at field byte whole (digit ∷ fraction) rest kind ((whole ++ 46 ∷ digit ∷ fraction) ++ rest) _ digits.0 (no_base _ (second_no_base whole (digit ∷ fraction) rest digits.1 ends byte)) (plain_is at (byte ∷ whole) (digit ∷ fraction) rest kind wholes fractions ends (value at)))

-- ---- wholes

own : IsNumeralModel (λ ds. list_all is_ascii_digit ds ≡ true) (digits_value 10)
own = numerals_by_value _ (search rules)

pub decimal_digits : (n : ℕ) → n < 2 ^ 64 → list_all is_ascii_digit (decimal n) ≡ true
decimal_digits n small = digits_decimal own n small

pub decimal_value : (n : ℕ) → n < 2 ^ 64 → digits_value 10 (decimal n) ≡ n
decimal_value n small = digits_value-decimal own n small

pub whole_cut : (n : ℕ) → is_i64 (pos n) ≡ true → Lexes IsEnd (decimal n) (kinds.Whole (pos n) ∷ [])
whole_cut n fits =
    let small : n < 2 ^ 63 = ltb-true n (2 ^ 63) fits in
    let room : n < 2 ^ 64 = omega arith in
    number_cut (decimal n) [] (kinds.Whole (pos n)) (decimal_nonempty n room) (decimal_digits n room) refl (λ at. rw (decimal_value n room, fits) refl)

-- Where a text may be cut: a token, a blank or a comment ends after an ASCII byte, before one, or where the text ends.
use Rattle.std.proofs.Common.{◌≡◌, ℕ, suc, ◌+◌, ◌-◌, ◌≤◌, ◌<◌, Bool, true, false, cond, ltb, List, [], ◌∷◌, ◌++◌, length, take, drop, get_or, refl, sym, ◌∙◌, ap, subst, arith, append_assoc, ◌==◌, Some, length-append, take-append-drop, inl, inr}
use Rattle.std.specs.Prelude.{◌&&◌, nat_lt, slice_index}
use Rattle.std.specs.Char.{digit_value, is_ascii_digit}
use Rattle.std.specs.Int.{is_in_range}
use Rattle.std.specs.List.{list_all}
use Rattle.std.specs.Str.{IsCharBoundary, IsUtf8}
use Rattle.std.proofs.lemmas.Bool.{eqb-true, leb-true, le-ltb, ltb-false, ltb-true, not-false, or_cases}
use Rattle.std.proofs.lemmas.List.{length-take-le}
use Rattle.std.proofs.lemmas.List.Sums.{take_while-cons}
use Rattle.std.proofs.lemmas.Str.{IsCharBoundary-after_ascii, IsCharBoundary-from_rest, IsCharBoundary-start, IsUtf8-drop}
use Rattle.ar_syntax.specs.Spelling.{BeginsWithGap, Spells}
use Rattle.ar_syntax.specs.Token.{begins_word, comparison_sign, continues_word, is_digit_in, is_quote, letters, predicate_letters, radix, spelling, test_letters}
use Rattle.ar_syntax.specs.Spelling as spelled
use Rattle.ar_syntax.specs.Tokens.{begins_block_comment, comment_end, in_line, is_blank, line_comment, word_at}
use Rattle.ar_syntax.specs.declared.token.Base.{Base}
use Rattle.ar_syntax.specs.declared.token.Base.TheVariants.{Binary, Octal, Hexadecimal}
use Rattle.ar_tree.specs.declared.tree.Comparison.{Comparison}
use Rattle.ar_tree.specs.declared.tree.Comparison.TheVariants as comparisons
use Rattle.ar_syntax.specs.declared.token.Sign.{Sign}
use Rattle.ar_syntax.specs.declared.token.Sign.TheVariants as signs
use Rattle.ar_syntax.specs.declared.token.Token.{Token}
use Rattle.ar_syntax.specs.declared.token.TokenKind.{TokenKind}
use Rattle.ar_syntax.specs.declared.token.TokenKind.TheVariants as kinds
use Rattle.ar_syntax.specs.declared.token.Word.{Word}
use Rattle.ar_syntax.specs.declared.token.Word.TheVariants as words
use Rattle.ar_value.specs.declared.operator.Predicate.{Predicate}
use Rattle.ar_value.specs.declared.operator.Predicate.TheVariants as predicates
use Rattle.ar_value.specs.declared.operator.TextTest.{TextTest}
use Rattle.ar_value.specs.declared.operator.TextTest.TheVariants as tests
use Rattle.ar_syntax.proofs.Fronts.{both_pass, chosen, length-front, list_all-take_while, take_while-front}
use Rattle.ar_syntax.proofs.Pieces.{IsFront, IsFrontGap}

-- ---- bytes that end with an ASCII byte

pub record EndsAscii (bytes : List ℕ) : Type 0 where
  pub front : List ℕ
  pub last : ℕ
  pub are : bytes ≡ front ++ last ∷ []
  pub small : last < 128

EndsAscii-later : (front bytes : List ℕ) → EndsAscii bytes → EndsAscii (front ++ bytes)
EndsAscii-later front bytes is = record {
  front = front ++ is.front;
  last = is.last;
  are = ap (λ (later : List ℕ). front ++ later) is.are ∙ sym (append_assoc front is.front (is.last ∷ []));
  small = is.small;
}

EndsAscii-all : (p : ℕ → Bool) (bytes : List ℕ) → ((byte : ℕ) → p byte ≡ true → byte < 128) → 0 < length bytes → list_all p bytes ≡ true → EndsAscii bytes
EndsAscii-all p [] small some all = absurd (omega arith)
EndsAscii-all p (byte ∷ []) small some all = record { front = []; last = byte; are = refl; small = small byte (both_pass (p byte) true all).0 }
EndsAscii-all p (byte ∷ second ∷ bytes) small some all =
    EndsAscii-later (byte ∷ []) (second ∷ bytes) (EndsAscii-all p (second ∷ bytes) small (omega arith) (both_pass (p byte) (list_all p (second ∷ bytes)) all).1)

-- a text may be cut after them
pub boundary_after : (bytes front rest : List ℕ) → IsUtf8 bytes → bytes ≡ front ++ rest → EndsAscii front → IsCharBoundary bytes (length front)
boundary_after bytes front rest utf8 are ends =
    let len : length front ≡ length ends.front + 1 = omega (arith, ap length ends.are, length-append ends.front (ends.last ∷ [])) in
    let whole : bytes ≡ ends.front ++ ends.last ∷ rest = are ∙ ap (λ (f : List ℕ). f ++ rest) ends.are ∙ append_assoc ends.front (ends.last ∷ []) rest in
    let last : get_or bytes (length ends.front) 0 ≡ ends.last = ap (λ (b : List ℕ). get_or b (length ends.front) 0) whole ∙ get_or-middle ends.front ends.last rest in
    let within : length ends.front < length bytes = omega (arith, ap length whole, length-append ends.front (ends.last ∷ rest)) in
    subst (IsCharBoundary bytes) (sym len) (IsCharBoundary-after_ascii bytes (length ends.front) utf8 within (omega (arith, last, ends.small)))
  where
    get_or-middle : (front : List ℕ) (byte : ℕ) (rest : List ℕ) → get_or (front ++ byte ∷ rest) (length front) 0 ≡ byte
    get_or-middle [] byte rest = refl
    get_or-middle (first ∷ front) byte rest = get_or-middle front byte rest

-- ---- ASCII bytes

in_range-small : (low high byte : ℕ) → high < 128 → is_in_range low high byte ≡ true → byte < 128
in_range-small low high byte below h = omega (arith, below, leb-true byte high (both_pass _ _ h).1)

digit-small : (byte : ℕ) → is_ascii_digit byte ≡ true → byte < 128
digit-small byte h = in_range-small 48 57 byte (omega arith) h

pub continues-small : (byte : ℕ) → continues_word byte ≡ true → byte < 128
continues-small byte h = elim (or_cases _ (byte == 95) h) [
  | inr low_line ↦ omega (arith, eqb-true byte 95 low_line)
  | inl letter_or_digit ↦ elim (or_cases _ (is_in_range 97 122 byte) letter_or_digit) [
    | inr small ↦ in_range-small 97 122 byte (omega arith) small
    | inl other ↦ elim (or_cases (is_in_range 48 57 byte) (is_in_range 65 90 byte) other) [
      | inl digit ↦ in_range-small 48 57 byte (omega arith) digit
      | inr large ↦ in_range-small 65 90 byte (omega arith) large
    ]
  ]
]

digit_value-large : (byte : ℕ) → 128 ≤ byte → digit_value byte ≡ 36
digit_value-large byte large = rw (le-ltb byte 48 (omega arith), le-ltb byte 58 (omega arith), le-ltb byte 65 (omega arith), le-ltb byte 91 (omega arith), le-ltb byte 97 (omega arith), le-ltb byte 123 (omega arith)) refl

no_digit : (base : Base) (value : ℕ) → value ≡ 36 → nat_lt value (radix base) ≡ true → ⊥
no_digit Binary value is h = let below = ltb-true value 2 h in omega arith
no_digit Octal value is h = let below = ltb-true value 8 h in omega arith
no_digit Hexadecimal value is h = let below = ltb-true value 16 h in omega arith

digit_in-chosen : (base : Base) (byte : ℕ) (small : Bool) → ltb byte 128 ≡ small → is_digit_in base byte ≡ true → byte < 128
digit_in-chosen base byte true test h = ltb-true byte 128 test
digit_in-chosen base byte false test h = absurd (no_digit base (digit_value byte) (digit_value-large byte (ltb-false byte 128 test)) h)

digit_in-small : (base : Base) (byte : ℕ) → is_digit_in base byte ≡ true → byte < 128
digit_in-small base byte h = digit_in-chosen base byte (ltb byte 128) refl h

pub quote-small : (byte : ℕ) → is_quote byte ≡ true → byte < 128
quote-small byte h = elim (or_cases (byte == 34) (byte == 39) h) [
  | inl double ↦ omega (arith, eqb-true byte 34 double)
  | inr single ↦ omega (arith, eqb-true byte 39 single)
]

-- ---- each token ends with an ASCII byte

abbrev is_small : ℕ → Bool
is_small byte = ltb byte 128

is_small-small : (byte : ℕ) → is_small byte ≡ true → byte < 128
is_small-small byte h = ltb-true byte 128 h

EndsAscii-small : (bytes : List ℕ) → 0 < length bytes → list_all is_small bytes ≡ true → EndsAscii bytes
EndsAscii-small bytes some all = EndsAscii-all is_small bytes is_small-small some all

EndsAscii-test : (test : TextTest) → EndsAscii (test_letters test)
EndsAscii-test tests.Contains = EndsAscii-small _ (omega arith) refl
EndsAscii-test tests.StartsWith = EndsAscii-small _ (omega arith) refl
EndsAscii-test tests.EndsWith = EndsAscii-small _ (omega arith) refl

EndsAscii-predicate : (predicate : Predicate) → EndsAscii (predicate_letters predicate)
EndsAscii-predicate predicates.All = EndsAscii-small _ (omega arith) refl
EndsAscii-predicate predicates.Any = EndsAscii-small _ (omega arith) refl
EndsAscii-predicate predicates.None = EndsAscii-small _ (omega arith) refl
EndsAscii-predicate predicates.One = EndsAscii-small _ (omega arith) refl
EndsAscii-predicate predicates.Count = EndsAscii-small _ (omega arith) refl
EndsAscii-predicate predicates.Filter = EndsAscii-small _ (omega arith) refl

EndsAscii-letters : (word : Word) → EndsAscii (letters word)
EndsAscii-letters words.Result = EndsAscii-small _ (omega arith) refl
EndsAscii-letters words.True = EndsAscii-small _ (omega arith) refl
EndsAscii-letters words.False = EndsAscii-small _ (omega arith) refl
EndsAscii-letters words.Nil = EndsAscii-small _ (omega arith) refl
EndsAscii-letters words.And = EndsAscii-small _ (omega arith) refl
EndsAscii-letters words.Or = EndsAscii-small _ (omega arith) refl
EndsAscii-letters words.Not = EndsAscii-small _ (omega arith) refl
EndsAscii-letters words.In = EndsAscii-small _ (omega arith) refl
EndsAscii-letters (words.Test test) = EndsAscii-test test
EndsAscii-letters words.Len = EndsAscii-small _ (omega arith) refl
EndsAscii-letters words.IsNil = EndsAscii-small _ (omega arith) refl
EndsAscii-letters words.Default = EndsAscii-small _ (omega arith) refl
EndsAscii-letters (words.Over predicate) = EndsAscii-predicate predicate

EndsAscii-comparison : (comparison : Comparison) → EndsAscii (comparison_sign comparison)
EndsAscii-comparison comparisons.Equal = EndsAscii-small _ (omega arith) refl
EndsAscii-comparison comparisons.NotEqual = EndsAscii-small _ (omega arith) refl
EndsAscii-comparison comparisons.Less = EndsAscii-small _ (omega arith) refl
EndsAscii-comparison comparisons.LessOrEqual = EndsAscii-small _ (omega arith) refl
EndsAscii-comparison comparisons.Greater = EndsAscii-small _ (omega arith) refl
EndsAscii-comparison comparisons.GreaterOrEqual = EndsAscii-small _ (omega arith) refl

EndsAscii-spelling : (sign : Sign) → EndsAscii (spelling sign)
EndsAscii-spelling (signs.Comparison comparison) = EndsAscii-comparison comparison
EndsAscii-spelling sign = EndsAscii-small _ (omega arith) refl

EndsAscii-whole : (bytes : List ℕ) (magnitude : ℕ) → spelled.SpellsWhole bytes magnitude → EndsAscii bytes
EndsAscii-whole bytes magnitude (spelled.decimal digits is) = EndsAscii-all is_ascii_digit bytes digit-small digits.0 digits.1
EndsAscii-whole bytes magnitude (spelled.prefixed base digits are some all is) =
    subst EndsAscii (sym are) (EndsAscii-later (spelled.prefix base) digits (EndsAscii-all (is_digit_in base) digits (digit_in-small base) some all))

EndsAscii-decimal : (bytes whole fraction : List ℕ) → spelled.SpellsDecimal bytes whole fraction → EndsAscii bytes
EndsAscii-decimal bytes whole fraction is =
    subst EndsAscii (sym is.parts) (EndsAscii-later whole (46 ∷ fraction) (EndsAscii-later (46 ∷ []) fraction (EndsAscii-all is_ascii_digit fraction digit-small is.fraction_digits.0 is.fraction_digits.1)))

EndsAscii-text : (at : ℕ) (bytes value : List ℕ) → spelled.SpellsText at bytes value → EndsAscii bytes
EndsAscii-text at bytes value is = record { front = is.quote ∷ is.inside; last = is.quote; are = is.are; small = quote-small is.quote is.quotes }

EndsAscii-spells : (at : ℕ) (bytes : List ℕ) (kind : TokenKind) → 0 < length bytes → Spells at bytes kind → EndsAscii bytes
EndsAscii-spells at bytes (kinds.Word word) some spells = subst EndsAscii (sym spells) (EndsAscii-letters word)
EndsAscii-spells at bytes (kinds.Name name) some spells = EndsAscii-all continues_word bytes continues-small some spells.2
EndsAscii-spells at bytes (kinds.Whole value) some spells = EndsAscii-whole bytes spells.0 spells.1
EndsAscii-spells at bytes (kinds.Decimal millionths) some spells = EndsAscii-decimal bytes spells.0 spells.1 spells.2
EndsAscii-spells at bytes (kinds.Text value) some spells = EndsAscii-text at bytes value spells
EndsAscii-spells at bytes (kinds.Sign sign) some spells = subst EndsAscii (sym spells) (EndsAscii-spelling sign)

-- ---- where pieces end

token_end : (bytes : List ℕ) (at end : ℕ) (kind : TokenKind) → IsUtf8 bytes → at < end → end ≤ at + length bytes → Spells at (take (end - at) bytes) kind → IsCharBoundary bytes (end - at)
token_end bytes at end kind utf8 some within spells =
    let len : length (take (end - at) bytes) ≡ end - at = length-take-le (end - at) bytes (omega arith) in
    subst (IsCharBoundary bytes) len
    (boundary_after bytes (take (end - at) bytes) (drop (end - at) bytes) utf8 (sym (take-append-drop (end - at) bytes))
    (EndsAscii-spells at (take (end - at) bytes) kind (omega (arith, len)) spells))

line_end-chosen : (byte : ℕ) (bytes : List ℕ) (passes : Bool) → in_line byte ≡ passes → (length (line_comment bytes) < length bytes → get_or bytes (length (line_comment bytes)) 0 ≡ 10)
    → length (cond passes (byte ∷ line_comment bytes) []) < length (byte ∷ bytes) → get_or (byte ∷ bytes) (length (cond passes (byte ∷ line_comment bytes) [])) 0 ≡ 10
line_end-chosen byte bytes true test later below = later (omega arith)
line_end-chosen byte bytes false test later below = eqb-true byte 10 (not-false (byte == 10) test)

line_end : (bytes : List ℕ) → length (line_comment bytes) < length bytes → get_or bytes (length (line_comment bytes)) 0 ≡ 10
line_end [] below = absurd (omega arith)
line_end (byte ∷ bytes) below = rw (take_while-cons in_line byte bytes) (line_end-chosen byte bytes (in_line byte) refl (line_end bytes) (rw (take_while-cons in_line byte bytes) at below))

line_boundary : (bytes : List ℕ) → IsCharBoundary bytes (length (line_comment bytes))
line_boundary bytes = (length-front (line_comment bytes) _ bytes (take_while-front in_line bytes), λ below high. absurd (omega (arith, line_end bytes below, high)))

-- a comment ends with `/`
comment_slash : (at : ℕ) (star : Bool) (bytes : List ℕ) (len : ℕ) → comment_end at star bytes ≡ Some len → (i : ℕ) × (len ≡ at + (i + 1)) × (i < length bytes) × (get_or bytes i 0 ≡ 47)
comment_slash at star [] len e = absurd cc
comment_slash at star (byte ∷ bytes) len e = elim (chosen (star && byte == 47) (Some (at + 1)) (comment_end (at + 1) (byte == 42) bytes) (Some len) e) [
  | inl stop ↦
      let same : at + 1 ≡ len = cc in
      (0, sym same, omega arith, eqb-true byte 47 (both_pass star (byte == 47) stop.0).1)
  | inr go ↦
      let later = comment_slash (at + 1) (byte == 42) bytes len go.1 in
      (suc later.0, omega (arith, later.1), omega (arith, later.2), later.3)
]

block_boundary : (bytes : List ℕ) (len : ℕ) → IsUtf8 bytes → 2 ≤ length bytes → begins_block_comment bytes ≡ true → comment_end 2 false (drop 2 bytes) ≡ Some len → IsCharBoundary bytes len
block_boundary bytes len utf8 two begins ends =
    let star = eqb-true (slice_index bytes 1) 42 (both_pass (slice_index bytes 0 == 47) (slice_index bytes 1 == 42) begins).1 in
    let inside : IsCharBoundary bytes 2 = IsCharBoundary-after_ascii bytes 1 utf8 (omega arith) (omega (arith, star)) in
    let slash = comment_slash 2 false (drop 2 bytes) len ends in
    let later = IsCharBoundary-after_ascii (drop 2 bytes) slash.0 (IsUtf8-drop bytes 2 utf8 inside) slash.2 (omega (arith, slash.3)) in
    subst (IsCharBoundary bytes) (sym slash.1) (IsCharBoundary-from_rest bytes 2 (slash.0 + 1) two later)

blank-small : (byte : ℕ) → is_blank byte ≡ true → byte < 128
blank-small byte h = elim (or_cases _ (byte == 10) h) [
  | inr line ↦ omega (arith, eqb-true byte 10 line)
  | inl others ↦ elim (or_cases _ (byte == 13) others) [
    | inr return ↦ omega (arith, eqb-true byte 13 return)
    | inl inner ↦ elim (or_cases (byte == 32) (byte == 9) inner) [
      | inl space ↦ omega (arith, eqb-true byte 32 space)
      | inr tab ↦ omega (arith, eqb-true byte 9 tab)
    ]
  ]
]

gap_end-begins : (bytes : List ℕ) (len : ℕ) → IsUtf8 bytes → 0 < len → len ≤ length bytes → BeginsWithGap bytes len → IsCharBoundary bytes len
gap_end-begins bytes len utf8 some within (spelled.blank is) = IsCharBoundary-after_ascii bytes 0 utf8 (omega arith) (blank-small (slice_index bytes 0) is)
gap_end-begins bytes len utf8 some within (spelled.line is) = line_boundary bytes
gap_end-begins bytes len utf8 some within (spelled.block is ends) =
    let slash = comment_slash 2 false (drop 2 bytes) len ends in
    block_boundary bytes len utf8 (omega (arith, within, slash.1)) is ends

-- a text whose rest begins with a blank, a comment or a token may be cut after that
module _ (text : List ℕ) (at : ℕ) (utf8 : IsUtf8 text) (boundary : IsCharBoundary text at) where
  pub boundary_after_gap : (len : ℕ) → IsFrontGap (drop at text) len → IsCharBoundary text (at + len)
  boundary_after_gap len gap = IsCharBoundary-from_rest text at len boundary.0 (gap_end-begins (drop at text) len (IsUtf8-drop text at utf8 boundary) gap.some gap.within gap.begins)

  pub boundary_after_token : (token : Token) → IsFront at (drop at text) token → IsCharBoundary text token.span.end
  boundary_after_token token front =
      let later = IsCharBoundary-from_rest text at (token.span.end - at) boundary.0 (token_end (drop at text) at token.span.end token.kind (IsUtf8-drop text at utf8 boundary) front.some front.within front.spells) in
      subst (IsCharBoundary text) (omega (arith, front.some)) later

-- ---- words

word_boundary-chosen : (bytes front : List ℕ) → IsUtf8 bytes → bytes ≡ front ++ drop (length front) bytes → list_all continues_word front ≡ true → IsCharBoundary bytes (length front)
word_boundary-chosen bytes [] utf8 are all = IsCharBoundary-start bytes utf8
word_boundary-chosen bytes (byte ∷ front) utf8 are all = boundary_after bytes (byte ∷ front) _ utf8 are (EndsAscii-all continues_word (byte ∷ front) continues-small (omega arith) all)

-- a text may be cut after the word at its front
pub word_boundary : (text bytes : List ℕ) (len : ℕ) → IsUtf8 text → bytes ≡ text → len ≡ length (word_at bytes) → IsCharBoundary text len
word_boundary text bytes len utf8 same is =
    rw is (subst (λ (t : List ℕ). IsCharBoundary t (length (word_at bytes))) same (word_boundary-chosen bytes (word_at bytes) (subst IsUtf8 (sym same) utf8) (take_while-front continues_word bytes) (list_all-take_while continues_word bytes)))

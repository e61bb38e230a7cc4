-- Where shown names end.
use Rattle.std.proofs.Common.{◌≡◌, ◌≢◌, ◌<◌, ◌≤◌, ℕ, ◌+◌, ◌-◌, ◌/◌, ◌%◌, Bool, true, false, true≢false, List, [], ◌∷◌, ◌++◌, length, take, refl, sym, ◌∙◌, ap, arith, eq-eqb}
use Rattle.std.specs.Prelude.{◌==◌, nat_lt, flat_map, if◌then◌else◌, slice_index}
use Rattle.std.specs.Char.{digit_char, digit_value, encode_utf8}
use Rattle.std.specs.Str.{IsUtf8, chars}
use Rattle.std.proofs.lemmas.Bool.Decides.{Decides-eqb, nat_tests}
use Rattle.std.proofs.lemmas.List.{append_assoc, take_all}
use Rattle.std.proofs.lemmas.Str.{char_from_byte, digit_value-digit_char, encode_same, encodes-chars}
use lib.Utf8.{encodes}
use Rattle.ar_quote.specs.Shown.{code_escape, escaped, moves, name_end, quoted, unit_escape}
use Rattle.ar_quote.proofs.Still.{code_below}

-- the character that a letter after a backslash represents
abbrev meant : (letter : ℕ) → ℕ
meant letter = if letter == 34 then 34 else (if letter == 92 then 92 else (if letter == 110 then 10 else (if letter == 114 then 13 else 9)))

-- two surrogates
abbrev pair_escape : (character : ℕ) → List ℕ
pair_escape character = unit_escape (0xD800 + (character - 0x10000) / 0x400) ++ unit_escape (0xDC00 + character % 0x400)

-- how a character is shown
data Form (character : ℕ) : Type 0 where
  lettered : (letter : ℕ) → letter ≢ 117 → character ≡ meant letter → escaped character ≡ 92 ∷ letter ∷ [] → Form character
  coded : character < 65536 → (0xD800 ≤ character → character < 0xDC00 → ⊥) → escaped character ≡ unit_escape character → Form character
  paired : 65536 ≤ character → character < 1114112 → escaped character ≡ pair_escape character → Form character
  itself : character ≢ 92 → character ≢ 34 → escaped character ≡ encode_utf8 character → Form character

no_surrogate : (character : ℕ) → moves character ≡ true → 0xD800 ≤ character → character < 0xDC00 → ⊥
no_surrogate character moves from below = grind (arith, nat_tests)

form : (character : ℕ) → Form character
form character = by (character == 34) (character == 92) (character == 10) (character == 13) (character == 9) (moves character) refl refl refl refl refl refl where
  is : (letter : ℕ) → (character == letter) ≡ true → character ≡ letter
  is letter = (Decides-eqb character letter).0

  differs : (letter : ℕ) → (character == letter) ≡ false → character ≢ letter
  differs letter other same = true≢false (sym (eq-eqb character letter same) ∙ other)

  coded_form : (single : Bool) → nat_lt character 65536 ≡ single → moves character ≡ true → escaped character ≡ code_escape character → Form character
  coded_form true small moves own = coded (grind (arith, nat_tests)) (no_surrogate character moves) (own ∙ rw small refl)
  coded_form false small moves own = paired (grind (arith, nat_tests)) (code_below character moves) (own ∙ rw small refl)

  by : (quote backslash feed return tab moving : Bool) → (character == 34) ≡ quote → (character == 92) ≡ backslash → (character == 10) ≡ feed → (character == 13) ≡ return → (character == 9) ≡ tab → moves character ≡ moving → Form character
  by true backslash feed return tab moving q b f r t m = lettered 34 (λ e. omega (arith, e)) (is 34 q) (rw q refl)
  by false true feed return tab moving q b f r t m = lettered 92 (λ e. omega (arith, e)) (is 92 b) (rw (q, b) refl)
  by false false true return tab moving q b f r t m = lettered 110 (λ e. omega (arith, e)) (is 10 f) (rw (q, b, f) refl)
  by false false false true tab moving q b f r t m = lettered 114 (λ e. omega (arith, e)) (is 13 r) (rw (q, b, f, r) refl)
  by false false false false true moving q b f r t m = lettered 116 (λ e. omega (arith, e)) (is 9 t) (rw (q, b, f, r, t) refl)
  by false false false false false true q b f r t m = coded_form (nat_lt character 65536) refl m (rw (q, b, f, r, t, m) refl)
  by false false false false false false q b f r t m = itself (differs 92 b) (differs 34 q) (rw (q, b, f, r, t, m) refl)

same_digit : (a b : ℕ) → a < 16 → b < 16 → digit_char a ≡ digit_char b → a ≡ b
same_digit a b low other e = sym (digit_value-digit_char a (omega arith)) ∙ ap digit_value e ∙ digit_value-digit_char b (omega arith)

same_unit : (c d : ℕ) (r s : List ℕ) → c < 65536 → d < 65536 → unit_escape c ++ r ≡ unit_escape d ++ s → (c ≡ d) × (r ≡ s)
same_unit c d r s low other e =
    let first = same_digit (c / 256 / 16) (d / 256 / 16) (omega arith) (omega arith) cc in
    let second = same_digit (c / 256 % 16) (d / 256 % 16) (omega arith) (omega arith) cc in
    let third = same_digit (c % 256 / 16) (d % 256 / 16) (omega arith) (omega arith) cc in
    let fourth = same_digit (c % 256 % 16) (d % 256 % 16) (omega arith) (omega arith) cc in
    (omega arith, cc)

same_pair : (c d : ℕ) (r s : List ℕ) → 65536 ≤ c → c < 1114112 → 65536 ≤ d → d < 1114112 → pair_escape c ++ r ≡ pair_escape d ++ s → (c ≡ d) × (r ≡ s)
same_pair c d r s from below from_too below_too e =
    let high = same_unit (0xD800 + (c - 0x10000) / 0x400) (0xD800 + (d - 0x10000) / 0x400)
    (unit_escape (0xDC00 + c % 0x400) ++ r) (unit_escape (0xDC00 + d % 0x400) ++ s) (omega arith) (omega arith) cc in
    let low = same_unit (0xDC00 + c % 0x400) (0xDC00 + d % 0x400) r s (omega arith) (omega arith) high.1 in
    let upper = high.0 in
    let lower = low.0 in
    (omega arith, low.1)

-- one unit isn't the first of two
not_paired : (c d : ℕ) (r s : List ℕ) → c < 65536 → (0xD800 ≤ c → c < 0xDC00 → ⊥) → 65536 ≤ d → d < 1114112 → unit_escape c ++ r ≡ pair_escape d ++ s → ⊥
not_paired c d r s small no_surrogate from below e =
    let high = 0xD800 + (d - 0x10000) / 0x400 in
    let same = (same_unit c high r (unit_escape (0xDC00 + d % 0x400) ++ s) small (omega arith) cc).0 in
    no_surrogate (omega arith) (omega arith)

-- what begins with a byte of ASCII is no other character's text
begins : (byte c : ℕ) (rest r : List ℕ) → byte < 128 → byte ∷ rest ≡ encode_utf8 c ++ r → c ≡ byte
begins byte c rest r small e = char_from_byte (byte ∷ rest) r c e small (omega arith)

-- no shown character begins another
same_character : (c d : ℕ) (r s : List ℕ) → escaped c ++ r ≡ escaped d ++ s → (c ≡ d) × (r ≡ s)
same_character c d r s e = by (form c) (form d) where
  whole : (a b : List ℕ) → escaped c ≡ a → escaped d ≡ b → a ++ r ≡ b ++ s
  whole a b own other = sym (ap (λ text. text ++ r) own) ∙ e ∙ ap (λ text. text ++ s) other

  by : Form c → Form d → (c ≡ d) × (r ≡ s)
  by (lettered l not_code means own) (lettered m not_code_too means_too other) =
      let text : 92 ∷ l ∷ r ≡ 92 ∷ m ∷ s = whole (92 ∷ l ∷ []) (92 ∷ m ∷ []) own other in
      let letter : l ≡ m = cc in
      (means ∙ ap meant letter ∙ sym means_too, cc)
  by (lettered l not_code means own) (coded low apart other) =
      let text : 92 ∷ l ∷ r ≡ unit_escape d ++ s = whole (92 ∷ l ∷ []) (unit_escape d) own other in
      let letter : l ≡ 117 = cc in
      absurd (not_code letter)
  by (lettered l not_code means own) (paired from below other) =
      let text : 92 ∷ l ∷ r ≡ pair_escape d ++ s = whole (92 ∷ l ∷ []) (pair_escape d) own other in
      let letter : l ≡ 117 = cc in
      absurd (not_code letter)
  by (lettered l not_code means own) (itself not_backslash not_quote other) =
      absurd (not_backslash (begins 92 d (l ∷ r) s (omega arith) (whole (92 ∷ l ∷ []) (encode_utf8 d) own other)))
  by (coded low apart own) (lettered m not_code means other) =
      let text : unit_escape c ++ r ≡ 92 ∷ m ∷ s = whole (unit_escape c) (92 ∷ m ∷ []) own other in
      let letter : m ≡ 117 = cc in
      absurd (not_code letter)
  by (coded low apart own) (coded low_too apart_too other) =
      same_unit c d r s low low_too (whole (unit_escape c) (unit_escape d) own other)
  by (coded low apart own) (paired from below other) =
      absurd (not_paired c d r s low apart from below (whole (unit_escape c) (pair_escape d) own other))
  by (coded low apart own) (itself not_backslash not_quote other) =
      absurd (not_backslash (begins 92 d _ s (omega arith) (whole (unit_escape c) (encode_utf8 d) own other)))
  by (paired from below own) (lettered m not_code means other) =
      let text : pair_escape c ++ r ≡ 92 ∷ m ∷ s = whole (pair_escape c) (92 ∷ m ∷ []) own other in
      let letter : m ≡ 117 = cc in
      absurd (not_code letter)
  by (paired from below own) (coded low apart other) =
      absurd (not_paired d c s r low apart from below (sym (whole (pair_escape c) (unit_escape d) own other)))
  by (paired from below own) (paired from_too below_too other) =
      same_pair c d r s from below from_too below_too (whole (pair_escape c) (pair_escape d) own other)
  by (paired from below own) (itself not_backslash not_quote other) =
      absurd (not_backslash (begins 92 d _ s (omega arith) (whole (pair_escape c) (encode_utf8 d) own other)))
  by (itself not_backslash not_quote own) (lettered m not_code means other) =
      absurd (not_backslash (begins 92 c (m ∷ s) r (omega arith) (sym (whole (encode_utf8 c) (92 ∷ m ∷ []) own other))))
  by (itself not_backslash not_quote own) (coded low apart other) =
      absurd (not_backslash (begins 92 c _ r (omega arith) (sym (whole (encode_utf8 c) (unit_escape d) own other))))
  by (itself not_backslash not_quote own) (paired from below other) =
      absurd (not_backslash (begins 92 c _ r (omega arith) (sym (whole (encode_utf8 c) (pair_escape d) own other))))
  by (itself not_backslash not_quote own) (itself not_backslash_too not_quote_too other) = encode_same c d r s (whole (encode_utf8 c) (encode_utf8 d) own other)

apart : (rest r : List ℕ) → 34 ∷ rest ≡ 92 ∷ r → ⊥
apart rest r e = let byte = ap (λ (text : List ℕ). slice_index text 0) e in omega (arith, byte)

-- nor does the quote that ends a name
not_ended : (c : ℕ) (r rest : List ℕ) → 34 ∷ rest ≡ escaped c ++ r → ⊥
not_ended c r rest e = by (form c) where
  whole : (a : List ℕ) → escaped c ≡ a → 34 ∷ rest ≡ a ++ r
  whole a own = e ∙ ap (λ text. text ++ r) own

  by : Form c → ⊥
  by (lettered l not_code means own) = apart rest (l ∷ r) (whole (92 ∷ l ∷ []) own)
  by (coded low not_high own) = apart rest _ (whole (unit_escape c) own)
  by (paired from below own) = apart rest _ (whole (pair_escape c) own)
  by (itself not_backslash not_quote own) = not_quote (begins 34 c rest r (omega arith) (whole (encode_utf8 c) own))

same_shown : (cs ds x y : List ℕ) → flat_map escaped cs ++ (34 ∷ x) ≡ flat_map escaped ds ++ (34 ∷ y) → (cs ≡ ds) × (x ≡ y)
same_shown [] [] x y e = (refl, cc)
same_shown [] (d ∷ ds) x y e = absurd (not_ended d (flat_map escaped ds ++ (34 ∷ y)) x (e ∙ append_assoc (escaped d) (flat_map escaped ds) (34 ∷ y)))
same_shown (c ∷ cs) [] x y e = absurd (not_ended c (flat_map escaped cs ++ (34 ∷ x)) y (sym e ∙ append_assoc (escaped c) (flat_map escaped cs) (34 ∷ x)))
same_shown (c ∷ cs) (d ∷ ds) x y e =
    let first = same_character c d (flat_map escaped cs ++ (34 ∷ x)) (flat_map escaped ds ++ (34 ∷ y))
    (sym (append_assoc (escaped c) (flat_map escaped cs) (34 ∷ x)) ∙ e ∙ append_assoc (escaped d) (flat_map escaped ds) (34 ∷ y)) in
    let rest = same_shown cs ds x y first.1 in
    (rw (first.0, rest.0) refl, rest.1)

-- a name that is shown whole
short_end : (characters : List ℕ) → length characters ≤ 64 → name_end characters ≡ 34 ∷ []
short_end characters short = by (nat_lt 64 (length characters)) refl where
  by : (long : Bool) → nat_lt 64 (length characters) ≡ long → name_end characters ≡ 34 ∷ []
  by true is = absurd (grind (arith, nat_tests))
  by false is = rw is refl

shown_whole : (name after : List ℕ) → length (chars name) ≤ 64 → quoted name ++ after ≡ 34 ∷ (flat_map escaped (chars name) ++ (34 ∷ after))
unfolding quoted
shown_whole name after short =
    let all : take 64 (chars name) ≡ chars name = take_all 64 (chars name) short in
    rw (all, short_end (chars name) short) (ap (λ text. 34 ∷ text) (append_assoc (flat_map escaped (chars name)) (34 ∷ []) after))

pub names_end : (name other after more : List ℕ) → IsUtf8 name → IsUtf8 other → length (chars name) ≤ 64 → length (chars other) ≤ 64 → quoted name ++ after ≡ quoted other ++ more → (name ≡ other) × (after ≡ more)
names_end name other after more is other_is short other_short e =
    let texts : 34 ∷ (flat_map escaped (chars name) ++ (34 ∷ after)) ≡ 34 ∷ (flat_map escaped (chars other) ++ (34 ∷ more)) = sym (shown_whole name after short) ∙ e ∙ shown_whole other more other_short in
    let same = same_shown (chars name) (chars other) after more cc in
    (sym (encodes-chars name is) ∙ ap encodes same.0 ∙ encodes-chars other other_is, same.1)

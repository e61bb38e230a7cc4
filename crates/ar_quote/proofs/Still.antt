-- Shown names have no character at which a terminal may do something else than show it.
use Rattle.std.proofs.Common.{◌≡◌, ◌<◌, ℕ, zero, suc, ◌+◌, ◌-◌, ◌/◌, ◌%◌, Bool, true, false, List, [], ◌∷◌, ◌++◌, length, take, refl, sym, ◌∙◌, ap, subst, arith}
use Rattle.std.specs.Prelude.{All, ◌&&◌, not, ◌==◌, codes, flat_map, if◌then◌else◌, nat_le, nat_lt}
use Rattle.std.specs.Char.{digit_char, encode_utf8}
use Rattle.std.specs.List.{AllByRecursion, list_all}
use Rattle.std.specs.Str.{IsUtf8, chars}
use Rattle.std.proofs.lemmas.Bool.Decides.{nat_tests}
use Rattle.std.proofs.lemmas.List.{append-nil}
use Rattle.std.proofs.lemmas.List.Elements.{All-from_recursion}
use Rattle.std.proofs.lemmas.Str.{chars-encodes, encode_ascii, encodes-append, scalars-chars}
use lib.Utf8.{encodes, low_scalar, scalar, scalars}
use Rattle.ar_quote.specs.Shown.{code_escape, escaped, is_clear, moves, name_end, quoted, shown_name, unit_escape}

abbrev Stays : ℕ → Type 0
Stays character = moves character ≡ false

-- it is the text of characters that stay
record IsStill (bytes : List ℕ) : Type 0 where
  characters : List ℕ
  scalar : scalars characters ≡ true
  spelled : encodes characters ≡ bytes
  still : AllByRecursion Stays characters

both : (a b : Bool) → (a && b) ≡ true → (a ≡ true) × (b ≡ true)
both true b is = (refl, is)
both false b is = cc

scalars_append : (xs ys : List ℕ) → scalars xs ≡ true → scalars ys ≡ true → scalars (xs ++ ys) ≡ true
scalars_append [] ys first second = second
scalars_append (x ∷ xs) ys first second =
    let parts = both (scalar x) (scalars xs) first in
    rw (parts.0) (scalars_append xs ys parts.1 second)

all_append : (xs ys : List ℕ) → AllByRecursion Stays xs → AllByRecursion Stays ys → AllByRecursion Stays (xs ++ ys)
all_append [] ys first second = second
all_append (x ∷ xs) ys first second = (first.0, all_append xs ys first.1 second)

still_append : (a b : List ℕ) → IsStill a → IsStill b → IsStill (a ++ b)
still_append a b first second = record {
  characters = first.characters ++ second.characters;
  scalar = scalars_append first.characters second.characters first.scalar second.scalar;
  spelled = encodes-append first.characters second.characters ∙ rw (first.spelled, second.spelled) refl;
  still = all_append first.characters second.characters first.still second.still;
}

-- ---- characters of ASCII that are no controls

abbrev is_plain : ℕ → Bool
is_plain byte = nat_le 32 byte && nat_le byte 126

plain_stays : (byte : ℕ) → is_plain byte ≡ true → moves byte ≡ false
plain_stays byte plain = grind (arith, nat_tests)

plain_below : (byte : ℕ) → is_plain byte ≡ true → byte < 128
plain_below byte plain = grind (arith, nat_tests)

still_plain : (bytes : List ℕ) → list_all is_plain bytes ≡ true → IsStill bytes
still_plain [] plain = record { characters = []; scalar = refl; spelled = refl; still = tt }
still_plain (byte ∷ bytes) plain =
    let parts = both (is_plain byte) (list_all is_plain bytes) plain in
    let rest = still_plain bytes parts.1 in
    let below = plain_below byte parts.0 in
    record {
      characters = byte ∷ rest.characters;
      scalar = rw (low_scalar byte (omega arith)) rest.scalar;
      spelled = rw (encode_ascii byte below) (ap (λ bytes. byte ∷ bytes) rest.spelled);
      still = (plain_stays byte parts.0, rest.still);
    }

plain_digit : (d : ℕ) → d < 16 → is_plain (digit_char d) ≡ true
plain_digit d small = grind (arith, nat_tests)

still_unit : (unit : ℕ) → unit < 65536 → IsStill (unit_escape unit)
still_unit unit small =
    let first = plain_digit (unit / 256 / 16) (omega arith) in
    let second = plain_digit (unit / 256 % 16) (omega arith) in
    let third = plain_digit (unit % 256 / 16) (omega arith) in
    let fourth = plain_digit (unit % 256 % 16) (omega arith) in
    still_plain (unit_escape unit) (rw (first, second, third, fourth) refl)

still_code : (character : ℕ) → character < 1114112 → IsStill (code_escape character)
still_code character is = by (nat_lt character 65536) refl where
  high : ℕ
  high = 0xD800 + (character - 0x10000) / 0x400

  low : ℕ
  low = 0xDC00 + character % 0x400

  by : (single : Bool) → nat_lt character 65536 ≡ single → IsStill (if single then unit_escape character else unit_escape high ++ unit_escape low)
  by true small = still_unit character (grind (arith, nat_tests))
  by false small = still_append (unit_escape high) (unit_escape low) (still_unit high (omega arith)) (still_unit low (omega arith))

-- ---- names

still_itself : (character : ℕ) → scalar character ≡ true → moves character ≡ false → IsStill (encode_utf8 character)
still_itself character is stays = record {
  characters = character ∷ [];
  scalar = rw is refl;
  spelled = append-nil (encode_utf8 character);
  still = (stays, tt);
}

pub code_below : (character : ℕ) → moves character ≡ true → character < 1114112
code_below character moves = grind (arith, nat_tests)

still_escaped : (character : ℕ) → scalar character ≡ true → IsStill (escaped character)
still_escaped character is = by (character == 34) (character == 92) (character == 10) (character == 13) (character == 9) (moves character) refl where
  by : (quote backslash feed return tab moving : Bool) → moves character ≡ moving
      → IsStill (if quote then codes "\\\"" else (if backslash then codes "\\\\" else (if feed then codes "\\n" else (if return then codes "\\r" else (if tab then codes "\\t" else (if moving then code_escape character else encode_utf8 character))))))
  by true backslash feed return tab moving m = still_plain _ refl
  by false true feed return tab moving m = still_plain _ refl
  by false false true return tab moving m = still_plain _ refl
  by false false false true tab moving m = still_plain _ refl
  by false false false false true moving m = still_plain _ refl
  by false false false false false true m = still_code character (code_below character m)
  by false false false false false false m = still_itself character is m

still_shown : (count : ℕ) (characters : List ℕ) → scalars characters ≡ true → IsStill (flat_map escaped (take count characters))
still_shown zero characters are = still_plain [] refl
still_shown (suc count) [] are = still_plain [] refl
still_shown (suc count) (character ∷ characters) are =
    let parts = both (scalar character) (scalars characters) are in
    still_append (escaped character) (flat_map escaped (take count characters)) (still_escaped character parts.0) (still_shown count characters parts.1)

still_end : (characters : List ℕ) → IsStill (name_end characters)
still_end characters = by (nat_lt 64 (length characters)) where
  by : (long : Bool) → IsStill (if long then codes "\".." else codes "\"")
  by true = still_plain _ refl
  by false = still_plain _ refl

still_quoted : (name : List ℕ) → IsUtf8 name → IsStill (quoted name)
unfolding quoted
still_quoted name is =
    still_append (codes "\"") (flat_map escaped (take 64 (chars name)) ++ name_end (chars name)) (still_plain _ refl)
    (still_append (flat_map escaped (take 64 (chars name))) (name_end (chars name)) (still_shown 64 (chars name) (scalars-chars name is)) (still_end (chars name)))

pub names_stay : (name : List ℕ) → IsUtf8 name → All (λ character. moves character ≡ false) (chars (quoted name))
names_stay name is =
    let still = still_quoted name is in
    let characters : chars (quoted name) ≡ still.characters = sym (ap chars still.spelled) ∙ chars-encodes still.characters still.scalar in
    subst (All Stays) (sym characters) (All-from_recursion Stays still.characters still.still)

-- what is clear stays by definition
stays : (characters : List ℕ) → list_all (λ character. not (moves character)) characters ≡ true → AllByRecursion Stays characters
stays [] are = tt
stays (character ∷ characters) are =
    let parts = both (not (moves character)) (list_all (λ character. not (moves character)) characters) are in
    (by (moves character) parts.0, stays characters parts.1) where
      by : (moving : Bool) → not moving ≡ true → moving ≡ false
      by true is = cc
      by false is = refl

clear_stays : (name : List ℕ) → is_clear name ≡ true → All (λ character. moves character ≡ false) (chars name)
clear_stays [] is = cc
clear_stays (first ∷ rest) is =
    let parts = both (not (first == 34)) (list_all (λ character. not (moves character)) (chars (first ∷ rest))) is in
    All-from_recursion Stays (chars (first ∷ rest)) (stays (chars (first ∷ rest)) parts.1)

pub shown_names_stay : (name : List ℕ) → IsUtf8 name → All (λ character. moves character ≡ false) (chars (shown_name name))
unfolding shown_name
shown_names_stay name is = by (is_clear name) refl where
  by : (clear : Bool) → is_clear name ≡ clear → All (λ character. moves character ≡ false) (chars (if clear then name else quoted name))
  by true clear = clear_stays name clear
  by false clear = names_stay name is

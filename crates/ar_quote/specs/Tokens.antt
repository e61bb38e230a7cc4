-- The token at a byte of a condition (docs/use/language.md), as far as it is marked in a quote: a word, a number, a
-- text literal, a sign, a point with the name after it, or else one character. The end of the text has none.
use Rattle.std.specs.Prelude.{ℕ, suc, Bool, false, not, ◌&&◌, ◌||◌, ◌==◌, nat_lt, if◌then◌else◌, List, [], ◌∷◌, drop, length, slice_index, take, Option, Some, None, option_and_then, option_map}
use Rattle.std.specs.Char.{is_ascii_alphanumeric, is_ascii_digit}
use Rattle.std.specs.Int.{is_in_range}
use Rattle.std.specs.List.{prefix_len}

-- ---- tokens

-- letters, digits and `_`
abbrev pub is_of_word : (byte : ℕ) → Bool
is_of_word byte = is_ascii_alphanumeric byte || byte == 95

abbrev pub is_of_number : (byte : ℕ) → Bool
is_of_number byte = is_of_word byte || byte == 46

-- a byte of a character after its first
abbrev pub is_inner : (byte : ℕ) → Bool
is_inner byte = is_in_range 0x80 0xBF byte

abbrev pub is_quotation_mark : (byte : ℕ) → Bool
is_quotation_mark byte = byte == 34 || byte == 39

-- `==`, `!=`, `<=`, `>=`, `&&`, `||` and `/*`
abbrev pub is_pair : (first : ℕ) → (rest : List ℕ) → Bool
is_pair first [] = false
is_pair first (second ∷ rest) =
    second == 61 && is_in_range 60 62 first || second == 61 && first == 33
    || second == first && (first == 38 || first == 124) || first == 47 && second == 42

-- the byte is this sign, and no backslash escapes it
abbrev pub is_plain : (escaped : Bool) → (byte sign : ℕ) → Bool
is_plain escaped byte sign = not escaped && byte == sign

-- how many bytes of a text literal come after its first quote, up to the next that no backslash escapes
unfoldable pub literal_length : (quote : ℕ) → (escaped : Bool) → List ℕ → ℕ
literal_length quote escaped [] = 0
literal_length quote escaped (byte ∷ bytes) =
    if is_plain escaped byte quote then 1 else suc (literal_length quote (is_plain escaped byte 92) bytes)

-- how many bytes of the token come after its first
abbrev pub rest_length : (first : ℕ) → (rest : List ℕ) → ℕ
rest_length first rest =
    if is_quotation_mark first then literal_length first false rest
    else (if is_ascii_digit first then prefix_len is_of_number rest
    else (if is_of_word first || first == 46 then prefix_len is_of_word rest
    else (if is_pair first rest then 1
    else prefix_len is_inner rest)))

-- how many bytes the token has that a text begins with
abbrev pub token_length : (text : List ℕ) → ℕ
token_length [] = 0
token_length (first ∷ rest) = suc (rest_length first rest)

-- ---- offsets

-- no character is on both sides of `offset`
abbrev pub is_offset : (offset : ℕ) → (text : List ℕ) → Bool
is_offset offset text = offset == length text || nat_lt offset (length text) && not (is_inner (slice_index text offset))

abbrev pub halves_at : (offset : ℕ) → (text : List ℕ) → Option (List ℕ × List ℕ)
halves_at offset text = if is_offset offset text then Some (take offset text, drop offset text) else None

-- the token at a byte of a text, with what comes before it and what after it
pub record TokenAt : Type 0 where
  pub before : List ℕ
  pub token : List ℕ
  pub after : List ℕ

abbrev pub found : (before token after : List ℕ) → TokenAt
found before token after = record { before = before; token = token; after = after }

unfoldable pub token_at : (offset : ℕ) → (text : List ℕ) → Option TokenAt
token_at offset text =
    option_and_then (λ parts. option_map (λ rest. found parts.0 rest.0 rest.1) (halves_at (token_length parts.1)
    parts.1)) (halves_at offset text)

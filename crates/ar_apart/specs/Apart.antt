-- Where two texts differ that are shown alike: long texts are shown shortened.
use Rattle.std.specs.Prelude.{◌≡◌, refl, ℕ, zero, suc, ◌==◌, Bool, not, ◌&&◌, if◌then◌else◌, List, [], ◌∷◌, ◌++◌, codes, drop, replicate, take, Option, Some, None, option_and_then}
use Rattle.std.specs.Char.{encode_utf8}
use Rattle.std.specs.Fmt.{digits}
use Rattle.std.specs.List.{common_prefix_len, prefix_len}
use Rattle.std.specs.Str.{bytes_eq, chars}
use Rattle.ar_value.specs.Terms.{Text}
use Rattle.ar_value.specs.Value.{Value, text, nil}
use Rattle.ar_quote.specs.Quote.{quoted_round}
use Rattle.ar_quote.specs.Shown.{quoted}
use Rattle.ar_quote.specs.Tokens.{TokenAt, found, is_inner, is_offset}
use Rattle.ar_show.specs.Values.{shown_text, shown_value}

-- ---- where two texts differ

-- how many of their first bytes are the same, which is the index of the first byte that isn't
abbrev pub first_difference : Text → Text → ℕ
first_difference left right = common_prefix_len (λ byte other. byte == other) left right

-- where the character begins that has the byte with an index
abbrev pub character_start : Text → (index : ℕ) → ℕ
character_start letters zero = zero
character_start letters (suc index) =
    if is_offset (suc index) letters then suc index else character_start letters index

-- how many bytes the first character has, if there is one
abbrev pub character_length : Text → ℕ
character_length [] = 0
character_length (first ∷ rest) = suc (prefix_len is_inner rest)

-- the first character of `rest`, with what comes before it and what after it
abbrev pub first_of : (before rest : Text) → TokenAt
first_of before rest = found before (take (character_length rest) rest) (drop (character_length rest) rest)

-- the same of the character that has the byte with an index; the end of a text has none
abbrev pub character_at : (index : ℕ) → Text → TokenAt
character_at index letters =
    first_of (take (character_start letters index) letters) (drop (character_start letters index) letters)

pub record Apart : Type 0 where
  -- the index of the first byte in which they differ, from 0
  pub byte : ℕ
  -- the texts round the character that has it, as conditions are quoted round a token (ar_quote/specs/Quote)
  pub left : List ℕ
  pub right : List ℕ

abbrev pub apart_of : Text → Text → Apart
apart_of left right = record {
  byte = first_difference left right;
  left = quoted_round (character_at (first_difference left right) left);
  right = quoted_round (character_at (first_difference left right) right);
}

-- ---- operands that are shown alike

abbrev pub look_alike : Text → Text → Bool
look_alike left right = not (bytes_eq left right) && bytes_eq (shown_value (text left)) (shown_value (text right))

abbrev pub apart_if_alike : Text → Text → Option Apart
apart_if_alike left right = if look_alike left right then Some (apart_of left right) else None

-- two operands, where both are texts
abbrev pub two_texts : Value → Value → Option (Text × Text)
two_texts (text left) (text right) = Some (left, right)
two_texts left right = None

-- of two operands, where they are texts that differ and are shown alike
abbrev pub operands_apart : Value → Value → Option Apart
operands_apart left right =
    option_and_then (λ (texts : Text × Text). apart_if_alike texts.0 texts.1) (two_texts left right)

-- ---- worked rows

-- `n` times `a`, and what follows
a's_and : ℕ → Text → Text
a's_and n rest = replicate n 97 ++ rest

abbrev the_a's : Text
the_a's = replicate 40 97

-- two texts of 70 characters that differ at byte 66
differ_at_66 : operands_apart (text (a's_and 66 (codes "xaaa"))) (text (a's_and 66 (codes "yaaa"))) ≡ Some (record {
  byte = 66;
  left = codes "..\"" ++ (the_a's ++ (encode_utf8 0xAB ++ (codes "x" ++ (encode_utf8 0xBB ++ codes "aaa\""))));
  right = codes "..\"" ++ (the_a's ++ (encode_utf8 0xAB ++ (codes "y" ++ (encode_utf8 0xBB ++ codes "aaa\""))));
})
unfolding a's_and shown_value shown_text quoted quoted_round digits chars lib.Utf8.encode
differ_at_66 = refl

-- `é` and `è` differ in their second byte
second_byte_differs : operands_apart (text (a's_and 66 (encode_utf8 0xE9))) (text (a's_and 66 (encode_utf8 0xE8)))
    ≡ Some (record {
      byte = 67;
      left = codes "..\"" ++ (the_a's ++ (encode_utf8 0xAB ++ (encode_utf8 0xE9 ++ (encode_utf8 0xBB ++ codes "\""))));
      right = codes "..\"" ++ (the_a's ++ (encode_utf8 0xAB ++ (encode_utf8 0xE8 ++ (encode_utf8 0xBB ++ codes "\""))));
    })
unfolding a's_and shown_value shown_text quoted quoted_round digits chars lib.Utf8.encode
second_byte_differs = refl

equal_texts : operands_apart (text (a's_and 70 [])) (text (a's_and 70 [])) ≡ None
unfolding a's_and
equal_texts = refl

shown_differently : operands_apart (text (codes "aab")) (text (codes "aac")) ≡ None
unfolding shown_value shown_text quoted digits chars lib.Utf8.encode
shown_differently = refl

no_texts : operands_apart nil (text (codes "a")) ≡ None
no_texts = refl

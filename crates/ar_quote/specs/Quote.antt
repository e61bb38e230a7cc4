-- How a condition is quoted round one of its tokens.
use Rattle.std.specs.Prelude.{ℕ, ◌-◌, nat_lt, if◌then◌else◌, List, [], ◌++◌, codes, drop, flat_map, length, take}
use Rattle.std.specs.Char.{encode_utf8}
use Rattle.std.specs.Str.{chars}
use Rattle.ar_quote.specs.Shown.{escaped}
use Rattle.ar_quote.specs.Tokens.{TokenAt}

-- a quote has marks round its token, « (0xAB) and » (0xBB)

-- how many characters of a condition are shown before the token, of it, and after it
abbrev pub most_around : ℕ
most_around = 40

abbrev pub shown_before : (characters : List ℕ) → List ℕ
shown_before characters =
    (if nat_lt most_around (length characters) then codes "..\"" else codes "\"")
    ++ flat_map escaped (drop (length characters - most_around) characters)

abbrev pub shown_first : (characters : List ℕ) → List ℕ
shown_first characters = flat_map escaped (take most_around characters)

abbrev pub token_end : (characters : List ℕ) → List ℕ
token_end characters = if nat_lt most_around (length characters) then codes ".." else []

abbrev pub quote_end : (characters : List ℕ) → List ℕ
quote_end characters = if nat_lt most_around (length characters) then codes "\".." else codes "\""

-- a condition as a JSON string, with marks round a token
unfoldable pub quoted_round : TokenAt → List ℕ
quoted_round found =
    shown_before (chars found.before)
    ++ (encode_utf8 0xAB ++ (shown_first (chars found.token)
    ++ (token_end (chars found.token)
    ++ (encode_utf8 0xBB ++ (shown_first (chars found.after) ++ quote_end (chars found.after))))))

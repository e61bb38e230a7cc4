-- How names of a document are shown, so that each stays in its line, ends where it seems to end, and leaves room for
-- more.
use Rattle.std.specs.Prelude.{◌≡◌, refl, ℕ, ◌+◌, ◌-◌, ◌/◌, ◌%◌, ◌==◌, nat_lt, Bool, false, not, ◌&&◌, ◌||◌, if◌then◌else◌, List, [], ◌∷◌, ◌++◌, codes, flat_map, length, take}
use Rattle.std.specs.Char.{digit_char, encode_utf8, is_control}
use Rattle.std.specs.Int.{is_in_range}
use Rattle.std.specs.List.{list_all}
use Rattle.std.specs.Str.{chars}

-- ---- characters

-- separators of lines, and marks of direction
abbrev pub is_mark : (character : ℕ) → Bool
is_mark character =
    character == 0x061C || (is_in_range 0x200E 0x200F character
    || (is_in_range 0x2028 0x202E character || is_in_range 0x2066 0x2069 character))

-- characters of which nothing is seen: without width, fillers of Hangul, and language tags
abbrev pub is_invisible : (character : ℕ) → Bool
is_invisible character =
    character == 0x00AD || (is_in_range 0x115F 0x1160 character || (character == 0x180E
    || (is_in_range 0x200B 0x200D character || (is_in_range 0x2060 0x2065 character
    || (character == 0x3164 || (character == 0xFEFF || (character == 0xFFA0
    || is_in_range 0xE0000 0xE007F character)))))))

-- a terminal may do something else at the character than show it after the one before
abbrev pub moves : (character : ℕ) → Bool
moves character = is_control character || (is_mark character || is_invisible character)

-- a byte in two hexadecimal digits
abbrev pub byte_digits : (byte : ℕ) → List ℕ
byte_digits byte = digit_char (byte / 16) ∷ digit_char (byte % 16) ∷ []

-- a unit of UTF-16 in four hexadecimal digits
abbrev pub unit_escape : (unit : ℕ) → List ℕ
unit_escape unit = codes "\\u" ++ (byte_digits (unit / 256) ++ byte_digits (unit % 256))

-- a character by its units of UTF-16: one below 2^16, and two surrogates from there on
abbrev pub code_escape : (character : ℕ) → List ℕ
code_escape character =
    if nat_lt character 0x10000 then unit_escape character
    else unit_escape (0xD800 + (character - 0x10000) / 0x400) ++ unit_escape (0xDC00 + character % 0x400)

-- a character in a JSON string (RFC 8259)
abbrev pub escaped : (character : ℕ) → List ℕ
escaped character =
    if character == 34 then codes "\\\""
    else (if character == 92 then codes "\\\\"
    else (if character == 10 then codes "\\n"
    else (if character == 13 then codes "\\r"
    else (if character == 9 then codes "\\t"
    else (if moves character then code_escape character
    else encode_utf8 character)))))

-- ---- names

-- how many characters of a name are shown
abbrev pub most_characters : ℕ
most_characters = 64

-- the end of a name, which shows whether it continues
abbrev pub name_end : (characters : List ℕ) → List ℕ
name_end characters = if nat_lt most_characters (length characters) then codes "\".." else codes "\""

-- a name as a JSON string
unfoldable pub quoted : (name : List ℕ) → List ℕ
quoted name = codes "\"" ++ (flat_map escaped (take most_characters (chars name)) ++ name_end (chars name))

-- a name that a line of words can have as it is: it isn't empty, doesn't look like a JSON string, and stays in its line
abbrev pub is_clear : (name : List ℕ) → Bool
is_clear [] = false
is_clear (first ∷ rest) = not (first == 34) && list_all (λ character. not (moves character)) (chars (first ∷ rest))

-- any other name is a JSON string there
unfoldable pub shown_name : (name : List ℕ) → List ℕ
shown_name name = if is_clear name then name else quoted name

-- ---- worked rows

clear_name : shown_name (codes "error rate") ≡ codes "error rate"
unfolding shown_name chars
clear_name = refl

name_with_a_line_feed : shown_name (codes "a\nrun b") ≡ codes "\"a\\nrun b\""
unfolding shown_name quoted chars lib.Utf8.encode
name_with_a_line_feed = refl

soft_hyphen : quoted (codes "a" ++ (encode_utf8 0xAD ++ codes "b")) ≡ codes "\"a\\u00adb\""
unfolding quoted chars lib.Utf8.encode
soft_hyphen = refl

language_tag : quoted (encode_utf8 0xE0041) ≡ codes "\"\\udb40\\udc41\""
unfolding quoted chars lib.Utf8.encode
language_tag = refl

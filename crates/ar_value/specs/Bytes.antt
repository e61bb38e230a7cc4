-- Bytes by the ASCII characters that they represent.
use Rattle.std.specs.Prelude.{◌≡◌, ℕ, codes, slice_index, refl}
use Rattle.ar_value.specs.Terms.{Text}

-- the first byte of a text, which is one character
abbrev pub byte_of : Text → ℕ
byte_of text = slice_index text 0

-- ---- worked rows

byte_of_slash : byte_of (codes "/") ≡ 47
byte_of_slash = refl

byte_of_line_feed : byte_of (codes "\n") ≡ 10
byte_of_line_feed = refl

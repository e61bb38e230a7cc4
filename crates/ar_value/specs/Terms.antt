-- What numbers and lists of numbers are called.
use Rattle.std.specs.Prelude.{ℕ, List}

-- bytes of any kind
abbrev pub Bytes : Type 0
Bytes = List ℕ

-- bytes in UTF-8, or a part of such
abbrev pub Text : Type 0
Text = List ℕ

-- where a byte is in a text, from 0
abbrev pub Offset : Type 0
Offset = ℕ

-- where an operation is in its code, from 0
abbrev pub Index : Type 0
Index = ℕ

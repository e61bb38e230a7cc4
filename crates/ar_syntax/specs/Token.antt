-- The letters, signs, bases and escapes of tokens.
use Rattle.std.specs.Prelude.{ℕ, ◌+◌, Bool, true, false, ◌||◌, ◌==◌, if◌then◌else◌, List, [], ◌∷◌, codes, find, Option, Some, None, Result, Ok, Err, ◌≡◌, refl}
use Rattle.std.specs.Char.{is_ascii_alphabetic, is_ascii_alphanumeric, is_digit}
use Rattle.std.specs.Str.{bytes_eq}
use Rattle.ar_value.specs.Terms.{Offset, Text}
use Rattle.ar_value.specs.Bytes.{byte_of}
use Rattle.ar_value.specs.Answer.{◌>>=◌}
use Rattle.ar_syntax.specs.declared.error.SyntaxError.{SyntaxError}
use Rattle.ar_syntax.specs.declared.error.SyntaxError.TheVariants.{BadEscape}
use Rattle.ar_syntax.specs.declared.token.Base.{Base}
use Rattle.ar_syntax.specs.declared.token.Base.TheVariants.{Binary, Octal, Hexadecimal}
use Rattle.ar_tree.specs.declared.tree.Comparison.{Comparison}
use Rattle.ar_tree.specs.declared.tree.Comparison.TheVariants as comparisons
use Rattle.ar_syntax.specs.declared.token.Sign.{Sign}
use Rattle.ar_syntax.specs.declared.token.Sign.TheVariants as signs
use Rattle.ar_syntax.specs.declared.token.TokenKind.{TokenKind}
use Rattle.ar_syntax.specs.declared.token.TokenKind.TheVariants as kinds
use Rattle.ar_syntax.specs.declared.token.Word.{Word}
use Rattle.ar_syntax.specs.declared.token.Word.TheVariants as words
use Rattle.ar_value.specs.declared.operator.Predicate.{Predicate}
use Rattle.ar_value.specs.declared.operator.Predicate.TheVariants as predicates
use Rattle.ar_value.specs.declared.operator.TextTest.{TextTest}
use Rattle.ar_value.specs.declared.operator.TextTest.TheVariants as tests

-- ---- words

-- a word has letters, digits and `_`, and begins with none of the digits
abbrev pub begins_word : ℕ → Bool
begins_word byte = is_ascii_alphabetic byte || byte == byte_of (codes "_")

abbrev pub continues_word : ℕ → Bool
continues_word byte = is_ascii_alphanumeric byte || byte == byte_of (codes "_")

-- how the language spells a test of texts
abbrev pub test_letters : TextTest → Text
test_letters tests.Contains = codes "contains"
test_letters tests.StartsWith = codes "startsWith"
test_letters tests.EndsWith = codes "endsWith"

-- how the language spells a call with a predicate
abbrev pub predicate_letters : Predicate → Text
predicate_letters predicates.All = codes "all"
predicate_letters predicates.Any = codes "any"
predicate_letters predicates.None = codes "none"
predicate_letters predicates.One = codes "one"
predicate_letters predicates.Count = codes "count"
predicate_letters predicates.Filter = codes "filter"

-- how the language spells the words that it names
abbrev pub letters : Word → Text
letters words.Result = codes "result"
letters words.True = codes "true"
letters words.False = codes "false"
letters words.Nil = codes "nil"
letters words.And = codes "and"
letters words.Or = codes "or"
letters words.Not = codes "not"
letters words.In = codes "in"
letters (words.Test test) = test_letters test
letters words.Len = codes "len"
letters words.IsNil = codes "isNil"
letters words.Default = codes "default"
letters (words.Over predicate) = predicate_letters predicate

abbrev pub named_words : List Word
named_words =
    words.Result ∷ words.True ∷ words.False ∷ words.Nil ∷ words.And ∷ words.Or ∷ words.Not ∷ words.In
    ∷ words.Test tests.Contains ∷ words.Test tests.StartsWith ∷ words.Test tests.EndsWith
    ∷ words.Len ∷ words.IsNil ∷ words.Default
    ∷ words.Over predicates.All ∷ words.Over predicates.Any ∷ words.Over predicates.None ∷ words.Over predicates.One
    ∷ words.Over predicates.Count ∷ words.Over predicates.Filter ∷ []

-- the word that the language spells so
unfoldable pub word_of : Text → Option Word
word_of bytes = find (λ word. bytes_eq (letters word) bytes) named_words

-- a word that the language doesn't name is a name
abbrev pub word_or_name : Text → Option Word → TokenKind
word_or_name bytes (Some word) = kinds.Word word
word_or_name bytes None = kinds.Name bytes

-- ---- signs

-- the sign of a comparison
abbrev pub comparison_sign : Comparison → Text
comparison_sign comparisons.Equal = codes "=="
comparison_sign comparisons.NotEqual = codes "!="
comparison_sign comparisons.Less = codes "<"
comparison_sign comparisons.LessOrEqual = codes "<="
comparison_sign comparisons.Greater = codes ">"
comparison_sign comparisons.GreaterOrEqual = codes ">="

abbrev pub spelling : Sign → Text
spelling (signs.Comparison comparison) = comparison_sign comparison
spelling signs.And = codes "&&"
spelling signs.Or = codes "||"
spelling signs.Not = codes "!"
spelling signs.Plus = codes "+"
spelling signs.Minus = codes "-"
spelling signs.Star = codes "*"
spelling signs.Slash = codes "/"
spelling signs.Percent = codes "%"
spelling signs.Question = codes "?"
spelling signs.Colon = codes ":"
spelling signs.Comma = codes ","
spelling signs.Point = codes "."
spelling signs.OpenParenthesis = codes "("
spelling signs.CloseParenthesis = codes ")"
spelling signs.OpenBracket = codes "["
spelling signs.CloseBracket = codes "]"
spelling signs.OpenBrace = codes "{"
spelling signs.CloseBrace = codes "}"
spelling signs.Hash = codes "#"

-- directly after a word, `)`, `]` or `#` a point is a field's, and begins no number
abbrev pub takes_field : TokenKind → Bool
takes_field (kinds.Word word) = true
takes_field (kinds.Name name) = true
takes_field (kinds.Sign signs.CloseParenthesis) = true
takes_field (kinds.Sign signs.CloseBracket) = true
takes_field (kinds.Sign signs.Hash) = true
takes_field kind = false

-- ---- numbers

-- the bases that have a prefix, as `0x`
abbrev pub radix : Base → ℕ
radix Binary = 2
radix Octal = 8
radix Hexadecimal = 16

abbrev pub is_digit_in : Base → ℕ → Bool
is_digit_in base byte = is_digit byte (radix base)

-- ---- texts

-- a text is between two `"` or two `'`
abbrev pub is_quote : ℕ → Bool
is_quote byte = byte == byte_of (codes "\"") || byte == byte_of (codes "'")

-- how many bytes come before the quote that ends a text, counted on from `at`: a backslash takes the next byte's own
-- meaning
abbrev pub text_end : (quote at : ℕ) → Bool → Text → Option ℕ
text_end quote at escaped [] = None
text_end quote at true (byte ∷ bytes) = text_end quote (at + 1) false bytes
text_end quote at false (byte ∷ bytes) =
    if byte == quote then Some at else text_end quote (at + 1) (byte == byte_of (codes "\\")) bytes

-- what a backslash with a byte after it represents: itself, a quote, LF, CR or tab
abbrev pub escape_of : ℕ → Option ℕ
escape_of byte =
    if byte == byte_of (codes "\\") || byte == byte_of (codes "\"") || byte == byte_of (codes "'") then Some byte
    else (if byte == byte_of (codes "n") then Some (byte_of (codes "\n"))
    else (if byte == byte_of (codes "r") then Some (byte_of (codes "\r"))
    else (if byte == byte_of (codes "t") then Some (byte_of (codes "\t"))
    else None)))

-- a byte in front of those that others represent
abbrev pub with_byte : ℕ → Result Text SyntaxError → Result Text SyntaxError
with_byte byte later = later >>= λ bytes. Ok (byte ∷ bytes)

abbrev pub with_escape : Offset → Option ℕ → Result Text SyntaxError → Result Text SyntaxError
with_escape at (Some byte) later = with_byte byte later
with_escape at None later = Err (BadEscape at)

-- what the bytes of a text directly after an offset represent
abbrev pub unescaped : Offset → Bool → Text → Result Text SyntaxError
unescaped before escaped [] = Ok []
unescaped before true (byte ∷ bytes) = with_escape before (escape_of byte) (unescaped (before + 1) false bytes)
unescaped before false (byte ∷ bytes) =
    if byte == byte_of (codes "\\") then unescaped (before + 1) true bytes
    else with_byte byte (unescaped (before + 1) false bytes)

-- ---- worked rows

a_named_word : word_of (codes "not") ≡ Some words.Not
unfolding word_of
a_named_word = refl

no_word : word_of (codes "size") ≡ None
unfolding word_of
no_word = refl

with_a_line_feed : unescaped 0 false (codes "a\\nb") ≡ Ok (codes "a\nb")
with_a_line_feed = refl

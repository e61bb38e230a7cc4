-- How texts spell tokens and what is between them, and what cutting a text into tokens returns.
use Rattle.std.specs.Prelude.{◌≡◌, ℕ, ◌-◌, ◌<◌, ◌≤◌, pos, false, IsTrue, List, [], ◌∷◌, ◌++◌, length, take, drop, codes, slice_index, Some, None, Ok, Bool, true, Result, Err, IfOk, All, Vec}
use Rattle.std.specs.Char.{is_ascii_digit}
use Rattle.std.specs.List.{list_all}
use Rattle.std.specs.Str.Parse.{digits_value}
use Rattle.ar_value.specs.Digits.{magnitude_of}
use Rattle.ar_syntax.specs.declared.token.Base.{Base}
use Rattle.ar_syntax.specs.declared.token.Base.TheVariants.{Binary, Octal, Hexadecimal}
use Rattle.ar_syntax.specs.declared.token.Span.{Span}
use Rattle.ar_syntax.specs.declared.token.TokenKind.{TokenKind}
use Rattle.ar_syntax.specs.declared.token.TokenKind.TheVariants as kinds
use Rattle.ar_syntax.specs.Token.{begins_word, continues_word, is_digit_in, is_quote, letters, radix, spelling, text_end, unescaped, word_of}
use Rattle.std.specs.declared.alloc.Global.{Global}
use Rattle.ar_value.specs.Terms.{Offset, Text}
use Rattle.ar_value.specs.Answer.{Gives}
use Rattle.ar_value.specs.Limits.{most_text_bytes}
use Rattle.ar_syntax.specs.declared.error.SyntaxError.{SyntaxError}
use Rattle.ar_syntax.specs.declared.error.SyntaxError.TheVariants.{TooLong, OutOfMemory}
use Rattle.ar_syntax.specs.declared.token.Token.{Token}
use Rattle.ar_syntax.specs.Tokens.{begins_block_comment, begins_line_comment, comment_end, is_blank, line_comment, tokens_of}

-- one digit or more, and nothing else
abbrev pub AreDigits : Text → Type 0
AreDigits bytes = (0 < length bytes) × IsTrue (list_all is_ascii_digit bytes)

abbrev pub prefix : Base → Text
prefix Binary = codes "0b"
prefix Octal = codes "0o"
prefix Hexadecimal = codes "0x"

-- a whole: digits, or a prefix and digits of its base
pub data SpellsWhole (bytes : Text) (magnitude : ℕ) : Type 0 where
  decimal : AreDigits bytes → magnitude ≡ digits_value 10 bytes → SpellsWhole bytes magnitude
  prefixed : (base : Base) (digits : Text) → bytes ≡ prefix base ++ digits → 0 < length digits
      → IsTrue (list_all (is_digit_in base) digits) → magnitude ≡ digits_value (radix base) digits
      → SpellsWhole bytes magnitude

-- a decimal: digits, a point and one to six digits; before the point there may be none
pub record SpellsDecimal (bytes whole fraction : Text) : Type 0 where
  pub parts : bytes ≡ whole ++ 46 ∷ fraction
  pub whole_digits : IsTrue (list_all is_ascii_digit whole)
  pub fraction_digits : AreDigits fraction
  pub fine : length fraction ≤ 6

-- a text at an offset: its end is the first quote of its kind that no backslash precedes
pub record SpellsText (at : ℕ) (bytes value : Text) : Type 0 where
  pub quote : ℕ
  pub inside : Text
  pub are : bytes ≡ quote ∷ inside ++ quote ∷ []
  pub quotes : IsTrue (is_quote quote)
  pub ends : text_end quote 0 false (inside ++ quote ∷ []) ≡ Some (length inside)
  pub means : unescaped at false inside ≡ Ok value

-- the bytes at an offset are the text of such a token
abbrev pub Spells : Offset → Text → TokenKind → Type 0
Spells at bytes (kinds.Word word) = bytes ≡ letters word
Spells at bytes (kinds.Name name) =
    (bytes ≡ name) × IsTrue (begins_word (slice_index bytes 0)) × IsTrue (list_all continues_word bytes)
    × (word_of bytes ≡ None)
Spells at bytes (kinds.Whole value) = (magnitude : ℕ) × SpellsWhole bytes magnitude × (value ≡ pos magnitude)
Spells at bytes (kinds.Decimal millionths) =
    (whole : Text) × (fraction : Text) × SpellsDecimal bytes whole fraction
    × (millionths ≡ pos (magnitude_of whole fraction))
Spells at bytes (kinds.Text value) = SpellsText at bytes value
Spells at bytes (kinds.Sign sign) = bytes ≡ spelling sign

-- the part of a text at a span
abbrev pub text_in_span : Text → Span → Text
text_in_span text span = take (span.end - span.start) (drop span.start text)

-- out of memory, which is a refusal of no text
abbrev pub is_syntax_memory : SyntaxError → Bool
is_syntax_memory OutOfMemory = true
is_syntax_memory error = false

-- the tokens are between two offsets, in order, and each has a byte at least
abbrev pub AreTokensInOrder : ℕ → Offset → List Token → Type 0
AreTokensInOrder start end [] = start ≤ end
AreTokensInOrder start end (token ∷ tokens) =
    (start ≤ token.span.start) × (token.span.start < token.span.end) × AreTokensInOrder token.span.end end tokens

-- the text at a token's span spells it
abbrev pub IsSpelled : Text → Token → Type 0
IsSpelled text token = Spells token.span.start (text_in_span text token.span) token.kind

-- the blank or comment at the front
pub data BeginsWithGap : Text → ℕ → Type 0 where
  blank : {bytes : Text} (is : is_blank (slice_index bytes 0) ≡ true) → BeginsWithGap bytes 1
  line : {bytes : Text} (is : begins_line_comment bytes ≡ true) → BeginsWithGap bytes (length (line_comment bytes))
  block : {bytes : Text} {len : ℕ} (is : begins_block_comment bytes ≡ true)
      → comment_end 2 false (drop 2 bytes) ≡ Some len → BeginsWithGap bytes len

-- nothing but blanks and comments comes before the rest of bytes
pub data IsGap : Text → Text → Type 0 where
  none : {rest : Text} → IsGap rest rest
  more : {bytes rest : Text} {len : ℕ} → BeginsWithGap bytes len → IsGap (drop len bytes) rest → IsGap bytes rest

-- nothing but blanks and comments is between an offset and the tokens after it, and between and after these
abbrev pub IsGapBetween : Text → Offset → List Token → Type 0
IsGapBetween text offset [] = IsGap (drop offset text) []
IsGapBetween text offset (token ∷ tokens) =
    IsGap (drop offset text) (drop token.span.start text) × IsGapBetween text token.span.end tokens

-- what cutting a text into tokens returns
pub record CutsTo (text : Text) (result : Result (Vec Token Global) SyntaxError) : Type 0 where
  -- these tokens, or this fault
  pub exact : Gives is_syntax_memory (λ tokens. tokens.items) result (tokens_of text)
  -- a text that is too long is refused for that alone
  pub too_long : most_text_bytes < length text → result ≡ Err TooLong
  -- the tokens are the text's parts: they are in order,
  pub in_order : IfOk result (λ tokens. AreTokensInOrder 0 (length text) tokens.items)
  -- the text at each of them spells it,
  pub spelled : IfOk result (λ tokens. All (IsSpelled text) tokens.items)
  -- and all else in the text is blanks and comments
  pub gap_between : IfOk result (λ tokens. IsGapBetween text 0 tokens.items)

-- Cutting a text into tokens, from left to right; each is the longest possible there.
use Rattle.std.specs.Prelude.{ℕ, zero, suc, ◌+◌, ◌-◌, pos, Bool, false, ◌&&◌, ◌||◌, not, ◌==◌, nat_eq, nat_lt, if◌then◌else◌, List, [], ◌∷◌, ◌++◌, length, take, drop, slice_index, find, take_while, Option, Some, None, Result, Ok, Err, codes}
use Rattle.std.specs.Char.{is_ascii_digit}
use Rattle.std.specs.List.{starts_with}
use Rattle.std.specs.Str.Parse.{digits_value}
use Rattle.ar_value.specs.Terms.{Offset, Text}
use Rattle.ar_value.specs.Bytes.{byte_of}
use Rattle.ar_value.specs.Decimal.{is_i64}
use Rattle.ar_value.specs.Digits.{magnitude_of}
use Rattle.ar_value.specs.Answer.{◌>>=◌}
use Rattle.ar_value.specs.Limits.{most_text_bytes}
use Rattle.ar_syntax.specs.Token.{begins_word, continues_word, is_digit_in, is_quote, word_or_name, radix, spelling, takes_field, text_end, unescaped, word_of}
use Rattle.ar_syntax.specs.declared.error.SyntaxError.{SyntaxError}
use Rattle.ar_syntax.specs.declared.error.SyntaxError.TheVariants.{TooLong, BadCharacter, OpenText, OpenComment, LiteralTooFine, NumberTooLarge}
use Rattle.ar_syntax.specs.declared.scanner.Piece.{Piece}
use Rattle.ar_syntax.specs.declared.scanner.Piece.TheVariants.{Gap, Found}
use Rattle.ar_syntax.specs.declared.token.Base.{Base}
use Rattle.ar_syntax.specs.declared.token.Base.TheVariants.{Binary, Octal, Hexadecimal}
use Rattle.ar_tree.specs.declared.tree.Comparison.TheVariants.{Equal, NotEqual, Less, LessOrEqual, Greater, GreaterOrEqual}
use Rattle.ar_syntax.specs.declared.token.Sign.{Sign}
use Rattle.ar_syntax.specs.declared.token.Sign.TheVariants as signs
use Rattle.ar_syntax.specs.declared.token.Token.{Token}
use Rattle.ar_syntax.specs.declared.token.TokenKind.{TokenKind}
use Rattle.ar_syntax.specs.declared.token.TokenKind.TheVariants as kinds

-- a token of n bytes at an offset
abbrev pub token : TokenKind → Offset → ℕ → Token
token kind at length = record { kind = kind; span = record { start = at; end = at + length } }

-- ---- blanks and comments

-- space, tab, CR and LF separate tokens
abbrev pub is_blank : ℕ → Bool
is_blank byte =
    byte == byte_of (codes " ") || byte == byte_of (codes "\t") || byte == byte_of (codes "\r")
    || byte == byte_of (codes "\n")

abbrev pub in_line : ℕ → Bool
in_line byte = not (byte == byte_of (codes "\n"))

-- `//` extends to the next LF, or to the end
abbrev pub line_comment : Text → Text
line_comment bytes = take_while in_line bytes

-- how many bytes there are up to the end of the first `*/`; `at` of them are read, and the last was a `*` or not
abbrev pub comment_end : (at : ℕ) → (starred : Bool) → Text → Option ℕ
comment_end at starred [] = None
comment_end at starred (byte ∷ bytes) =
    if starred && byte == byte_of (codes "/") then Some (at + 1)
    else comment_end (at + 1) (byte == byte_of (codes "*")) bytes

abbrev pub comment_of : Offset → Option ℕ → Result Piece SyntaxError
comment_of at None = Err (OpenComment at)
comment_of at (Some len) = Ok (Gap len)

-- `/*` extends to the next `*/`, which doesn't share its `*`
abbrev pub block_comment : Offset → Text → Result Piece SyntaxError
block_comment at bytes = comment_of at (comment_end 2 false (drop 2 bytes))

-- ---- words

-- the word at the front: as many letters, digits and `_` as there are
abbrev pub word_at : Text → Text
word_at bytes = take_while continues_word bytes

abbrev pub word_token : Offset → Text → Token
word_token at word = token (word_or_name word (word_of word)) at (length word)

-- ---- numbers

-- the digits at the front
abbrev pub digits_at : Text → Text
digits_at bytes = take_while is_ascii_digit bytes

-- the digits directly after a point at the front
abbrev pub digits_after_point : Text → Text
digits_after_point bytes = if slice_index bytes 0 == byte_of (codes ".") then digits_at (drop 1 bytes) else []

-- of the number at the front, the digits after its point: a point belongs to it where a digit follows
abbrev pub fraction_at : Text → Text
fraction_at bytes = digits_after_point (drop (length (digits_at bytes)) bytes)

-- a number's text: a point is in it only before digits
abbrev pub number_text : Text → Text → Text
number_text whole [] = whole
number_text whole (digit ∷ fraction) = whole ++ byte_of (codes ".") ∷ digit ∷ fraction

-- a number begins with a digit, or with a point and a digit where no field may come
abbrev pub begins_number : Bool → Text → Bool
begins_number field bytes =
    is_ascii_digit (slice_index bytes 0)
    || (slice_index bytes 0 == byte_of (codes ".") && is_ascii_digit (slice_index bytes 1) && not field)

-- a whole is an i64
abbrev pub whole_token_kind : Offset → ℕ → Result TokenKind SyntaxError
whole_token_kind at value = if is_i64 (pos value) then Ok (kinds.Whole (pos value)) else Err (NumberTooLarge at)

-- digits with a point spell a decimal, which has six digits after the point at most and is an i64 in millionths
abbrev pub decimal_token_kind : Offset → Text → Text → Result TokenKind SyntaxError
decimal_token_kind at whole fraction =
    if nat_lt 6 (length fraction) then Err (LiteralTooFine at)
    else (if is_i64 (pos (magnitude_of whole fraction)) then Ok (kinds.Decimal (pos (magnitude_of whole fraction)))
    else Err (NumberTooLarge at))

abbrev pub number_token_kind : Offset → Text → Text → Result TokenKind SyntaxError
number_token_kind at whole [] = whole_token_kind at (digits_value 10 whole)
number_token_kind at whole (digit ∷ fraction) = decimal_token_kind at whole (digit ∷ fraction)

-- no letter, digit or `_` comes directly after a number (after the last byte `slice_index` is 0)
abbrev pub number_ended : Offset → ℕ → Text → TokenKind → Result Token SyntaxError
number_ended at len bytes kind =
    if continues_word (slice_index bytes len) then Err (BadCharacter (at + len)) else Ok (token kind at len)

-- a number without a prefix
abbrev pub plain_number : Offset → Text → Result Token SyntaxError
plain_number at bytes =
    number_token_kind at (digits_at bytes) (fraction_at bytes)
    >>= number_ended at (length (number_text (digits_at bytes) (fraction_at bytes))) bytes

-- the base that a letter after a 0 names
abbrev pub base_named : ℕ → Option Base
base_named byte =
    if byte == byte_of (codes "b") then Some Binary
    else (if byte == byte_of (codes "o") then Some Octal
    else (if byte == byte_of (codes "x") then Some Hexadecimal
    else None))

-- a base is there only with a digit of it
abbrev pub with_digit : ℕ → Option Base → Option Base
with_digit byte None = None
with_digit byte (Some base) = if is_digit_in base byte then Some base else None

-- the base of the number at the front, where it has a prefix
unfoldable pub base_of : Text → Option Base
base_of bytes =
    if slice_index bytes 0 == byte_of (codes "0")
    then with_digit (slice_index bytes 2) (base_named (slice_index bytes 1)) else None

-- the digits of a base after its prefix
abbrev pub base_digits : Base → Text → Text
base_digits base bytes = take_while (is_digit_in base) (drop 2 bytes)

abbrev pub prefixed_number : Offset → Text → Base → Result Token SyntaxError
prefixed_number at bytes base =
    whole_token_kind at (digits_value (radix base) (base_digits base bytes))
    >>= number_ended at (2 + length (base_digits base bytes)) bytes

abbrev pub number_in : Offset → Text → Option Base → Result Token SyntaxError
number_in at bytes (Some base) = prefixed_number at bytes base
number_in at bytes None = plain_number at bytes

-- the number at the front
unfoldable pub number_at_front : Offset → Text → Result Token SyntaxError
number_at_front at bytes = number_in at bytes (base_of bytes)

-- ---- texts

-- the value of the text at the front, whose end is known
abbrev pub text_in : Offset → Text → Option ℕ → Result Token SyntaxError
text_in at bytes None = Err (OpenText at)
text_in at bytes (Some len) =
    unescaped at false (take len (drop 1 bytes)) >>= λ value. Ok (token (kinds.Text value) at (len + 2))

-- the text at the front, up to the quote that it begins with
unfoldable pub text_at_front : Offset → Text → Result Token SyntaxError
text_at_front at bytes = text_in at bytes (text_end (slice_index bytes 0) 0 false (drop 1 bytes))

-- ---- signs

-- the signs, the longest first
abbrev pub all_signs : List Sign
all_signs =
    signs.Comparison Equal ∷ signs.Comparison NotEqual ∷ signs.Comparison LessOrEqual ∷ signs.Comparison GreaterOrEqual
    ∷ signs.And ∷ signs.Or
    ∷ signs.Comparison Less ∷ signs.Comparison Greater ∷ signs.Not ∷ signs.Plus ∷ signs.Minus ∷ signs.Star
    ∷ signs.Slash ∷ signs.Percent
    ∷ signs.Question ∷ signs.Colon ∷ signs.Comma ∷ signs.Point ∷ signs.OpenParenthesis ∷ signs.CloseParenthesis
    ∷ signs.OpenBracket
    ∷ signs.CloseBracket ∷ signs.OpenBrace ∷ signs.CloseBrace ∷ signs.Hash ∷ []

-- the sign at the front
unfoldable pub sign_at : Text → Option Sign
sign_at bytes = find (λ sign. starts_with nat_eq bytes (spelling sign)) all_signs

abbrev pub sign_token : Offset → Option Sign → Result Token SyntaxError
sign_token at None = Err (BadCharacter at)
sign_token at (Some sign) = Ok (token (kinds.Sign sign) at (length (spelling sign)))

-- `??` and `?.` aren't signs of the language, nor two signs
abbrev pub is_coalescing : Text → Bool
is_coalescing bytes =
    slice_index bytes 0 == byte_of (codes "?")
    && (slice_index bytes 1 == byte_of (codes "?") || slice_index bytes 1 == byte_of (codes "."))

abbrev pub sign_of : Offset → Text → Result Token SyntaxError
sign_of at bytes = if is_coalescing bytes then Err (BadCharacter at) else sign_token at (sign_at bytes)

-- ---- all tokens

abbrev pub piece_found : Token → Result Piece SyntaxError
piece_found token = Ok (Found token)

abbrev pub begins_line_comment : Text → Bool
begins_line_comment bytes = slice_index bytes 0 == byte_of (codes "/") && slice_index bytes 1 == byte_of (codes "/")

abbrev pub begins_block_comment : Text → Bool
begins_block_comment bytes = slice_index bytes 0 == byte_of (codes "/") && slice_index bytes 1 == byte_of (codes "*")

-- what is at the front where no blank or comment is
unfoldable pub token_of : Offset → Bool → Text → Result Token SyntaxError
token_of at field bytes =
    if begins_word (slice_index bytes 0) then Ok (word_token at (word_at bytes))
    else (if begins_number field bytes then number_at_front at bytes
    else (if is_quote (slice_index bytes 0) then text_at_front at bytes
    else sign_of at bytes))

-- what is at the front of bytes that begin at an offset of the text: a blank, a comment or a token
unfoldable pub front_of : Offset → Bool → Text → Result Piece SyntaxError
front_of at field bytes =
    if is_blank (slice_index bytes 0) then Ok (Gap 1)
    else (if begins_line_comment bytes then Ok (Gap (length (line_comment bytes)))
    else (if begins_block_comment bytes then block_comment at bytes
    else token_of at field bytes >>= piece_found))

-- a token, and those after it
abbrev pub with_front : Offset → Piece → (ℕ → Bool → Result (List Token) SyntaxError) → Result (List Token) SyntaxError
with_front at (Gap len) later = later (len - 1) false
with_front at (Found token) later =
    later (token.span.end - (at + 1)) (takes_field token.kind) >>= λ tokens. Ok (token ∷ tokens)

-- the tokens after the next `skip` bytes, of bytes that begin at an offset of the text; `field` says that a point here
-- is a field's
unfoldable pub tokens_after : ℕ → Offset → Bool → Text → Result (List Token) SyntaxError
tokens_after skip at field [] = Ok []
tokens_after (suc skip) at field (byte ∷ bytes) = tokens_after skip (at + 1) field bytes
tokens_after zero at field (byte ∷ bytes) =
    front_of at field (byte ∷ bytes)
    >>= λ front. with_front at front (λ skip field. tokens_after skip (at + 1) field bytes)

-- the tokens of a text that isn't too long, or its first fault
unfoldable pub tokens_of : Text → Result (List Token) SyntaxError
tokens_of text = if nat_lt most_text_bytes (length text) then Err TooLong else tokens_after 0 0 false text

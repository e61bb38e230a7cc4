-- No text is refused as out of memory.
use Rattle.std.proofs.Common.{◌≡◌, ◌≢◌, ℕ, zero, suc, ◌+◌, ◌==◌, Bool, true, false, cond, ltb, pos, List, [], ◌∷◌, length, take, drop, refl, Option, Some, None, Result, Ok, Err}
use Rattle.std.specs.Prelude.{nat_lt, slice_index}
use Rattle.std.specs.Str.Parse.{digits_value}
use Rattle.ar_value.specs.Decimal.{is_i64}
use Rattle.ar_value.specs.Digits.{magnitude_of}
use Rattle.ar_value.specs.Answer.{◌>>=◌}
use Rattle.ar_value.specs.Limits.{most_text_bytes}
use Rattle.ar_syntax.specs.Refusal.{IsNamedAfter, AreRefused, IsRefusedAfter}
use Rattle.ar_syntax.specs.Refusal as refusal
use Rattle.ar_syntax.specs.Parsed.{IsRefusal, token_fault, grammar_fault}
use Rattle.ar_syntax.specs.Parse.{parse_of}
use Rattle.ar_syntax.specs.Token.{begins_word, continues_word, escape_of, is_quote, radix, takes_field, text_end, unescaped, with_byte, with_escape}
use Rattle.ar_syntax.specs.Tokens.{base_digits, base_of, begins_block_comment, begins_line_comment, begins_number, block_comment, comment_end, comment_of, digits_at, number_ended, piece_found, fraction_at, front_of, is_blank, is_coalescing, line_comment, number_in, number_at_front, number_text, sign_at, sign_of, sign_token, text_in, text_at_front, token, token_of, tokens_after, tokens_of, number_token_kind, whole_token_kind, with_front, word_at, word_token}
use Rattle.ar_syntax.specs.declared.error.SyntaxError.{SyntaxError}
use Rattle.ar_syntax.specs.declared.error.SyntaxError.TheVariants.{BadCharacter, OutOfMemory}
use Rattle.ar_syntax.specs.declared.scanner.Piece.{Piece}
use Rattle.ar_syntax.specs.declared.scanner.Piece.TheVariants.{Gap, Found}
use Rattle.ar_syntax.specs.declared.token.Base.{Base}
use Rattle.ar_syntax.specs.declared.token.Sign.{Sign}
use Rattle.ar_syntax.specs.declared.token.Token.{Token}
use Rattle.ar_syntax.specs.declared.token.TokenKind.{TokenKind}
use Rattle.ar_syntax.specs.declared.token.TokenKind.TheVariants as kinds
use Rattle.ar_syntax.proofs.Texts.{IsRefusal-from_parse_of}

-- the answer isn't out of memory
abbrev IsDefined : {A : Type 0} → Result A SyntaxError → Type 0
IsDefined (Ok x) = Unit {0}
IsDefined (Err error) = error ≢ OutOfMemory

IsDefined-then : {A B : Type 0} (r : Result A SyntaxError) (f : A → Result B SyntaxError) → IsDefined r → ((x : A) → IsDefined (f x)) → IsDefined (r >>= f)
IsDefined-then (Ok x) f r-is f-is = f-is x
IsDefined-then (Err error) f r-is f-is = r-is

IsDefined-cond : {A : Type 0} (b : Bool) (r s : Result A SyntaxError) → IsDefined r → IsDefined s → IsDefined (cond b r s)
IsDefined-cond true r s r-is s-is = r-is
IsDefined-cond false r s r-is s-is = s-is

whole_of-defined : (at magnitude : ℕ) → IsDefined (whole_token_kind at magnitude)
whole_of-defined at magnitude = IsDefined-cond (is_i64 (pos magnitude)) _ _ tt (λ same. absurd cc)

value_of-defined : (at : ℕ) (whole fraction : List ℕ) → IsDefined (number_token_kind at whole fraction)
value_of-defined at whole [] = whole_of-defined at (digits_value 10 whole)
value_of-defined at whole (digit ∷ fraction) =
    IsDefined-cond (nat_lt 6 (length (digit ∷ fraction))) _ _ (λ same. absurd cc)
    (IsDefined-cond (is_i64 (pos (magnitude_of whole (digit ∷ fraction)))) _ _ tt (λ same. absurd cc))

ended-defined : (at len : ℕ) (bytes : List ℕ) (kind : TokenKind) → IsDefined (number_ended at len bytes kind)
ended-defined at len bytes kind = IsDefined-cond (continues_word (slice_index bytes len)) _ _ (λ same. absurd cc) tt

number_in-defined : (at : ℕ) (bytes : List ℕ) (base : Option Base) → IsDefined (number_in at bytes base)
number_in-defined at bytes (Some base) =
    IsDefined-then (whole_token_kind at (digits_value (radix base) (base_digits base bytes))) (number_ended at (2 + length (base_digits base bytes)) bytes) (whole_of-defined at (digits_value (radix base) (base_digits base bytes))) (ended-defined at (2 + length (base_digits base bytes)) bytes)
number_in-defined at bytes None =
    IsDefined-then (number_token_kind at (digits_at bytes) (fraction_at bytes)) (number_ended at (length (number_text (digits_at bytes) (fraction_at bytes))) bytes) (value_of-defined at (digits_at bytes) (fraction_at bytes)) (ended-defined at (length (number_text (digits_at bytes) (fraction_at bytes))) bytes)

number_of-defined : (at : ℕ) (bytes : List ℕ) → IsDefined (number_at_front at bytes)
unfolding number_at_front
number_of-defined at bytes = number_in-defined at bytes (base_of bytes)

with_byte-defined : (byte : ℕ) (later : Result (List ℕ) SyntaxError) → IsDefined later → IsDefined (with_byte byte later)
with_byte-defined byte later is = IsDefined-then later (λ bytes. Ok (byte ∷ bytes)) is (λ bytes. tt)

with_escape-defined : (at : ℕ) (escape : Option ℕ) (later : Result (List ℕ) SyntaxError) → IsDefined later → IsDefined (with_escape at escape later)
with_escape-defined at (Some byte) later is = with_byte-defined byte later is
with_escape-defined at None later is = λ same. absurd cc

unescaped-defined : (before : ℕ) (escaped : Bool) (bytes : List ℕ) → IsDefined (unescaped before escaped bytes)
unescaped-defined before escaped [] = tt
unescaped-defined before true (byte ∷ bytes) = with_escape-defined before (escape_of byte) (unescaped (before + 1) false bytes) (unescaped-defined (before + 1) false bytes)
unescaped-defined before false (byte ∷ bytes) =
    IsDefined-cond (byte == 92) (unescaped (before + 1) true bytes) (with_byte byte (unescaped (before + 1) false bytes)) (unescaped-defined (before + 1) true bytes) (with_byte-defined byte (unescaped (before + 1) false bytes) (unescaped-defined (before + 1) false bytes))

text_in-defined : (at : ℕ) (bytes : List ℕ) (end : Option ℕ) → IsDefined (text_in at bytes end)
text_in-defined at bytes None = λ same. absurd cc
text_in-defined at bytes (Some len) = IsDefined-then (unescaped at false (take len (drop 1 bytes))) (λ value. Ok (token (kinds.Text value) at (len + 2))) (unescaped-defined at false (take len (drop 1 bytes))) (λ value. tt)

text_of-defined : (at : ℕ) (bytes : List ℕ) → IsDefined (text_at_front at bytes)
unfolding text_at_front
text_of-defined at bytes = text_in-defined at bytes (text_end (slice_index bytes 0) 0 false (drop 1 bytes))

sign_token-defined : (at : ℕ) (sign : Option Sign) → IsDefined (sign_token at sign)
sign_token-defined at None = λ same. absurd cc
sign_token-defined at (Some sign) = tt

token_of-defined : (at : ℕ) (field : Bool) (bytes : List ℕ) → IsDefined (token_of at field bytes)
unfolding token_of
token_of-defined at field bytes =
    IsDefined-cond (begins_word (slice_index bytes 0)) (Ok (word_token at (word_at bytes))) _ tt
    (IsDefined-cond (begins_number field bytes) (number_at_front at bytes) _ (number_of-defined at bytes)
    (IsDefined-cond (is_quote (slice_index bytes 0)) (text_at_front at bytes) (sign_of at bytes) (text_of-defined at bytes)
    (IsDefined-cond (is_coalescing bytes) (Err (BadCharacter at)) (sign_token at (sign_at bytes)) (λ same. absurd cc) (sign_token-defined at (sign_at bytes)))))

comment_of-defined : (at : ℕ) (end : Option ℕ) → IsDefined (comment_of at end)
comment_of-defined at None = λ same. absurd cc
comment_of-defined at (Some len) = tt

front_of-defined : (at : ℕ) (field : Bool) (bytes : List ℕ) → IsDefined (front_of at field bytes)
unfolding front_of
front_of-defined at field bytes =
    IsDefined-cond (is_blank (slice_index bytes 0)) (Ok (Gap 1)) _ tt
    (IsDefined-cond (begins_line_comment bytes) (Ok (Gap (length (line_comment bytes)))) _ tt
    (IsDefined-cond (begins_block_comment bytes) (block_comment at bytes) (token_of at field bytes >>= piece_found) (comment_of-defined at (comment_end 2 false (drop 2 bytes)))
    (IsDefined-then (token_of at field bytes) piece_found (token_of-defined at field bytes) (λ token. tt))))

with_front-defined : (at : ℕ) (front : Piece) (later : ℕ → Bool → Result (List Token) SyntaxError) → ((skip : ℕ) (word : Bool) → IsDefined (later skip word)) → IsDefined (with_front at front later)
with_front-defined at (Gap len) later later-is = later-is _ false
with_front-defined at (Found token) later later-is = IsDefined-then (later _ (takes_field token.kind)) (λ tokens. Ok (token ∷ tokens)) (later-is _ (takes_field token.kind)) (λ tokens. tt)

tokens_after-defined : (skip at : ℕ) (field : Bool) (bytes : List ℕ) → IsDefined (tokens_after skip at field bytes)
unfolding tokens_after
tokens_after-defined skip at field [] = tt
tokens_after-defined (suc skip) at field (byte ∷ bytes) = tokens_after-defined skip (at + 1) field bytes
tokens_after-defined zero at field (byte ∷ bytes) =
    IsDefined-then (front_of at field (byte ∷ bytes)) (λ front. with_front at front (λ skip word. tokens_after skip (at + 1) word bytes)) (front_of-defined at field (byte ∷ bytes))
    (λ front. with_front-defined at front (λ skip word. tokens_after skip (at + 1) word bytes) (λ skip word. tokens_after-defined skip (at + 1) word bytes))

tokens_of-defined : (text : List ℕ) → IsDefined (tokens_of text)
unfolding tokens_of
tokens_of-defined text = IsDefined-cond (ltb most_text_bytes (length text)) _ _ (λ same. absurd cc) (tokens_after-defined 0 0 false text)

not_memory : {A : Type 0} (r : Result A SyntaxError) → IsDefined r → r ≢ Err OutOfMemory
not_memory (Ok x) r-is e = absurd cc
not_memory (Err error) r-is e = let same : error ≡ OutOfMemory = cc in r-is same

named-defined : (before : List Token) (token : Token) (error : SyntaxError) → IsNamedAfter before token error → error ≢ OutOfMemory
named-defined before token error (refusal.unknown_name is wants) same = absurd cc
named-defined before token error (refusal.item_outside is out) same = absurd cc
named-defined before token error (refusal.item_field_outside is wants out) same = absurd cc
named-defined before token error (refusal.wrong_count begins) same = absurd cc
named-defined before token error (refusal.too_many_items others begins) same = absurd cc
named-defined before token error (refusal.too_deep others further begins) same = absurd cc

later-defined : (before : List Token) (token : Token) (error : SyntaxError) → IsRefusedAfter before token error → error ≢ OutOfMemory
later-defined before token error (refusal.named is) same = named-defined before token error is same
later-defined before token error (refusal.unexpected none) same = absurd cc

refused-chosen : (end : ℕ) (tokens : List Token) (error : SyntaxError) → AreRefused end tokens error → error ≢ OutOfMemory
refused-chosen end tokens error (refusal.at_token before token rest are begins stops why) same = later-defined before token error why same
refused-chosen end tokens error (refusal.at_end begins none) same = absurd cc
refused-chosen end tokens error (refusal.at_depth tree derived deep) same = absurd cc

refusal-chosen : (text : List ℕ) → ¬ IsRefusal text OutOfMemory
refusal-chosen text (token_fault cut) = not_memory (tokens_of text) (tokens_of-defined text) cut
refusal-chosen text (grammar_fault tokens cut why) = refused-chosen (length text) tokens OutOfMemory why refl

pub memory_is_no_refusal : (text : List ℕ) → parse_of text ≢ Err OutOfMemory
memory_is_no_refusal text e = refusal-chosen text (IsRefusal-from_parse_of text OutOfMemory e)

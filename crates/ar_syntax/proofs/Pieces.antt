-- Blanks, comments and tokens at the front of bytes.
use Rattle.std.proofs.Common.{◌≡◌, ℕ, ◌+◌, ◌-◌, ◌≤◌, ◌<◌, Bool, true, false, cond, pos, List, [], ◌∷◌, ◌++◌, length, take, drop, refl, sym, ◌∙◌, ap, subst, arith, append_assoc, nat_lt, ◌==◌, Option, Some, None, Ok, Err, length-append, length-drop, inl, inr}
use Rattle.std.specs.Prelude.{◌&&◌, slice_index}
use Rattle.std.specs.List.{list_all}
use Rattle.std.specs.Str.{bytes_eq}
use Rattle.std.proofs.lemmas.Bool.{ltb-false, eqb-true}
use Rattle.std.proofs.lemmas.List.{take_at}
use Rattle.std.specs.Char.{is_ascii_digit}
use Rattle.std.specs.Str.Parse.{digits_value}
use Rattle.ar_value.specs.Decimal.{is_i64}
use Rattle.ar_value.specs.Digits.{magnitude_of}
use Rattle.ar_value.specs.Answer.{◌>>=◌}
use Rattle.ar_syntax.specs.Spelling.{BeginsWithGap, Spells, SpellsText, SpellsWhole, prefix}
use Rattle.ar_syntax.specs.Token.{begins_word, continues_word, comparison_sign, is_digit_in, is_quote, letters, word_or_name, named_words, radix, spelling, text_end, unescaped, word_of}
use Rattle.ar_syntax.specs.Spelling as spelled
use Rattle.ar_syntax.specs.Tokens.{all_signs, base_digits, base_named, base_of, begins_block_comment, begins_line_comment, begins_number, block_comment, comment_end, comment_of, digits_at, digits_after_point, fraction_at, front_of, in_line, is_blank, is_coalescing, line_comment, number_at_front, number_ended, number_in, number_token_kind, number_text, piece_found, plain_number, prefixed_number, sign_at, sign_of, sign_token, text_at_front, text_in, token, token_of, whole_token_kind, with_digit, word_at, word_token}
use Rattle.ar_syntax.specs.declared.error.SyntaxError.TheVariants.{BadCharacter, LiteralTooFine, NumberTooLarge}
use Rattle.ar_syntax.specs.declared.scanner.Piece.{Piece}
use Rattle.ar_syntax.specs.declared.scanner.Piece.TheVariants.{Gap, Found}
use Rattle.ar_syntax.specs.declared.token.Base.{Base}
use Rattle.ar_syntax.specs.declared.token.Token.{Token}
use Rattle.ar_syntax.specs.declared.token.TokenKind.{TokenKind}
use Rattle.ar_syntax.specs.declared.token.TokenKind.TheVariants as kinds
use Rattle.ar_tree.specs.declared.tree.Comparison.{Comparison}
use Rattle.ar_tree.specs.declared.tree.Comparison.TheVariants as comparisons
use Rattle.ar_syntax.specs.declared.token.Sign.{Sign}
use Rattle.ar_syntax.specs.declared.token.Sign.TheVariants as signs
use Rattle.ar_syntax.specs.declared.token.Word.{Word}
use Rattle.std.proofs.lemmas.Slice.Eq.{bytes_eq-Decides}
use Rattle.ar_syntax.proofs.Fronts.{IsPrefixed-base_of, both_pass, bind_ok, chosen, length-front, list_all-digits_after_point, list_all-take_while, number-some, number_front, number_text-some, passes-from_find, prefixed_front, prefixed_len, sign_at_front, take_while-front, take_while-some, word_at-first, word_at-some}

-- a token is at the front of bytes that begin at an offset
pub record IsFront (at : ℕ) (bytes : List ℕ) (token : Token) : Type 0 where
  pub start : token.span.start ≡ at
  pub some : at < token.span.end
  pub within : token.span.end ≤ at + length bytes
  pub spells : Spells at (take (token.span.end - at) bytes) token.kind

IsFront-token : (at : ℕ) (bytes : List ℕ) (kind : TokenKind) (len : ℕ) → 0 < len → len ≤ length bytes → Spells at (take len bytes) kind → IsFront at bytes (token kind at len)
IsFront-token at bytes kind len some within spells =
    let taken : at + len - at ≡ len = omega arith in
    record { start = refl; some = omega arith; within = omega arith; spells = rw taken spells }

-- a token that is the front part
IsFront-part : (at : ℕ) (bytes front rest : List ℕ) (kind : TokenKind) (len : ℕ) → bytes ≡ front ++ rest → length front ≡ len → 0 < len → Spells at front kind → IsFront at bytes (token kind at len)
IsFront-part at bytes front rest kind len are is some spells =
    let taken : take len bytes ≡ front = ap (take len) are ∙ take_at front rest len is in
    IsFront-token at bytes kind len some (omega (arith, length-front front rest bytes are)) (rw taken spells)

-- ---- numbers

-- digits spell a whole
Spells-whole_of : (at magnitude : ℕ) (bytes : List ℕ) (kind : TokenKind) → SpellsWhole bytes magnitude → whole_token_kind at magnitude ≡ Ok kind → Spells at bytes kind
Spells-whole_of at magnitude bytes kind spells e =
    elim (chosen (is_i64 (pos magnitude)) (Ok (kinds.Whole (pos magnitude))) (Err (NumberTooLarge at)) (Ok kind) e) [
      | inl fits ↦ let same : kinds.Whole (pos magnitude) ≡ kind = cc in subst (Spells at bytes) same (magnitude, spells, refl)
      | inr large ↦ absurd cc
    ]

-- the value of a number's digits
Spells-value_of : (at : ℕ) (whole fraction : List ℕ) (kind : TokenKind) → list_all is_ascii_digit whole ≡ true → list_all is_ascii_digit fraction ≡ true → (fraction ≡ [] → 0 < length whole)
    → number_token_kind at whole fraction ≡ Ok kind → Spells at (number_text whole fraction) kind
Spells-value_of at whole [] kind w f some e = Spells-whole_of at (digits_value 10 whole) whole kind (spelled.decimal (some refl, w) refl) e
Spells-value_of at whole (digit ∷ fraction) kind w f some e =
    elim (chosen (nat_lt 6 (length (digit ∷ fraction))) (Err (LiteralTooFine at)) (cond (is_i64 (pos (magnitude_of whole (digit ∷ fraction)))) (Ok (kinds.Decimal (pos (magnitude_of whole (digit ∷ fraction))))) (Err (NumberTooLarge at))) (Ok kind) e) [
      | inl fine ↦ absurd cc
      | inr coarse ↦ elim (chosen (is_i64 (pos (magnitude_of whole (digit ∷ fraction)))) (Ok (kinds.Decimal (pos (magnitude_of whole (digit ∷ fraction))))) (Err (NumberTooLarge at)) (Ok kind) coarse.1) [
        | inl fits ↦
            let same : kinds.Decimal (pos (magnitude_of whole (digit ∷ fraction))) ≡ kind = cc in
            let six : length (digit ∷ fraction) ≤ 6 = ltb-false 6 (length (digit ∷ fraction)) coarse.0 in
            subst (Spells at (number_text whole (digit ∷ fraction))) same (whole, digit ∷ fraction, record { parts = refl; whole_digits = w; fraction_digits = (omega arith, f); fine = six }, refl)
        | inr large ↦ absurd cc
      ]
    ]

-- a number that ends in front of no letter, digit or `_`
IsFront-ended : (at len : ℕ) (bytes front rest : List ℕ) (kind : TokenKind) (found : Token) → bytes ≡ front ++ rest → length front ≡ len → 0 < len → Spells at front kind → number_ended at len bytes kind ≡ Ok found → IsFront at bytes found
IsFront-ended at len bytes front rest kind found are is some spells e =
    elim (chosen (continues_word (slice_index bytes len)) (Err (BadCharacter (at + len))) (Ok (token kind at len)) (Ok found) e) [
      | inl continued ↦ absurd cc
      | inr end ↦ let same : token kind at len ≡ found = cc in subst (IsFront at bytes) same (IsFront-part at bytes front rest kind len are is some spells)
    ]

IsFront-plain : (at : ℕ) (field : Bool) (bytes : List ℕ) (found : Token) → begins_number field bytes ≡ true → plain_number at bytes ≡ Ok found → IsFront at bytes found
IsFront-plain at field bytes found begins e =
    let whole = digits_at bytes in
    let fraction = fraction_at bytes in
    let value = bind_ok (number_token_kind at whole fraction) (number_ended at (length (number_text whole fraction)) bytes) found e in
    let spells = Spells-value_of at whole fraction value.0 (list_all-take_while is_ascii_digit bytes) (list_all-digits_after_point (drop (length whole) bytes)) (number-some field bytes begins) value.1 in
    let front = number_front bytes in
    IsFront-ended at (length (number_text whole fraction)) bytes (number_text whole fraction) front.0 value.0 found front.1 refl (number_text-some whole fraction (number-some field bytes begins)) spells value.2

IsFront-prefixed : (at : ℕ) (bytes : List ℕ) (base : Base) (found : Token) → base_of bytes ≡ Some base → prefixed_number at bytes base ≡ Ok found → IsFront at bytes found
IsFront-prefixed at bytes base found prefixed e =
    let digits = base_digits base bytes in
    let is = IsPrefixed-base_of base bytes prefixed in
    let value = bind_ok (whole_token_kind at (digits_value (radix base) digits)) (number_ended at (2 + length digits) bytes) found e in
    let front = prefixed_front base bytes is in
    let spells = Spells-whole_of at (digits_value (radix base) digits) (prefix base ++ digits) value.0 (spelled.prefixed base digits refl is.some (list_all-take_while (is_digit_in base) (drop 2 bytes)) refl) value.1 in
    IsFront-ended at (2 + length digits) bytes (prefix base ++ digits) front.0 value.0 found front.1 (prefixed_len base bytes) (omega arith) spells value.2

IsFront-number_in : (at : ℕ) (field : Bool) (bytes : List ℕ) (base : Option Base) (found : Token) → begins_number field bytes ≡ true → base_of bytes ≡ base → number_in at bytes base ≡ Ok found → IsFront at bytes found
IsFront-number_in at field bytes (Some base) found begins is e = IsFront-prefixed at bytes base found is e
IsFront-number_in at field bytes None found begins is e = IsFront-plain at field bytes found begins e

IsFront-number : (at : ℕ) (field : Bool) (bytes : List ℕ) (found : Token) → begins_number field bytes ≡ true → number_at_front at bytes ≡ Ok found → IsFront at bytes found
unfolding number_at_front
IsFront-number at field bytes found begins e = IsFront-number_in at field bytes (base_of bytes) found begins refl e

-- ---- words

Spells-named : (at : ℕ) (bytes : List ℕ) (word : Option Word) → word_of bytes ≡ word → begins_word (slice_index bytes 0) ≡ true → list_all continues_word bytes ≡ true → Spells at bytes (word_or_name bytes word)
unfolding word_of
Spells-named at bytes (Some word) is begins continues =
    let passes : bytes_eq (letters word) bytes ≡ true = passes-from_find (λ word. bytes_eq (letters word) bytes) named_words word is in
    sym ((bytes_eq-Decides (letters word) bytes).0 passes)
Spells-named at bytes None is begins continues = (refl, begins, continues, is)

IsFront-word : (at : ℕ) (bytes : List ℕ) → begins_word (slice_index bytes 0) ≡ true → IsFront at bytes (word_token at (word_at bytes))
IsFront-word at bytes begins =
    IsFront-part at bytes (word_at bytes) (drop (length (word_at bytes)) bytes) (word_or_name (word_at bytes) (word_of (word_at bytes))) (length (word_at bytes)) (take_while-front continues_word bytes) refl (word_at-some bytes begins)
    (Spells-named at (word_at bytes) (word_of (word_at bytes)) refl (word_at-first bytes begins) (list_all-take_while continues_word bytes))

-- ---- texts

-- a text's end is in the bytes
record IsTextEnd (quote at : ℕ) (escaped : Bool) (bytes : List ℕ) (end : ℕ) : Type 0 where
  inside : List ℕ
  rest : List ℕ
  are : bytes ≡ inside ++ quote ∷ rest
  len : end ≡ at + length inside
  ends : text_end quote at escaped (inside ++ quote ∷ []) ≡ Some end

IsTextEnd-more : (quote at byte : ℕ) (escaped next : Bool) (bytes : List ℕ) (end : ℕ) → ((later : List ℕ) → text_end quote at escaped (byte ∷ later) ≡ text_end quote (at + 1) next later) → IsTextEnd quote (at + 1) next bytes end → IsTextEnd quote at escaped (byte ∷ bytes) end
IsTextEnd-more quote at byte escaped next bytes end proceeds is = record {
  inside = byte ∷ is.inside;
  rest = is.rest;
  are = ap (λ (later : List ℕ). byte ∷ later) is.are;
  len = omega (arith, is.len);
  ends = proceeds (is.inside ++ quote ∷ []) ∙ is.ends;
}

text_end-one : (quote at byte : ℕ) → (byte == quote) ≡ true → byte ≡ quote → text_end quote at false (quote ∷ []) ≡ Some at
text_end-one quote at byte test is = subst (λ (b : ℕ). text_end quote at false (b ∷ []) ≡ Some at) is (rw test refl)

IsTextEnd-text_end : (quote at : ℕ) (escaped : Bool) (bytes : List ℕ) (end : ℕ) → text_end quote at escaped bytes ≡ Some end → IsTextEnd quote at escaped bytes end
IsTextEnd-text_end quote at escaped [] end e = absurd cc
IsTextEnd-text_end quote at true (byte ∷ bytes) end e = IsTextEnd-more quote at byte true false bytes end (λ later. refl) (IsTextEnd-text_end quote (at + 1) false bytes end e)
IsTextEnd-text_end quote at false (byte ∷ bytes) end e =
    elim (chosen (byte == quote) (Some at) (text_end quote (at + 1) (byte == 92) bytes) (Some end) e) [
      | inl stop ↦
          let same : at ≡ end = cc in
          let is : byte ≡ quote = eqb-true byte quote stop.0 in
          record { inside = []; rest = bytes; are = ap (λ (b : ℕ). b ∷ bytes) is; len = omega arith; ends = text_end-one quote at byte stop.0 is ∙ ap (λ (n : ℕ). Some n) same }
      | inr go ↦ IsTextEnd-more quote at byte false (byte == 92) bytes end (λ later. rw go.0 refl) (IsTextEnd-text_end quote (at + 1) (byte == 92) bytes end go.1)
    ]

IsFront-quoted : (at quote len : ℕ) (later : List ℕ) (found : Token) → is_quote quote ≡ true → text_end quote 0 false later ≡ Some len → text_in at (quote ∷ later) (Some len) ≡ Ok found → IsFront at (quote ∷ later) found
IsFront-quoted at quote len later found quotes ends e =
    let is = IsTextEnd-text_end quote 0 false later len ends in
    let inside : take len later ≡ is.inside = ap (take len) is.are ∙ take_at is.inside (quote ∷ is.rest) len (omega (arith, is.len)) in
    let value = bind_ok (unescaped at false (take len later)) (λ value. Ok (token (kinds.Text value) at (len + 2))) found e in
    let same : token (kinds.Text value.0) at (len + 2) ≡ found = cc in
    let count : length is.inside ≡ len = omega (arith, is.len) in
    let whole_len : length (quote ∷ is.inside ++ quote ∷ []) ≡ len + 2 = omega (arith, length-append is.inside (quote ∷ []), count) in
    let parts : quote ∷ later ≡ (quote ∷ is.inside ++ quote ∷ []) ++ is.rest = ap (λ (later : List ℕ). quote ∷ later) (is.are ∙ sym (append_assoc is.inside (quote ∷ []) is.rest)) in
    let spells : SpellsText at (quote ∷ is.inside ++ quote ∷ []) value.0 = record { quote = quote; inside = is.inside; are = refl; quotes = quotes; ends = is.ends ∙ ap (λ (n : ℕ). Some n) (sym count); means = ap (unescaped at false) (sym inside) ∙ value.1 } in
    subst (IsFront at (quote ∷ later)) same (IsFront-part at (quote ∷ later) (quote ∷ is.inside ++ quote ∷ []) is.rest (kinds.Text value.0) (len + 2) parts whole_len (omega arith) spells)

IsFront-text_in : (at quote : ℕ) (later : List ℕ) (end : Option ℕ) (found : Token) → is_quote quote ≡ true → text_end quote 0 false later ≡ end → text_in at (quote ∷ later) end ≡ Ok found → IsFront at (quote ∷ later) found
IsFront-text_in at quote later None found quotes ends e = absurd cc
IsFront-text_in at quote later (Some len) found quotes ends e = IsFront-quoted at quote len later found quotes ends e

IsFront-text : (at : ℕ) (bytes : List ℕ) (found : Token) → is_quote (slice_index bytes 0) ≡ true → text_at_front at bytes ≡ Ok found → IsFront at bytes found
unfolding text_at_front
IsFront-text at [] found quotes e = absurd cc
IsFront-text at (quote ∷ later) found quotes e = IsFront-text_in at quote later (text_end quote 0 false later) found quotes refl e

-- ---- signs

comparison_sign-some : (comparison : Comparison) → 0 < length (comparison_sign comparison)
comparison_sign-some comparisons.Equal = omega arith
comparison_sign-some comparisons.NotEqual = omega arith
comparison_sign-some comparisons.Less = omega arith
comparison_sign-some comparisons.LessOrEqual = omega arith
comparison_sign-some comparisons.Greater = omega arith
comparison_sign-some comparisons.GreaterOrEqual = omega arith

spelling-some : (sign : Sign) → 0 < length (spelling sign)
spelling-some (signs.Comparison comparison) = comparison_sign-some comparison
spelling-some sign = omega arith

IsFront-sign_token : (at : ℕ) (bytes : List ℕ) (sign : Option Sign) (found : Token) → sign_at bytes ≡ sign → sign_token at sign ≡ Ok found → IsFront at bytes found
IsFront-sign_token at bytes None found front e = absurd cc
IsFront-sign_token at bytes (Some sign) found front e =
    let same : token (kinds.Sign sign) at (length (spelling sign)) ≡ found = cc in
    subst (IsFront at bytes) same (IsFront-part at bytes (spelling sign) (drop (length (spelling sign)) bytes) (kinds.Sign sign) (length (spelling sign)) (sign_at_front bytes sign front) refl (spelling-some sign) refl)

IsFront-sign : (at : ℕ) (bytes : List ℕ) (found : Token) → sign_of at bytes ≡ Ok found → IsFront at bytes found
IsFront-sign at bytes found e = elim (chosen (is_coalescing bytes) (Err (BadCharacter at)) (sign_token at (sign_at bytes)) (Ok found) e) [
  | inl coalescing ↦ absurd cc
  | inr sign ↦ IsFront-sign_token at bytes (sign_at bytes) found refl sign.1
]

-- ---- what is found

IsFront-token_of : (at : ℕ) (field : Bool) (bytes : List ℕ) (found : Token) → token_of at field bytes ≡ Ok found → IsFront at bytes found
unfolding token_of
IsFront-token_of at field bytes found e =
    elim (chosen (begins_word (slice_index bytes 0)) (Ok (word_token at (word_at bytes))) _ (Ok found) e) [
      | inl word ↦ let same : word_token at (word_at bytes) ≡ found = cc in subst (IsFront at bytes) same (IsFront-word at bytes word.0)
      | inr no_word ↦ elim (chosen (begins_number field bytes) (number_at_front at bytes) _ (Ok found) no_word.1) [
        | inl number ↦ IsFront-number at field bytes found number.0 number.1
        | inr no_number ↦ elim (chosen (is_quote (slice_index bytes 0)) (text_at_front at bytes) (sign_of at bytes) (Ok found) no_number.1) [
          | inl text ↦ IsFront-text at bytes found text.0 text.1
          | inr sign ↦ IsFront-sign at bytes found sign.1
        ]
      ]
    ]

-- a blank or a comment is at the front
pub record IsFrontGap (bytes : List ℕ) (len : ℕ) : Type 0 where
  pub some : 0 < len
  pub within : len ≤ length bytes
  pub begins : BeginsWithGap bytes len

comment_end-within : (at : ℕ) (star : Bool) (bytes : List ℕ) (len : ℕ) → comment_end at star bytes ≡ Some len → (at < len) × (len ≤ at + length bytes)
comment_end-within at star [] len e = absurd cc
comment_end-within at star (byte ∷ bytes) len e = elim (chosen (star && byte == 47) (Some (at + 1)) (comment_end (at + 1) (byte == 42) bytes) (Some len) e) [
  | inl stop ↦ let same : at + 1 ≡ len = cc in (omega arith, omega arith)
  | inr go ↦ let within = comment_end-within (at + 1) (byte == 42) bytes len go.1 in (omega (arith, within.0), omega (arith, within.1))
]

IsFrontGap-blank : (bytes : List ℕ) → 0 < length bytes → is_blank (slice_index bytes 0) ≡ true → IsFrontGap bytes 1
IsFrontGap-blank bytes some is = record { some = omega arith; within = omega arith; begins = spelled.blank is }

line_comment-some : (bytes : List ℕ) → begins_line_comment bytes ≡ true → 0 < length (line_comment bytes)
line_comment-some [] is = absurd cc
line_comment-some (byte ∷ bytes) is =
    let slash : byte ≡ 47 = eqb-true byte 47 (both_pass (byte == 47) (slice_index bytes 0 == 47) is).0 in
    take_while-some in_line byte bytes (rw slash refl)

IsFrontGap-line : (bytes : List ℕ) → begins_line_comment bytes ≡ true → IsFrontGap bytes (length (line_comment bytes))
IsFrontGap-line bytes is = record { some = line_comment-some bytes is; within = length-front (line_comment bytes) _ bytes (take_while-front in_line bytes); begins = spelled.line is }

block_comment-two : (bytes : List ℕ) → begins_block_comment bytes ≡ true → 2 ≤ length bytes
block_comment-two [] is = absurd cc
block_comment-two (byte ∷ []) is = let none = (both_pass (byte == 47) (slice_index [] 0 == 42) is).1 in absurd cc
block_comment-two (byte ∷ second ∷ bytes) is = omega arith

IsFrontGap-block : (at len : ℕ) (bytes : List ℕ) (end : Option ℕ) → begins_block_comment bytes ≡ true → comment_end 2 false (drop 2 bytes) ≡ end → comment_of at end ≡ Ok (Gap len) → IsFrontGap bytes len
IsFrontGap-block at len bytes None is ends e = absurd cc
IsFrontGap-block at len bytes (Some end) is ends e =
    let same : end ≡ len = cc in
    let within = comment_end-within 2 false (drop 2 bytes) end ends in
    subst (IsFrontGap bytes) same (record { some = omega (arith, within.0); within = omega (arith, within.1, length-drop 2 bytes, block_comment-two bytes is); begins = spelled.block is ends })

found-is : (at : ℕ) (field : Bool) (bytes : List ℕ) (piece : Piece) → (token_of at field bytes >>= piece_found) ≡ Ok piece → (token : Token) × (token_of at field bytes ≡ Ok token) × (piece ≡ Found token)
found-is at field bytes piece e = let inner = bind_ok (token_of at field bytes) piece_found piece e in (inner.0, inner.1, cc)

no_token_comment : (at : ℕ) (end : Option ℕ) (token : Token) → comment_of at end ≡ Ok (Found token) → ⊥
no_token_comment at None token e = cc
no_token_comment at (Some len) token e = cc

-- the token that is found at the front is there
pub IsFront-front_of : (at : ℕ) (field : Bool) (bytes : List ℕ) (token : Token) → front_of at field bytes ≡ Ok (Found token) → IsFront at bytes token
unfolding front_of
IsFront-front_of at field bytes token e =
    elim (chosen (is_blank (slice_index bytes 0)) (Ok (Gap 1)) _ (Ok (Found token)) e) [
      | inl blank ↦ absurd cc
      | inr no_blank ↦ elim (chosen (begins_line_comment bytes) (Ok (Gap (length (line_comment bytes)))) _ (Ok (Found token)) no_blank.1) [
        | inl line ↦ absurd cc
        | inr no_line ↦ elim (chosen (begins_block_comment bytes) (block_comment at bytes) (token_of at field bytes >>= piece_found) (Ok (Found token)) no_line.1) [
          | inl block ↦ absurd (no_token_comment at (comment_end 2 false (drop 2 bytes)) token block.1)
          | inr no_block ↦
              let inner = found-is at field bytes (Found token) no_block.1 in
              let same : inner.0 ≡ token = cc in
              subst (IsFront at bytes) same (IsFront-token_of at field bytes inner.0 inner.1)
        ]
      ]
    ]

-- and so does the blank or comment
pub IsFrontGap-front_of : (at len : ℕ) (field : Bool) (bytes : List ℕ) → 0 < length bytes → front_of at field bytes ≡ Ok (Gap len) → IsFrontGap bytes len
unfolding front_of
IsFrontGap-front_of at len field bytes some e =
    elim (chosen (is_blank (slice_index bytes 0)) (Ok (Gap 1)) _ (Ok (Gap len)) e) [
      | inl blank ↦ let same : 1 ≡ len = cc in subst (IsFrontGap bytes) same (IsFrontGap-blank bytes some blank.0)
      | inr no_blank ↦ elim (chosen (begins_line_comment bytes) (Ok (Gap (length (line_comment bytes)))) _ (Ok (Gap len)) no_blank.1) [
        | inl line ↦ let same : length (line_comment bytes) ≡ len = cc in subst (IsFrontGap bytes) same (IsFrontGap-line bytes line.0)
        | inr no_line ↦ elim (chosen (begins_block_comment bytes) (block_comment at bytes) (token_of at field bytes >>= piece_found) (Ok (Gap len)) no_line.1) [
          | inl block ↦ IsFrontGap-block at len bytes (comment_end 2 false (drop 2 bytes)) block.0 refl block.1
          | inr no_block ↦ let inner = found-is at field bytes (Gap len) no_block.1 in absurd cc
        ]
      ]
    ]

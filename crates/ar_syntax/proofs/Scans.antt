-- One step of the scan.
use Rattle.std.proofs.Common.{◌≡◌, ℕ, zero, suc, ◌+◌, ◌-◌, ◌≤◌, ◌<◌, Bool, false, List, [], ◌∷◌, ◌++◌, length, drop, refl, sym, ◌∙◌, ap, arith, Result, Ok, Err, length-drop, add-zero, append_assoc}
use Rattle.std.proofs.Math.ListN.{drop_of_length-le}
use Rattle.std.proofs.lemmas.List.{drop-drop, append-nil}
use Rattle.ar_value.specs.Answer.{◌>>=◌}
use Rattle.ar_syntax.specs.Token.{takes_field}
use Rattle.ar_syntax.specs.Tokens.{front_of, tokens_after, with_front}
use Rattle.ar_syntax.specs.declared.error.SyntaxError.{SyntaxError}
use Rattle.ar_syntax.specs.declared.scanner.Piece.TheVariants.{Gap, Found}
use Rattle.ar_syntax.specs.declared.token.Token.{Token}

-- tokens in front of others
abbrev pub with_tokens : List Token → Result (List Token) SyntaxError → Result (List Token) SyntaxError
with_tokens front answer = answer >>= λ tokens. Ok (front ++ tokens)

-- skipped bytes don't matter
pub tokens_after-skip : (skip at : ℕ) (field : Bool) (bytes : List ℕ) → tokens_after skip at field bytes ≡ tokens_after 0 (at + skip) field (drop skip bytes)
unfolding tokens_after
tokens_after-skip zero at field bytes = rw add-zero refl
tokens_after-skip (suc skip) at field [] = refl
tokens_after-skip (suc skip) at field (byte ∷ bytes) = tokens_after-skip skip (at + 1) field bytes ∙ ap (λ offset. tokens_after 0 offset field (drop skip bytes)) (omega arith)

-- where bytes are left, what is at their front decides
tokens_after-front : (at : ℕ) (field : Bool) (bytes : List ℕ) → 0 < length bytes
    → tokens_after 0 at field bytes ≡ (front_of at field bytes >>= λ front. with_front at front (λ skip word. tokens_after skip (at + 1) word (drop 1 bytes)))
unfolding tokens_after
tokens_after-front at field [] some = absurd (omega arith)
tokens_after-front at field (byte ∷ bytes) some = refl

module _ (text : List ℕ) (at : ℕ) (field : Bool) (below : at < length text) where
  some_left : 0 < length (drop at text)
  some_left = omega (arith, length-drop at text)

  pub tokens_after-fault : (error : SyntaxError) → front_of at field (drop at text) ≡ Err error → tokens_after 0 at field (drop at text) ≡ Err error
  tokens_after-fault error found = tokens_after-front at field (drop at text) some_left ∙ rw (found) refl

  pub tokens_after-gap : (len : ℕ) → front_of at field (drop at text) ≡ Ok (Gap len) → 0 < len → tokens_after 0 at field (drop at text) ≡ tokens_after 0 (at + len) false (drop (at + len) text)
  tokens_after-gap len found some =
      let skipped = tokens_after-skip (len - 1) (at + 1) false (drop (at + 1) text) in
      let offset : at + 1 + (len - 1) ≡ at + len = omega arith in
      tokens_after-front at field (drop at text) some_left
      ∙ rw (found, drop-drop 1 at text, skipped, drop-drop (len - 1) (at + 1) text, offset) refl

  pub tokens_after-token : (token : Token) → front_of at field (drop at text) ≡ Ok (Found token) → at < token.span.end
      → tokens_after 0 at field (drop at text) ≡ (tokens_after 0 token.span.end (takes_field token.kind) (drop token.span.end text) >>= λ tokens. Ok (token ∷ tokens))
  tokens_after-token token found longer =
      let skipped = tokens_after-skip (token.span.end - (at + 1)) (at + 1) (takes_field token.kind) (drop (at + 1) text) in
      let offset : at + 1 + (token.span.end - (at + 1)) ≡ token.span.end = omega arith in
      tokens_after-front at field (drop at text) some_left
      ∙ rw (found, drop-drop 1 at text, skipped, drop-drop (token.span.end - (at + 1)) (at + 1) text, offset) refl

with_tokens-push : (front : List Token) (token : Token) (answer : Result (List Token) SyntaxError)
    → with_tokens front (answer >>= λ tokens. Ok (token ∷ tokens)) ≡ with_tokens (front ++ token ∷ []) answer
with_tokens-push front token (Ok tokens) = ap (λ (all : List Token). Ok all) (sym (append_assoc front (token ∷ []) tokens))
with_tokens-push front token (Err error) = refl

-- a token at the front joins the tokens so far
pub with_tokens-token : (text : List ℕ) (at : ℕ) (field : Bool) (front front' : List Token) (token : Token) (word : Bool) (all : Result (List Token) SyntaxError)
    → at < length text → front_of at field (drop at text) ≡ Ok (Found token) → at < token.span.end → front' ≡ front ++ token ∷ [] → word ≡ takes_field token.kind
    → with_tokens front (tokens_after 0 at field (drop at text)) ≡ all → with_tokens front' (tokens_after 0 token.span.end word (drop token.span.end text)) ≡ all
with_tokens-token text at field front front' token word all below found longer pushed is so_far =
    rw (pushed, is) (sym (with_tokens-push front token _) ∙ ap (with_tokens front) (sym (tokens_after-token text at field below token found longer)) ∙ so_far)

-- a fault ends the scan
pub with_tokens-fault : (text : List ℕ) (at : ℕ) (field : Bool) (front : List Token) (error : SyntaxError) (all : Result (List Token) SyntaxError)
    → at < length text → front_of at field (drop at text) ≡ Err error → with_tokens front (tokens_after 0 at field (drop at text)) ≡ all → all ≡ Err error
with_tokens-fault text at field front error all below found so_far = sym so_far ∙ ap (with_tokens front) (tokens_after-fault text at field below error found)

-- a blank or a comment is passed
pub with_tokens-gap : (text : List ℕ) (at len : ℕ) (field : Bool) (front : List Token) (all : Result (List Token) SyntaxError)
    → at < length text → front_of at field (drop at text) ≡ Ok (Gap len) → 0 < len → with_tokens front (tokens_after 0 at field (drop at text)) ≡ all
    → with_tokens front (tokens_after 0 (at + len) false (drop (at + len) text)) ≡ all
with_tokens-gap text at len field front all below found some so_far = ap (with_tokens front) (sym (tokens_after-gap text at field below len found some)) ∙ so_far

-- no byte is left
pub with_tokens-end : (text : List ℕ) (at : ℕ) (field : Bool) (front : List Token) (all : Result (List Token) SyntaxError)
    → length text ≤ at → with_tokens front (tokens_after 0 at field (drop at text)) ≡ all → all ≡ Ok front
unfolding tokens_after
with_tokens-end text at field front all past so_far =
    let none : drop at text ≡ [] = drop_of_length-le text past in
    let ended = rw none at so_far in
    sym ended ∙ ap (λ (tokens : List Token). Ok tokens) (append-nil front)

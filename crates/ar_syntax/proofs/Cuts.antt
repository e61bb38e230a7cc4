-- The tokens of a text are its parts, with blanks and comments between them.
use Rattle.std.proofs.Common.{◌≡◌, ℕ, zero, suc, ◌+◌, ◌-◌, ◌≤◌, Bool, true, false, List, [], ◌∷◌, length, drop, refl, sym, ◌∙◌, ap, subst, arith, Result, Ok, Err, All, cond, ltb}
use Rattle.std.specs.Prelude.{IfOk}
use Rattle.std.specs.Global.{Vec}
use Rattle.std.specs.List.{AllByRecursion}
use Rattle.std.proofs.lemmas.List.{drop-drop}
use Rattle.std.proofs.lemmas.List.Elements.{All-from_recursion}
use Rattle.ar_value.specs.Answer.{Gives}
use Rattle.ar_value.specs.Limits.{most_text_bytes}
use Rattle.ar_syntax.specs.Token.{takes_field}
use Rattle.ar_syntax.specs.Spelling.{AreTokensInOrder, IsGapBetween, IsSpelled, is_syntax_memory}
use Rattle.ar_syntax.specs.Tokens.{front_of, is_blank, tokens_after, tokens_of, with_front}
use Rattle.ar_syntax.specs.declared.error.SyntaxError.{SyntaxError}
use Rattle.ar_syntax.specs.declared.error.SyntaxError.TheVariants.{TooLong}
use Rattle.ar_syntax.specs.declared.token.Token.{Token}
use Rattle.ar_syntax.specs.Spelling as cuts
use Rattle.ar_syntax.specs.declared.scanner.Piece.{Piece}
use Rattle.ar_syntax.specs.declared.scanner.Piece.TheVariants.{Gap, Found}
use Rattle.ar_syntax.proofs.Fronts.{bind_ok}
use Rattle.ar_syntax.proofs.Pieces.{IsFront, IsFront-front_of, IsFrontGap, IsFrontGap-front_of}

-- the tokens are those of the text between two offsets
pub record AreCut (text : List ℕ) (start end : ℕ) (tokens : List Token) : Type 0 where
  pub in_order : AreTokensInOrder start end tokens
  pub spelled : AllByRecursion (IsSpelled text) tokens
  pub apart : IsGapBetween text start tokens

module _ (text : List ℕ) where
  AreCut-at : (start start' end end' : ℕ) (tokens : List Token) → start ≡ start' → end ≡ end' → AreCut text start end tokens → AreCut text start' end' tokens
  AreCut-at start start' end end' tokens e f cut = subst (λ (n : ℕ). AreCut text start' n tokens) f (subst (λ (n : ℕ). AreCut text n end tokens) e cut)

  drop-next : (at len : ℕ) (bytes : List ℕ) → drop at text ≡ bytes → drop (at + len) text ≡ drop len bytes
  drop-next at len bytes here = sym (drop-drop len at text) ∙ ap (drop len) here

  -- a blank or a comment in front
  AreCut-gap : (at len end : ℕ) (bytes : List ℕ) (tokens : List Token) → drop at text ≡ bytes → IsFrontGap bytes len → AreCut text (at + len) end tokens → AreCut text at end tokens
  AreCut-gap at len end bytes [] here gap cut = record {
    in_order = omega (arith, cut.in_order);
    spelled = tt;
    apart = rw here (cuts.more gap.begins (rw (drop-next at len bytes here) at cut.apart));
  }
  AreCut-gap at len end bytes (token ∷ tokens) here gap cut = record {
    in_order = (omega (arith, cut.in_order.0), cut.in_order.1, cut.in_order.2);
    spelled = cut.spelled;
    apart = (rw here (cuts.more gap.begins (rw (drop-next at len bytes here) at cut.apart.0)), cut.apart.1);
  }

  drop-later : (at byte : ℕ) (bytes : List ℕ) → drop at text ≡ byte ∷ bytes → drop (at + 1) text ≡ bytes
  drop-later at byte bytes here = drop-next at 1 (byte ∷ bytes) here

  -- a token in front
  AreCut-token : (at end : ℕ) (bytes : List ℕ) (token : Token) (tokens : List Token) → drop at text ≡ bytes → IsFront at bytes token → AreCut text token.span.end end tokens → AreCut text at end (token ∷ tokens)
  AreCut-token at end bytes token tokens here front cut =
      let start = front.start in
      let spelled : IsSpelled text token = rw (start, here) front.spells in
      record {
        in_order = (omega arith, omega (arith, front.some), cut.in_order);
        spelled = (spelled, cut.spelled);
        apart = (rw start cuts.none, cut.apart);
      }

  AreCut-from_tokens_after : (skip at : ℕ) (field : Bool) (bytes : List ℕ) (tokens : List Token) → drop at text ≡ bytes → skip ≤ length bytes → tokens_after skip at field bytes ≡ Ok tokens
      → AreCut text (at + skip) (at + length bytes) tokens
  unfolding tokens_after
  AreCut-from_tokens_after skip at field [] tokens here enough e =
      let none : [] ≡ tokens = cc in
      let offset : at + skip ≡ at = omega arith in
      subst (AreCut text (at + skip) (at + 0)) none (record { in_order = omega arith; spelled = tt; apart = rw (offset, here) cuts.none })
  AreCut-from_tokens_after (suc skip) at field (byte ∷ bytes) tokens here enough e =
      AreCut-at _ _ _ _ tokens (omega arith) (omega arith) (AreCut-from_tokens_after skip (at + 1) field bytes tokens (drop-later at byte bytes here) (omega arith) e)
  AreCut-from_tokens_after zero at field (byte ∷ bytes) tokens here enough e =
      let found = bind_ok (front_of at field (byte ∷ bytes)) (λ front. with_front at front (λ skip word. tokens_after skip (at + 1) word bytes)) tokens e in
      AreCut-from_front at field byte bytes found.0 tokens here found.1 found.2 (λ skip word others. AreCut-from_tokens_after skip (at + 1) word bytes others (drop-later at byte bytes here))
    where
      AreCut-from_front : (at : ℕ) (field : Bool) (byte : ℕ) (bytes : List ℕ) (front : Piece) (tokens : List Token) → drop at text ≡ byte ∷ bytes → front_of at field (byte ∷ bytes) ≡ Ok front
          → with_front at front (λ skip word. tokens_after skip (at + 1) word bytes) ≡ Ok tokens
          → ((skip : ℕ) (word : Bool) (others : List Token) → skip ≤ length bytes → tokens_after skip (at + 1) word bytes ≡ Ok others → AreCut text (at + 1 + skip) (at + 1 + length bytes) others)
          → AreCut text (at + zero) (at + length (byte ∷ bytes)) tokens
      AreCut-from_front at field byte bytes (Gap len) tokens here found e later =
          let gap = IsFrontGap-front_of at len field (byte ∷ bytes) (omega arith) found in
          let rest = later (len - 1) false tokens (omega (arith, gap.within)) e in
          AreCut-at at _ _ _ tokens (omega arith) refl (AreCut-gap at len _ (byte ∷ bytes) tokens here gap (AreCut-at _ (at + len) _ (at + length (byte ∷ bytes)) tokens (omega (arith, gap.some)) (omega arith) rest))
      AreCut-from_front at field byte bytes (Found token) tokens here found e later =
          let front = IsFront-front_of at field (byte ∷ bytes) token found in
          let inner = bind_ok (tokens_after (token.span.end - (at + 1)) (at + 1) (takes_field token.kind) bytes) (λ others. Ok (token ∷ others)) tokens e in
          let same : token ∷ inner.0 ≡ tokens = cc in
          let rest = later (token.span.end - (at + 1)) (takes_field token.kind) inner.0 (omega (arith, front.within)) inner.1 in
          let cut = AreCut-token at (at + length (byte ∷ bytes)) (byte ∷ bytes) token inner.0 here front (AreCut-at _ token.span.end _ (at + length (byte ∷ bytes)) inner.0 (omega (arith, front.some)) (omega arith) rest) in
          subst (AreCut text (at + zero) (at + length (byte ∷ bytes))) same (AreCut-at at _ _ _ (token ∷ inner.0) (omega arith) refl cut)

AreCut-chosen : (text : List ℕ) (long : Bool) (tokens : List Token) → cond long (Err TooLong) (tokens_after 0 0 false text) ≡ Ok tokens → AreCut text 0 (length text) tokens
AreCut-chosen text true tokens e = absurd cc
AreCut-chosen text false tokens e = AreCut-at text _ _ _ _ tokens refl (omega arith) (AreCut-from_tokens_after text 0 0 false text tokens refl (omega arith) e)

-- the tokens of a text are all of it but blanks
pub AreCut-from_tokens_of : (text : List ℕ) (tokens : List Token) → tokens_of text ≡ Ok tokens → AreCut text 0 (length text) tokens
unfolding tokens_of
AreCut-from_tokens_of text tokens e = AreCut-chosen text (ltb most_text_bytes (length text)) tokens e

abbrev items_of : Vec Token → List Token
items_of tokens = tokens.items

-- what `tokens` returns by its exact clause
module _ (text : List ℕ) where
  pub in_order : (answer : Result (Vec Token) SyntaxError) → Gives is_syntax_memory items_of answer (tokens_of text) → IfOk answer (λ tokens. AreTokensInOrder 0 (length text) tokens.items)
  in_order (Ok tokens) gives = (AreCut-from_tokens_of text tokens.items gives).in_order
  in_order (Err error) gives = tt

  pub spelled : (answer : Result (Vec Token) SyntaxError) → Gives is_syntax_memory items_of answer (tokens_of text) → IfOk answer (λ tokens. All (IsSpelled text) tokens.items)
  spelled (Ok tokens) gives = All-from_recursion (IsSpelled text) tokens.items (AreCut-from_tokens_of text tokens.items gives).spelled
  spelled (Err error) gives = tt

  pub gap_between : (answer : Result (Vec Token) SyntaxError) → Gives is_syntax_memory items_of answer (tokens_of text) → IfOk answer (λ tokens. IsGapBetween text 0 tokens.items)
  gap_between (Ok tokens) gives = (AreCut-from_tokens_of text tokens.items gives).apart
  gap_between (Err error) gives = tt

-- Where texts and comments end, and what texts represent.
use Rattle.std.proofs.Common.{◌≡◌, ℕ, ◌+◌, ◌≤◌, ◌<◌, Bool, true, false, cond, List, [], ◌∷◌, ◌++◌, length, drop, get_or, refl, sym, ◌∙◌, ap, append_assoc, add-one, drop-cons, ◌==◌, Option, Some, None, Result, Ok, Err}
use Rattle.std.specs.Prelude.{◌&&◌}
use Rattle.std.proofs.Math.ListN.{drop_of_length-le}
use Rattle.std.proofs.lemmas.List.{append-nil}
use Rattle.ar_value.specs.Answer.{◌>>=◌}
use Rattle.ar_syntax.specs.Token.{escape_of, text_end, unescaped, with_byte}
use Rattle.ar_syntax.specs.Tokens.{comment_end}
use Rattle.ar_syntax.specs.declared.error.SyntaxError.{SyntaxError}
use Rattle.ar_syntax.specs.declared.error.SyntaxError.TheVariants.{BadEscape}

-- ---- one byte more

next_byte : (bytes : List ℕ) (i : ℕ) → i < length bytes → drop i bytes ≡ get_or bytes i 0 ∷ drop (i + 1) bytes
next_byte bytes i below = rw (add-one, drop-cons bytes i 0) refl

-- the byte after a backslash ends no text
pub text_end-escaped : (quote at i : ℕ) (bytes : List ℕ) (end : Option ℕ) → i < length bytes → text_end quote at true (drop i bytes) ≡ end → text_end quote (at + 1) false (drop (i + 1) bytes) ≡ end
text_end-escaped quote at i bytes end below e = rw (next_byte bytes i below) at e

text_end-stop : (quote at byte : ℕ) (bytes : List ℕ) (end : Option ℕ) (is : Bool) → (byte == quote) ≡ is → is ≡ true → text_end quote at false (byte ∷ bytes) ≡ end → end ≡ Some at
text_end-stop quote at byte bytes end true test is e = sym (rw test at e)
text_end-stop quote at byte bytes end false test is e = absurd cc

pub text_end-found : (quote at i : ℕ) (bytes : List ℕ) (end : Option ℕ) → i < length bytes → (get_or bytes i 0 == quote) ≡ true → text_end quote at false (drop i bytes) ≡ end → end ≡ Some at
text_end-found quote at i bytes end below is e = text_end-stop quote at (get_or bytes i 0) (drop (i + 1) bytes) end _ refl is (rw (next_byte bytes i below) at e)

text_end-go : (quote at byte : ℕ) (bytes : List ℕ) (end : Option ℕ) (is : Bool) → (byte == quote) ≡ is → is ≡ false → text_end quote at false (byte ∷ bytes) ≡ end → text_end quote (at + 1) (byte == 92) bytes ≡ end
text_end-go quote at byte bytes end true test is e = absurd cc
text_end-go quote at byte bytes end false test is e = rw test at e

pub text_end-next : (quote at i : ℕ) (bytes : List ℕ) (end : Option ℕ) → i < length bytes → (get_or bytes i 0 == quote) ≡ false → text_end quote at false (drop i bytes) ≡ end → text_end quote (at + 1) (get_or bytes i 0 == 92) (drop (i + 1) bytes) ≡ end
text_end-next quote at i bytes end below is e = text_end-go quote at (get_or bytes i 0) (drop (i + 1) bytes) end _ refl is (rw (next_byte bytes i below) at e)

pub text_end-none : (quote at i : ℕ) (escaped : Bool) (bytes : List ℕ) (end : Option ℕ) → length bytes ≤ i → text_end quote at escaped (drop i bytes) ≡ end → end ≡ None
text_end-none quote at i escaped bytes end past e = let none : drop i bytes ≡ [] = drop_of_length-le bytes past in sym (rw none at e)

pub ruleset text_ends = (text_end-escaped, text_end-found, text_end-next, text_end-none)

-- ---- comments

comment_end-chosen : (at byte : ℕ) (star : Bool) (bytes : List ℕ) (end : Option ℕ) (is : Bool) → (star && byte == 47) ≡ is → comment_end at star (byte ∷ bytes) ≡ end → cond is (Some (at + 1)) (comment_end (at + 1) (byte == 42) bytes) ≡ end
comment_end-chosen at byte star bytes end is test e = rw test at e

both : (a b : Bool) → a ≡ true → b ≡ true → (a && b) ≡ true
both a b h k = rw (h, k) refl

pub comment_end-found : (at i : ℕ) (star : Bool) (bytes : List ℕ) (end : Option ℕ) → i < length bytes → star ≡ true → (get_or bytes i 0 == 47) ≡ true → comment_end at star (drop i bytes) ≡ end → end ≡ Some (at + 1)
comment_end-found at i star bytes end below is slash e = sym (comment_end-chosen at (get_or bytes i 0) star (drop (i + 1) bytes) end true (both star _ is slash) (rw (next_byte bytes i below) at e))

pub comment_end-next : (at i : ℕ) (star : Bool) (bytes : List ℕ) (end : Option ℕ) → i < length bytes → (star && (get_or bytes i 0 == 47)) ≡ false → comment_end at star (drop i bytes) ≡ end → comment_end (at + 1) (get_or bytes i 0 == 42) (drop (i + 1) bytes) ≡ end
comment_end-next at i star bytes end below is e = comment_end-chosen at (get_or bytes i 0) star (drop (i + 1) bytes) end false is (rw (next_byte bytes i below) at e)

pub comment_end-none : (at i : ℕ) (star : Bool) (bytes : List ℕ) (end : Option ℕ) → length bytes ≤ i → comment_end at star (drop i bytes) ≡ end → end ≡ None
comment_end-none at i star bytes end past e = let none : drop i bytes ≡ [] = drop_of_length-le bytes past in sym (rw none at e)

pub ruleset comment_ends = (comment_end-found, comment_end-next, comment_end-none)

-- ---- what texts represent

-- bytes in front of those that others represent
abbrev pub with_bytes : List ℕ → Result (List ℕ) SyntaxError → Result (List ℕ) SyntaxError
with_bytes front answer = answer >>= λ bytes. Ok (front ++ bytes)

with_bytes-push : (front : List ℕ) (byte : ℕ) (answer : Result (List ℕ) SyntaxError) → with_bytes front (with_byte byte answer) ≡ with_bytes (front ++ byte ∷ []) answer
with_bytes-push front byte (Ok bytes) = ap (λ (all : List ℕ). Ok all) (sym (append_assoc front (byte ∷ []) bytes))
with_bytes-push front byte (Err error) = refl

module _ (front bytes : List ℕ) (offset i : ℕ) (all : Result (List ℕ) SyntaxError) (below : i < length bytes) where
  -- a backslash takes the next byte
  pub unescaped-slash : (get_or bytes i 0 == 92) ≡ true → with_bytes front (unescaped offset false (drop i bytes)) ≡ all → with_bytes front (unescaped (offset + 1) true (drop (i + 1) bytes)) ≡ all
  unescaped-slash is e = rw is at (rw (next_byte bytes i below) at e)

  -- another byte represents itself
  pub unescaped-plain : (front' : List ℕ) → (get_or bytes i 0 == 92) ≡ false → front' ≡ front ++ get_or bytes i 0 ∷ [] → with_bytes front (unescaped offset false (drop i bytes)) ≡ all → with_bytes front' (unescaped (offset + 1) false (drop (i + 1) bytes)) ≡ all
  unescaped-plain front' is pushed e = rw pushed (sym (with_bytes-push front (get_or bytes i 0) _) ∙ rw is at (rw (next_byte bytes i below) at e))

  -- an escape represents its byte
  pub unescaped-escape : (front' : List ℕ) (byte : ℕ) → Some byte ≡ escape_of (get_or bytes i 0) → front' ≡ front ++ byte ∷ [] → with_bytes front (unescaped offset true (drop i bytes)) ≡ all → with_bytes front' (unescaped (offset + 1) false (drop (i + 1) bytes)) ≡ all
  unescaped-escape front' byte is pushed e = rw pushed (sym (with_bytes-push front byte _) ∙ rw (← is) at (rw (next_byte bytes i below) at e))

  -- an unknown escape is refused at its backslash
  pub unescaped-bad : None ≡ escape_of (get_or bytes i 0) → with_bytes front (unescaped offset true (drop i bytes)) ≡ all → all ≡ Err (BadEscape offset)
  unescaped-bad is e = sym (rw (← is) at (rw (next_byte bytes i below) at e))

pub unescaped-end : (front bytes : List ℕ) (offset i : ℕ) (escaped : Bool) (all : Result (List ℕ) SyntaxError) → length bytes ≤ i → with_bytes front (unescaped offset escaped (drop i bytes)) ≡ all → all ≡ Ok front
unescaped-end front bytes offset i escaped all past e =
    let none : drop i bytes ≡ [] = drop_of_length-le bytes past in
    sym (rw none at e) ∙ ap (λ (all : List ℕ). Ok all) (append-nil front)

pub ruleset text_values = (unescaped-slash, unescaped-plain, unescaped-escape, unescaped-bad, unescaped-end)

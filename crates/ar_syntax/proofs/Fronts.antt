-- What is at the front of bytes.
use Rattle.std.proofs.Common.{◌≡◌, ℕ, ◌+◌, ◌≤◌, ◌<◌, Bool, true, false, cond, List, [], ◌∷◌, ◌++◌, length, take, drop, refl, sym, ◌∙◌, ap, arith, append_assoc, nat_eq, ◌==◌, Option, Some, None, Result, Ok, Err, length-append, take-append-drop, ◌⊎◌, inl, inr}
use Rattle.std.specs.Prelude.{find, take_while, ◌&&◌, ◌||◌, not, slice_index}
use Rattle.std.specs.List.{starts_with, list_all}
use Rattle.std.proofs.lemmas.List.Folds.{length-prefix_len}
use Rattle.std.proofs.lemmas.List.Sums.{take_while-cons}
use Rattle.std.proofs.lemmas.Slice.Eq.{starts_is}
use Rattle.std.proofs.lemmas.Bool.Decides.{Decides-eqb}
use Rattle.std.proofs.lemmas.Bool.{eqb-true}
use Rattle.std.proofs.lemmas.List.{take_at}
use Rattle.std.specs.Char.{is_ascii_digit}
use Rattle.std.specs.Int.{is_in_range}
use Rattle.ar_value.specs.Answer.{◌>>=◌}
use Rattle.ar_syntax.specs.Spelling.{prefix}
use Rattle.ar_syntax.specs.Token.{begins_word, continues_word, is_digit_in, word_or_name, spelling}
use Rattle.ar_syntax.specs.Tokens.{all_signs, base_digits, base_named, base_of, begins_number, digits_at, digits_after_point, piece_found, fraction_at, number_text, sign_at, with_digit, word_at}
use Rattle.ar_syntax.specs.declared.error.SyntaxError.{SyntaxError}
use Rattle.ar_syntax.specs.declared.token.Base.{Base}
use Rattle.ar_syntax.specs.declared.token.Base.TheVariants.{Binary, Octal, Hexadecimal}
use Rattle.ar_syntax.specs.declared.token.Sign.{Sign}

-- the front part of a list, cut at its own length
pub take-length-take_while : (p : ℕ → Bool) (xs : List ℕ) → take (length (take_while p xs)) xs ≡ take_while p xs
take-length-take_while p xs = rw length-prefix_len refl

-- each element of the front part passes
list_all-chosen : (p : ℕ → Bool) (x : ℕ) (xs : List ℕ) (passes : Bool) → p x ≡ passes → list_all p xs ≡ true → list_all p (cond passes (x ∷ xs) []) ≡ true
list_all-chosen p x xs true e h = rw e h
list_all-chosen p x xs false e h = refl

pub list_all-take_while : (p : ℕ → Bool) (xs : List ℕ) → list_all p (take_while p xs) ≡ true
list_all-take_while p [] = refl
list_all-take_while p (x ∷ xs) = rw (take_while-cons p x xs) (list_all-chosen p x (take_while p xs) (p x) refl (list_all-take_while p xs))

pub ruleset front_parts = (take-length-take_while, list_all-take_while)

-- what a search finds passes
find-chosen : {A : Type 0} (p : A → Bool) (x y : A) (rest : Option A) (passes : Bool) → p x ≡ passes → cond passes (Some x) rest ≡ Some y → (p y ≡ true) ⊎ (rest ≡ Some y)
find-chosen p x y rest true e found = let same : x ≡ y = cc in inl (rw same at e)
find-chosen p x y rest false e found = inr found

pub passes-from_find : {A : Type 0} (p : A → Bool) (xs : List A) (y : A) → find p xs ≡ Some y → p y ≡ true
passes-from_find p [] y found = absurd cc
passes-from_find p (x ∷ xs) y found = elim (find-chosen p x y (find p xs) (p x) refl found) [ inl passes ↦ passes | inr further ↦ passes-from_find p xs y further ]

-- the sign at the front is the front
pub sign_at_front : (bytes : List ℕ) (sign : Sign) → sign_at bytes ≡ Some sign → bytes ≡ spelling sign ++ drop (length (spelling sign)) bytes
unfolding sign_at
sign_at_front bytes sign found = (starts_is Decides-eqb bytes (spelling sign) _ refl).0 (passes-from_find (λ sign. starts_with nat_eq bytes (spelling sign)) all_signs sign found)

pub sign_in_range : (bytes : List ℕ) (sign : Sign) → sign_at bytes ≡ Some sign → length (spelling sign) ≤ length bytes
sign_in_range bytes sign found = omega (arith, ap length (sign_at_front bytes sign found), length-append (spelling sign) (drop (length (spelling sign)) bytes))

-- ---- answers

-- a step that did not fail
pub bind_ok : {A B : Type 0} (r : Result A SyntaxError) (f : A → Result B SyntaxError) (y : B) → (r >>= f) ≡ Ok y → (x : A) × (r ≡ Ok x) × (f x ≡ Ok y)
bind_ok (Ok x) f y e = (x, refl, e)
bind_ok (Err d) f y e = absurd cc

-- which way a test went
pub chosen : {A : Type 0} (b : Bool) (x y z : A) → cond b x y ≡ z → ((b ≡ true) × (x ≡ z)) ⊎ ((b ≡ false) × (y ≡ z))
chosen true x y z e = inl (refl, e)
chosen false x y z e = inr (refl, e)

-- ---- the front of a list

-- the front part, and the rest after it
pub take_while-front : (p : ℕ → Bool) (xs : List ℕ) → xs ≡ take_while p xs ++ drop (length (take_while p xs)) xs
take_while-front p xs = sym (take-append-drop (length (take_while p xs)) xs) ∙ ap (λ (front : List ℕ). front ++ drop (length (take_while p xs)) xs) (take-length-take_while p xs)

pub length-front : (front rest bytes : List ℕ) → bytes ≡ front ++ rest → length front ≤ length bytes
length-front front rest bytes e = omega (arith, ap length e, length-append front rest)

-- ---- words

or_more : (a b c d : Bool) → ((a || b) || c) ≡ true → (((d || a) || b) || c) ≡ true
or_more a b c true h = refl
or_more a b c false h = h

begins-continues : (byte : ℕ) → begins_word byte ≡ true → continues_word byte ≡ true
begins-continues byte h = or_more (is_in_range 65 90 byte) (is_in_range 97 122 byte) (byte == 95) (is_in_range 48 57 byte) h

pub take_while-some : (p : ℕ → Bool) (x : ℕ) (xs : List ℕ) → p x ≡ true → 0 < length (take_while p (x ∷ xs))
take_while-some p x xs h = rw (take_while-cons p x xs, h) (omega arith)

pub word_at-some : (bytes : List ℕ) → begins_word (slice_index bytes 0) ≡ true → 0 < length (word_at bytes)
word_at-some [] h = absurd cc
word_at-some (byte ∷ bytes) h = take_while-some continues_word byte bytes (begins-continues byte h)

pub word_at-first : (bytes : List ℕ) → begins_word (slice_index bytes 0) ≡ true → begins_word (slice_index (word_at bytes) 0) ≡ true
word_at-first [] h = h
word_at-first (byte ∷ bytes) h = rw (take_while-cons continues_word byte bytes, begins-continues byte h) h

-- ---- numbers

-- digits with what may be a point after them begin with a number's text
point_front-chosen : (whole bytes : List ℕ) (byte : ℕ) (is_point : Bool) (fraction : List ℕ) → (byte == 46) ≡ is_point → fraction ≡ cond is_point (digits_at bytes) []
    → (rest : List ℕ) × (whole ++ byte ∷ bytes ≡ number_text whole fraction ++ rest)
point_front-chosen whole bytes byte is_point [] test e = (byte ∷ bytes, refl)
point_front-chosen whole bytes byte false (digit ∷ fraction) test e = absurd cc
point_front-chosen whole bytes byte true (digit ∷ fraction) test e =
    let point : byte ≡ 46 = eqb-true byte 46 test in
    let later : bytes ≡ (digit ∷ fraction) ++ drop (length (digits_at bytes)) bytes = take_while-front is_ascii_digit bytes ∙ ap (λ (front : List ℕ). front ++ drop (length (digits_at bytes)) bytes) (sym e) in
    (drop (length (digits_at bytes)) bytes, ap (λ (b : ℕ). whole ++ b ∷ bytes) point ∙ ap (λ (bs : List ℕ). whole ++ 46 ∷ bs) later ∙ sym (append_assoc whole (46 ∷ digit ∷ fraction) (drop (length (digits_at bytes)) bytes)))

point_front : (whole later : List ℕ) → (rest : List ℕ) × (whole ++ later ≡ number_text whole (digits_after_point later) ++ rest)
point_front whole [] = ([], refl)
point_front whole (byte ∷ bytes) = point_front-chosen whole bytes byte (byte == 46) (digits_after_point (byte ∷ bytes)) refl refl

-- bytes begin with the text of the number at their front
pub number_front : (bytes : List ℕ) → (rest : List ℕ) × (bytes ≡ number_text (digits_at bytes) (fraction_at bytes) ++ rest)
number_front bytes =
    let front = point_front (digits_at bytes) (drop (length (digits_at bytes)) bytes) in
    (front.0, take_while-front is_ascii_digit bytes ∙ front.1)

pub number_in_range : (bytes : List ℕ) → length (number_text (digits_at bytes) (fraction_at bytes)) ≤ length bytes
number_in_range bytes = let front = number_front bytes in length-front (number_text (digits_at bytes) (fraction_at bytes)) front.0 bytes front.1

number_taken : (bytes : List ℕ) → take (length (number_text (digits_at bytes) (fraction_at bytes))) bytes ≡ number_text (digits_at bytes) (fraction_at bytes)
number_taken bytes =
    let front = number_front bytes in
    ap (take (length (number_text (digits_at bytes) (fraction_at bytes)))) front.1 ∙ take_at (number_text (digits_at bytes) (fraction_at bytes)) front.0 _ refl

pub list_all-digits_after_point : (later : List ℕ) → list_all is_ascii_digit (digits_after_point later) ≡ true
list_all-digits_after_point later = elim (chosen (slice_index later 0 == 46) (digits_at (drop 1 later)) [] (digits_after_point later) refl) [
  | inl point ↦ rw (← point.1) (list_all-take_while is_ascii_digit (drop 1 later))
  | inr none ↦ rw (← none.1) refl
]

-- a number that begins here has digits before its point or after it
number-some-chosen : (field : Bool) (byte : ℕ) (bytes : List ℕ) (digit point next : Bool) → is_ascii_digit byte ≡ digit → (byte == 46) ≡ point → is_ascii_digit (slice_index bytes 0) ≡ next
    → (digit || (point && next && not field)) ≡ true → fraction_at (byte ∷ bytes) ≡ [] → 0 < length (digits_at (byte ∷ bytes))
number-some-chosen field byte bytes true point next d p n begins none = take_while-some is_ascii_digit byte bytes d
number-some-chosen field byte bytes false false next d p n begins none = absurd cc
number-some-chosen field byte bytes false true false d p n begins none = absurd cc
number-some-chosen field byte [] false true true d p n begins none = absurd cc
number-some-chosen field byte (second ∷ bytes) false true true d p n begins none =
    let no_digits : digits_at (byte ∷ second ∷ bytes) ≡ [] = rw (take_while-cons is_ascii_digit byte (second ∷ bytes), d) refl in
    let fraction : fraction_at (byte ∷ second ∷ bytes) ≡ digits_at (second ∷ bytes) = rw (no_digits, p) refl in
    let some = take_while-some is_ascii_digit second bytes n in
    absurd (omega (arith, some, ap length (sym fraction ∙ none)))

pub number-some : (field : Bool) (bytes : List ℕ) → begins_number field bytes ≡ true → fraction_at bytes ≡ [] → 0 < length (digits_at bytes)
number-some field [] begins none = absurd cc
number-some field (byte ∷ bytes) begins none = number-some-chosen field byte bytes (is_ascii_digit byte) (byte == 46) (is_ascii_digit (slice_index bytes 0)) refl refl refl begins none

pub number_text-some : (whole fraction : List ℕ) → (fraction ≡ [] → 0 < length whole) → 0 < length (number_text whole fraction)
number_text-some whole [] some = some refl
number_text-some whole (digit ∷ fraction) some = omega (arith, length-append whole (46 ∷ digit ∷ fraction))

-- ---- numbers with a prefix

-- both tests pass
pub both_pass : (a b : Bool) → (a && b) ≡ true → (a ≡ true) × (b ≡ true)
both_pass true true h = (refl, refl)
both_pass true false h = absurd cc
both_pass false b h = absurd cc

base_named-chosen : (byte : ℕ) (base : Base) → base_named byte ≡ Some base → 48 ∷ byte ∷ [] ≡ prefix base
base_named-chosen byte base e = elim (chosen (byte == 98) (Some Binary) _ (Some base) e) [
  | inl binary ↦ let letter : byte ≡ 98 = eqb-true byte 98 binary.0 in let same : Binary ≡ base = cc in rw (letter, ← same) refl
  | inr no_binary ↦ elim (chosen (byte == 111) (Some Octal) _ (Some base) no_binary.1) [
    | inl octal ↦ let letter : byte ≡ 111 = eqb-true byte 111 octal.0 in let same : Octal ≡ base = cc in rw (letter, ← same) refl
    | inr no_octal ↦ elim (chosen (byte == 120) (Some Hexadecimal) None (Some base) no_octal.1) [
      | inl hexadecimal ↦ let letter : byte ≡ 120 = eqb-true byte 120 hexadecimal.0 in let same : Hexadecimal ≡ base = cc in rw (letter, ← same) refl
      | inr none ↦ absurd cc
    ]
  ]
]

with_digit-some : (byte : ℕ) (named : Option Base) (base : Base) → with_digit byte named ≡ Some base → (named ≡ Some base) × (is_digit_in base byte ≡ true)
with_digit-some byte None base e = absurd cc
with_digit-some byte (Some named) base e = elim (chosen (is_digit_in named byte) (Some named) None (Some base) e) [
  | inl digit ↦ let same : named ≡ base = cc in (ap (λ (b : Base). Some b) same, rw same at digit.0)
  | inr none ↦ absurd cc
]

no_digit_there : (base : Base) → is_digit_in base 0 ≡ false
no_digit_there Binary = refl
no_digit_there Octal = refl
no_digit_there Hexadecimal = refl

-- a prefix comes before a digit of its base
pub record IsPrefixed (base : Base) (bytes : List ℕ) : Type 0 where
  pub front : bytes ≡ prefix base ++ drop 2 bytes
  pub some : 0 < length (base_digits base bytes)

prefixed-parts : (base : Base) (first second byte : ℕ) (bytes : List ℕ) → first ≡ 48 → 48 ∷ second ∷ [] ≡ prefix base → is_digit_in base byte ≡ true → IsPrefixed base (first ∷ second ∷ byte ∷ bytes)
prefixed-parts base first second byte bytes zero_is named digit = record {
  front = rw (← named, zero_is) refl;
  some = take_while-some (is_digit_in base) byte bytes digit;
}

pub IsPrefixed-base_of : (base : Base) (bytes : List ℕ) → base_of bytes ≡ Some base → IsPrefixed base bytes
unfolding base_of
IsPrefixed-base_of base bytes e = elim (chosen (slice_index bytes 0 == 48) (with_digit (slice_index bytes 2) (base_named (slice_index bytes 1))) None (Some base) e) [
  | inl zero_there ↦
      let parts = with_digit-some (slice_index bytes 2) (base_named (slice_index bytes 1)) base zero_there.1 in
      IsPrefixed-at base bytes (eqb-true (slice_index bytes 0) 48 zero_there.0) (base_named-chosen (slice_index bytes 1) base parts.0) parts.1
  | inr none ↦ absurd cc
]
  where
    IsPrefixed-at : (base : Base) (bytes : List ℕ) → slice_index bytes 0 ≡ 48 → 48 ∷ slice_index bytes 1 ∷ [] ≡ prefix base → is_digit_in base (slice_index bytes 2) ≡ true → IsPrefixed base bytes
    IsPrefixed-at base [] zero_is named digit = absurd cc
    IsPrefixed-at base (first ∷ []) zero_is named digit = absurd (cc (no_digit_there base))
    IsPrefixed-at base (first ∷ second ∷ []) zero_is named digit = absurd (cc (no_digit_there base))
    IsPrefixed-at base (first ∷ second ∷ byte ∷ bytes) zero_is named digit = prefixed-parts base first second byte bytes zero_is named digit

prefix-len : (base : Base) → length (prefix base) ≡ 2
prefix-len Binary = refl
prefix-len Octal = refl
prefix-len Hexadecimal = refl

-- a prefix and the digits after it
pub prefixed_front : (base : Base) (bytes : List ℕ) → IsPrefixed base bytes → (rest : List ℕ) × (bytes ≡ (prefix base ++ base_digits base bytes) ++ rest)
prefixed_front base bytes is =
    let digits = take_while-front (is_digit_in base) (drop 2 bytes) in
    (drop (length (base_digits base bytes)) (drop 2 bytes), is.front ∙ ap (λ (later : List ℕ). prefix base ++ later) digits ∙ sym (append_assoc (prefix base) (base_digits base bytes) (drop (length (base_digits base bytes)) (drop 2 bytes))))

pub prefixed_len : (base : Base) (bytes : List ℕ) → length (prefix base ++ base_digits base bytes) ≡ 2 + length (base_digits base bytes)
prefixed_len base bytes = omega (arith, length-append (prefix base) (base_digits base bytes), prefix-len base)

pub prefixed_in_range : (base : Base) (bytes : List ℕ) → base_of bytes ≡ Some base → 2 + length (base_digits base bytes) ≤ length bytes
prefixed_in_range base bytes e =
    let front = prefixed_front base bytes (IsPrefixed-base_of base bytes e) in
    omega (arith, length-front (prefix base ++ base_digits base bytes) front.0 bytes front.1, prefixed_len base bytes)

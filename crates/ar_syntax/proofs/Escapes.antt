-- What a text in UTF-8 represents is in UTF-8.
use Rattle.std.proofs.Common.{◌≡◌, ℕ, zero, suc, ◌+◌, ◌≤◌, ◌<◌, Bool, true, false, List, [], ◌∷◌, ◌++◌, length, get_or, refl, sym, ◌∙◌, ap, subst, arith, ◌==◌, Option, Some, None, Ok, inl, inr}
use Rattle.std.specs.Prelude.{◌||◌}
use Rattle.std.specs.Str.{IsAscii, IsUtf8}
use lib.Utf8.{encode, encodes, scalar, scalars}
use Rattle.std.proofs.lemmas.Bool.{and_from, and_parts, cases_lt, eqb-true, ne_eqb, or_cases}
use Rattle.std.proofs.lemmas.List.{append-nil}
use Rattle.std.proofs.lemmas.Str.{IsUtf8-append, IsUtf8-from_ascii, IsUtf8-nil, encode_ascii, inside_one, length-encode, len_utf8_bounds}
use Rattle.ar_syntax.specs.Token.{escape_of, unescaped, with_byte, with_escape}
use Rattle.ar_syntax.proofs.Fronts.{bind_ok, chosen}

-- bytes of characters beyond ASCII
abbrev AreHigh : List ℕ → Type 0
AreHigh bytes = (i : ℕ) → i < length bytes → 128 ≤ get_or bytes i 0

not_that : (byte other : ℕ) → 128 ≤ byte → other < 128 → (byte == other) ≡ false
not_that byte other high low = ne_eqb byte other (λ same. omega (arith, same))

high_first : (byte : ℕ) (bytes : List ℕ) → AreHigh (byte ∷ bytes) → 128 ≤ byte
high_first byte bytes high = high 0 (omega arith)

high_others : (byte : ℕ) (bytes : List ℕ) → AreHigh (byte ∷ bytes) → AreHigh bytes
high_others byte bytes high i below = high (suc i) (omega arith)

-- they represent themselves
high_stay : (before : ℕ) (front rest value : List ℕ) → AreHigh front → unescaped before false (front ++ rest) ≡ Ok value
    → (offset : ℕ) × (later : List ℕ) × (unescaped offset false rest ≡ Ok later) × (value ≡ front ++ later)
high_stay before [] rest value high e = (before, value, e, refl)
high_stay before (byte ∷ front) rest value high e =
    let plain : with_byte byte (unescaped (before + 1) false (front ++ rest)) ≡ Ok value = rw (not_that byte 92 (high_first byte front high) (omega arith)) at e in
    let found = bind_ok (unescaped (before + 1) false (front ++ rest)) (λ bytes. Ok (byte ∷ bytes)) value plain in
    let inner = high_stay (before + 1) front rest found.0 (high_others byte front high) found.1 in
    let whole : byte ∷ found.0 ≡ value = cc in
    (inner.0, inner.1, inner.2, sym whole ∙ ap (λ (b : List ℕ). byte ∷ b) inner.3)

-- and none of them may be escaped
no_high_escape : (byte : ℕ) → 128 ≤ byte → escape_of byte ≡ None
no_high_escape byte high = rw (not_that byte 92 high (omega arith), not_that byte 34 high (omega arith), not_that byte 39 high (omega arith), not_that byte 110 high (omega arith), not_that byte 114 high (omega arith), not_that byte 116 high (omega arith)) refl

high_escaped : (before : ℕ) (front rest value : List ℕ) → 0 < length front → AreHigh front → unescaped before true (front ++ rest) ≡ Ok value → ⊥
high_escaped before [] rest value some high e = omega arith
high_escaped before (byte ∷ front) rest value some high e =
    let refused : with_escape before None (unescaped (before + 1) false (front ++ rest)) ≡ Ok value = rw (no_high_escape byte (high_first byte front high)) at e in
    cc

escape-small : (byte is_there : ℕ) → escape_of byte ≡ Some is_there → is_there < 128
escape-small byte is_there e = elim (chosen (byte == 92 || byte == 34 || byte == 39) (Some byte) _ (Some is_there) e) [
  | inl itself ↦ let same : byte ≡ is_there = cc in elim (or_cases _ (byte == 39) itself.0) [
    | inr single ↦ omega (arith, eqb-true byte 39 single)
    | inl others ↦ elim (or_cases (byte == 92) (byte == 34) others) [
      | inl slash ↦ omega (arith, eqb-true byte 92 slash)
      | inr double ↦ omega (arith, eqb-true byte 34 double)
    ]
  ]
  | inr no_sign ↦ elim (chosen (byte == 110) (Some 10) _ (Some is_there) no_sign.1) [
    | inl line ↦ let same : 10 ≡ is_there = cc in omega arith
    | inr no_line ↦ elim (chosen (byte == 114) (Some 13) _ (Some is_there) no_line.1) [
      | inl return ↦ let same : 13 ≡ is_there = cc in omega arith
      | inr no_return ↦ elim (chosen (byte == 116) (Some 9) None (Some is_there) no_return.1) [
        | inl tab ↦ let same : 9 ≡ is_there = cc in omega arith
        | inr none ↦ absurd cc
      ]
    ]
  ]
]

-- a character beyond ASCII has no ASCII byte
high_encode : (c : ℕ) → 128 ≤ c → AreHigh (encode c)
high_encode c high i below = elim (cases_lt (get_or (encode c) i 0) 128) [
  | inl small ↦ absurd (omega (arith, inside_one c [] (encode c) i (sym (append-nil (encode c))) below small))
  | inr large ↦ large
]

IsUtf8-byte : (byte : ℕ) (bytes : List ℕ) → byte < 128 → IsUtf8 bytes → IsUtf8 (byte ∷ bytes)
IsUtf8-byte byte bytes small utf8 = IsUtf8-append (byte ∷ []) bytes (IsUtf8-from_ascii (byte ∷ []) one) utf8
  where
    one : IsAscii (byte ∷ [])
    one zero = small
    one (suc i) = omega arith

-- what a character with text after it represents, where the text after it represents UTF-8
module _ (bytes : List ℕ) (later-utf8 : (offset : ℕ) (escaped : Bool) (value : List ℕ) → unescaped offset escaped bytes ≡ Ok value → IsUtf8 value) where
  with_byte-utf8 : (offset byte : ℕ) (value : List ℕ) → byte < 128 → with_byte byte (unescaped offset false bytes) ≡ Ok value → IsUtf8 value
  with_byte-utf8 offset byte value small e =
      let found = bind_ok (unescaped offset false bytes) (λ inner. Ok (byte ∷ inner)) value e in
      let whole : byte ∷ found.0 ≡ value = cc in
      subst IsUtf8 whole (IsUtf8-byte byte found.0 small (later-utf8 offset false found.0 found.1))

  with_escape-utf8 : (before byte : ℕ) (is_there : Option ℕ) (value : List ℕ) → escape_of byte ≡ is_there → with_escape before is_there (unescaped (before + 1) false bytes) ≡ Ok value → IsUtf8 value
  with_escape-utf8 before byte None value is e = absurd cc
  with_escape-utf8 before byte (Some is_there) value is e = with_byte-utf8 (before + 1) is_there value (escape-small byte is_there is) e

  small_utf8 : (before : ℕ) (escaped : Bool) (byte : ℕ) (value : List ℕ) → byte < 128 → unescaped before escaped (byte ∷ bytes) ≡ Ok value → IsUtf8 value
  small_utf8 before true byte value small e = with_escape-utf8 before byte (escape_of byte) value refl e
  small_utf8 before false byte value small e = elim (chosen (byte == 92) (unescaped (before + 1) true bytes) (with_byte byte (unescaped (before + 1) false bytes)) (Ok value) e) [
    | inl slash ↦ later-utf8 (before + 1) true value slash.1
    | inr plain ↦ with_byte-utf8 (before + 1) byte value small plain.1
  ]

  high_utf8 : (before : ℕ) (escaped : Bool) (front value : List ℕ) → 0 < length front → AreHigh front → IsUtf8 front → unescaped before escaped (front ++ bytes) ≡ Ok value → IsUtf8 value
  high_utf8 before true front value some high utf8 e = absurd (high_escaped before front bytes value some high e)
  high_utf8 before false front value some high utf8 e =
      let found = high_stay before front bytes value high e in
      subst IsUtf8 (sym found.3) (IsUtf8-append front found.1 utf8 (later-utf8 found.0 false found.1 found.2))

encode-some : (c : ℕ) → 0 < length (encode c)
encode-some c = omega (arith, length-encode c, (len_utf8_bounds c).0)

scalar-utf8 : (c : ℕ) (cs : List ℕ) → scalars (c ∷ cs) ≡ true → IsUtf8 (encode c)
scalar-utf8 c cs all = (c ∷ [], (and_from (scalar c) true (and_parts (scalar c) (scalars cs) all).0 refl, append-nil (encode c)))

value_utf8 : (before : ℕ) (escaped : Bool) (cs value : List ℕ) → scalars cs ≡ true → unescaped before escaped (encodes cs) ≡ Ok value → IsUtf8 value
value_utf8 before escaped [] value all e = let same : [] ≡ value = cc in subst IsUtf8 same IsUtf8-nil
value_utf8 before escaped (c ∷ cs) value all e =
    let later = λ (offset : ℕ) (escaped : Bool) (value : List ℕ). value_utf8 offset escaped cs value (and_parts (scalar c) (scalars cs) all).1 in
    elim (cases_lt c 128) [
      | inl small ↦ small_utf8 (encodes cs) later before escaped c value small (rw (encode_ascii c small) at e)
      | inr high ↦ high_utf8 (encodes cs) later before escaped (encode c) value (encode-some c) (high_encode c high) (scalar-utf8 c cs all) e
    ]

pub unescaped_utf8 : (before : ℕ) (bytes value : List ℕ) → IsUtf8 bytes → unescaped before false bytes ≡ Ok value → IsUtf8 value
unescaped_utf8 before bytes value utf8 e = value_utf8 before false utf8.0 value utf8.1.0 (subst (λ (b : List ℕ). unescaped before false b ≡ Ok value) (sym utf8.1.1) e)

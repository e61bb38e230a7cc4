-- Bytes of tokens, one after another, and offsets in a text.
use Rattle.std.proofs.Common.{◌≡◌, ◌<◌, ◌≤◌, ℕ, suc, ◌+◌, Bool, true, false, List, ◌∷◌, length, drop, refl, sym, ◌∙◌, ap, add-one, drop-cons, arith}
use Rattle.std.specs.Prelude.{slice_index_or, take, Some, None}
use Rattle.std.specs.List.{prefix_len}
use Rattle.std.specs.Str.{IsCharBoundary}
use Rattle.std.proofs.lemmas.Bool.Decides.{nat_tests}
use Rattle.std.proofs.Math.ListN.{drop_of_length-le}
use Rattle.ar_quote.specs.Tokens.{halves_at, is_offset, is_plain, literal_length}

left_at : {A : Type 0} (xs : List A) (offset : ℕ) (x : A) → offset < length xs → x ≡ slice_index_or xs offset x → drop offset xs ≡ x ∷ drop (suc offset) xs
left_at xs offset x within is = drop-cons xs offset x within ∙ ap (λ first. first ∷ drop (suc offset) xs) (sym is)

-- ---- runs

pub next_byte : (test : ℕ → Bool) (bytes : List ℕ) (offset byte total : ℕ) → offset < length bytes → byte ≡ slice_index_or bytes offset byte → test byte ≡ true
    → offset + prefix_len test (drop offset bytes) ≡ total → (offset + 1) + prefix_len test (drop (offset + 1) bytes) ≡ total
next_byte test bytes offset byte total within is passes so_far =
    let left = left_at bytes offset byte within is in
    rw (add-one offset) (let before : offset + prefix_len test (byte ∷ drop (suc offset) bytes) ≡ total = ap (λ rest. offset + prefix_len test rest) (sym left) ∙ so_far in
    let one : prefix_len test (byte ∷ drop (suc offset) bytes) ≡ 1 + prefix_len test (drop (suc offset) bytes) = rw passes refl in
    omega arith)

pub other_byte : (test : ℕ → Bool) (bytes : List ℕ) (offset byte total : ℕ) → offset < length bytes → byte ≡ slice_index_or bytes offset byte → test byte ≡ false
    → offset + prefix_len test (drop offset bytes) ≡ total → offset ≡ total
other_byte test bytes offset byte total within is fails so_far =
    let left = left_at bytes offset byte within is in
    let none : prefix_len test (byte ∷ drop (suc offset) bytes) ≡ 0 = rw fails refl in
    let same : prefix_len test (drop offset bytes) ≡ prefix_len test (byte ∷ drop (suc offset) bytes) = ap (prefix_len test) left in
    omega arith

pub no_byte : (test : ℕ → Bool) (bytes : List ℕ) (offset total : ℕ) → offset ≤ length bytes → length bytes ≤ offset
    → offset + prefix_len test (drop offset bytes) ≡ total → length bytes ≡ total
no_byte test bytes offset total within past so_far =
    let none : prefix_len test (drop offset bytes) ≡ 0 = ap (prefix_len test) (drop_of_length-le bytes past) in
    omega arith

-- ---- text literals

pub next_letter : (quote : ℕ) (escaped : Bool) (bytes : List ℕ) (offset byte total : ℕ) → offset < length bytes → byte ≡ slice_index_or bytes offset byte → is_plain escaped byte quote ≡ false
    → offset + literal_length quote escaped (drop offset bytes) ≡ total → (offset + 1) + literal_length quote (is_plain escaped byte 92) (drop (offset + 1) bytes) ≡ total
unfolding literal_length
next_letter quote escaped bytes offset byte total within is proceeds so_far =
    let left = left_at bytes offset byte within is in
    rw (add-one offset) (let before : offset + literal_length quote escaped (byte ∷ drop (suc offset) bytes) ≡ total = ap (λ rest. offset + literal_length quote escaped rest) (sym left) ∙ so_far in
    let one : literal_length quote escaped (byte ∷ drop (suc offset) bytes) ≡ suc (literal_length quote (is_plain escaped byte 92) (drop (suc offset) bytes)) = rw proceeds refl in
    omega arith)

pub last_letter : (quote : ℕ) (escaped : Bool) (bytes : List ℕ) (offset byte total : ℕ) → offset < length bytes → byte ≡ slice_index_or bytes offset byte → is_plain escaped byte quote ≡ true
    → offset + literal_length quote escaped (drop offset bytes) ≡ total → offset + 1 ≡ total
unfolding literal_length
last_letter quote escaped bytes offset byte total within is ends so_far =
    let left = left_at bytes offset byte within is in
    let last : literal_length quote escaped (byte ∷ drop (suc offset) bytes) ≡ 1 = rw ends refl in
    let same : literal_length quote escaped (drop offset bytes) ≡ literal_length quote escaped (byte ∷ drop (suc offset) bytes) = ap (literal_length quote escaped) left in
    omega arith

pub no_letter : (quote : ℕ) (escaped : Bool) (bytes : List ℕ) (offset total : ℕ) → offset ≤ length bytes → length bytes ≤ offset
    → offset + literal_length quote escaped (drop offset bytes) ≡ total → length bytes ≡ total
unfolding literal_length
no_letter quote escaped bytes offset total within past so_far =
    let none : literal_length quote escaped (drop offset bytes) ≡ 0 = ap (literal_length quote escaped) (drop_of_length-le bytes past) in
    omega arith

-- ---- offsets

is_boundary : (offset : ℕ) (text : List ℕ) → is_offset offset text ≡ true → IsCharBoundary text offset
is_boundary offset text is = grind (arith, nat_tests)

no_boundary : (offset : ℕ) (text : List ℕ) → is_offset offset text ≡ false → ¬ (IsCharBoundary text offset)
no_boundary offset text is boundary = grind (arith, nat_tests)

pub cuts : (offset : ℕ) (text : List ℕ) → IsCharBoundary text offset → halves_at offset text ≡ Some (take offset text, drop offset text)
cuts offset text boundary = by (is_offset offset text) refl where
  by : (test : Bool) → is_offset offset text ≡ test → halves_at offset text ≡ Some (take offset text, drop offset text)
  by true is = rw is refl
  by false is = absurd (no_boundary offset text is boundary)

pub cuts_not : (offset : ℕ) (text : List ℕ) → ¬ (IsCharBoundary text offset) → halves_at offset text ≡ None
cuts_not offset text inside = by (is_offset offset text) refl where
  by : (test : Bool) → is_offset offset text ≡ test → halves_at offset text ≡ None
  by true is = absurd (inside (is_boundary offset text is))
  by false is = rw is refl

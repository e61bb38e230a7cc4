-- Where texts differ.
use Rattle.std.proofs.Common.{arith, ◌≡◌, ◌<◌, ◌≤◌, ℕ, zero, suc, ◌+◌, Bool, true, false, List, [], ◌∷◌, drop, length, refl, ap, sym, ◌∙◌, subst, true≢false}
use Rattle.std.specs.Prelude.{◌==◌, ◌&&◌, ◌-◌, ◌++◌, None, codes, min, nat_lt, not}
use Rattle.std.proofs.lemmas.List.{length-drop}
use Rattle.std.proofs.Math.ListN.{get_or}
use Rattle.std.specs.List.{common_prefix_len, prefix_len}
use Rattle.std.specs.Str.{IsCharBoundary, IsUtf8, bytes_eq, chars}
use Rattle.std.proofs.lemmas.Bool.Decides.{nat_tests}
use Rattle.std.proofs.lemmas.List.Sums.{common_prefix_len-drop_no, common_prefix_len-drop_yes, common_prefix_len-le, prefix_len-le-length, prefix_len_passes, prefix_len_stops}
use Rattle.std.proofs.lemmas.Slice.Eq.{bytes_eq-Decides}
use Rattle.std.proofs.lemmas.Str.{encodes-chars, length-le-encodes}
use Rattle.ar_value.specs.Value.{Value, Items, bool, decimal, list, nil, object, text, whole}
use Rattle.ar_quote.specs.Shown.{quoted}
use Rattle.ar_quote.specs.Tokens.{is_inner, is_offset}
use Rattle.ar_quote.proofs.Ended.{names_end}
use Rattle.ar_show.specs.Values.{shown_text, shown_value}
use Rattle.ar_show.specs.Words.{left_out}
use Rattle.ar_apart.specs.Apart.{character_length, character_start, first_difference, look_alike, operands_apart}

lt_of : (m n : ℕ) → nat_lt n m ≡ true → n < m
lt_of m n e = grind (arith, nat_tests)

le_of : (m n : ℕ) → nat_lt n m ≡ false → m ≤ n
le_of m n e = grind (arith, nat_tests)

-- ---- the first difference

abbrev pub left_to : (left right : List ℕ) → ℕ → ℕ
left_to left right index = index + common_prefix_len (λ byte other. byte == other) (drop index left) (drop index right)

pub same_byte : (left right : List ℕ) (index : ℕ) → index < length left → index < length right → (get_or left index 0 == get_or right index 0) ≡ true
    → left_to left right index ≡ first_difference left right → left_to left right (index + 1) ≡ first_difference left right
same_byte left right index within within_too is so_far =
    omega (arith, so_far, common_prefix_len-drop_yes (λ byte other. byte == other) left right index 0 0 within within_too is)

pub other_byte : (left right : List ℕ) (index : ℕ) → index < length left → index < length right → (get_or left index 0 == get_or right index 0) ≡ false
    → left_to left right index ≡ first_difference left right → index ≡ first_difference left right
other_byte left right index within within_too is so_far =
    omega (arith, so_far, common_prefix_len-drop_no (λ byte other. byte == other) left right index 0 0 within within_too is)

-- one of the texts ends
pub no_byte : (left right : List ℕ) (index both : ℕ) → both ≡ min (length left) (length right) → both ≤ index → index ≤ both
    → left_to left right index ≡ first_difference left right → both ≡ first_difference left right
no_byte left right index both is past within so_far =
    let of_rest = common_prefix_len-le (λ byte other. byte == other) (drop index left) (drop index right) in
    let rest = length-drop index left in
    let other_rest = length-drop index right in
    omega (arith, is, past, within, so_far, of_rest.0, of_rest.1, rest, other_rest)

-- ---- characters

is_boundary : (offset : ℕ) (letters : List ℕ) → is_offset offset letters ≡ true → IsCharBoundary letters offset
is_boundary offset letters is = grind (arith, nat_tests)

no_boundary : (offset : ℕ) (letters : List ℕ) → is_offset offset letters ≡ false → ¬ (IsCharBoundary letters offset)
no_boundary offset letters is boundary = grind (arith, nat_tests)

-- where the next byte begins a character, and where it doesn't
next_starts : (letters : List ℕ) (index start : ℕ) → is_offset (suc index) letters ≡ true → start ≤ suc index → ((i : ℕ) → start < i → i ≤ suc index → ¬ (IsCharBoundary letters i))
    → start ≡ suc index
next_starts letters index start is within nearest = by (nat_lt start (suc index)) refl where
  by : (less : Bool) → nat_lt start (suc index) ≡ less → start ≡ suc index
  by true e = absurd (nearest (suc index) (lt_of (suc index) start e) (omega arith) (is_boundary (suc index) letters is))
  by false e = omega (arith, within, le_of (suc index) start e)

none_starts : (letters : List ℕ) (index start : ℕ) → is_offset (suc index) letters ≡ false → start ≤ suc index → IsCharBoundary letters start → start ≤ index
none_starts letters index start is within boundary = by (nat_lt index start) refl where
  by : (more : Bool) → nat_lt index start ≡ more → start ≤ index
  by true e =
      let here : start ≡ suc index = omega (arith, within, lt_of start index e) in
      absurd (no_boundary (suc index) letters is (subst (λ n. IsCharBoundary letters n) here boundary))
  by false e = le_of start index e

start_where : (letters : List ℕ) (index start : ℕ) (test : Bool) → is_offset (suc index) letters ≡ test → (test ≡ true → start ≡ suc index) → (test ≡ false → start ≡ character_start letters index)
    → start ≡ character_start letters (suc index)
start_where letters index start true is here before = rw is (here refl)
start_where letters index start false is here before = rw is (before refl)

pub start_is : (letters : List ℕ) (index start : ℕ) → start ≤ index → IsCharBoundary letters start → ((i : ℕ) → start < i → i ≤ index → ¬ (IsCharBoundary letters i))
    → start ≡ character_start letters index
start_is letters zero start within boundary nearest = omega arith
start_is letters (suc index) start within boundary nearest =
    start_where letters index start (is_offset (suc index) letters) refl (λ is. next_starts letters index start is within nearest)
    (λ is. start_is letters index start (none_starts letters index start is within boundary) boundary (λ i after before. nearest i after (omega (arith, before))))

inner_is_none : (first : ℕ) (rest : List ℕ) (k : ℕ) → k < length rest → is_inner (get_or rest k 0) ≡ true → ¬ (IsCharBoundary (first ∷ rest) (suc k))
inner_is_none first rest k within is boundary = grind (arith, nat_tests)

other_is_one : (first : ℕ) (rest : List ℕ) (k : ℕ) → k < length rest → is_inner (get_or rest k 0) ≡ false → IsCharBoundary (first ∷ rest) (suc k)
other_is_one first rest k within is = grind (arith, nat_tests)

end_is_one : (first : ℕ) (rest : List ℕ) (k : ℕ) → k ≡ length rest → IsCharBoundary (first ∷ rest) (suc k)
end_is_one first rest k at = grind (arith, nat_tests)

module _ (first : ℕ) (rest : List ℕ) (size : ℕ) (some : 1 ≤ size) (boundary : IsCharBoundary (first ∷ rest) size)
    (nearest : (i : ℕ) → 1 ≤ i → i < size → ¬ (IsCharBoundary (first ∷ rest) i)) where
  abbrev inner : ℕ
  inner = prefix_len is_inner rest

  within : inner ≤ length rest
  within = prefix_len-le-length is_inner rest

  next_is_one : (less : Bool) → nat_lt inner (length rest) ≡ less → IsCharBoundary (first ∷ rest) (suc inner)
  next_is_one true e = other_is_one first rest inner (lt_of (length rest) inner e) (prefix_len_stops is_inner rest 0 (lt_of (length rest) inner e))
  next_is_one false e = end_is_one first rest inner (omega (arith, within, le_of (length rest) inner e))

  not_longer : (longer : Bool) → nat_lt (suc inner) size ≡ longer → size ≤ suc inner
  not_longer true e = absurd (nearest (suc inner) (omega arith) (lt_of size (suc inner) e) (next_is_one (nat_lt inner (length rest)) refl))
  not_longer false e = le_of size (suc inner) e

  not_shorter : (n : ℕ) → size ≡ suc n → (shorter : Bool) → nat_lt n inner ≡ shorter → inner ≤ n
  not_shorter n is true e =
      let less = lt_of inner n e in
      absurd (inner_is_none first rest n (omega (arith, less, within)) (prefix_len_passes is_inner rest n 0 less) (subst (λ size. IsCharBoundary (first ∷ rest) size) is boundary))
  not_shorter n is false e = le_of inner n e

  pub first_length : size ≡ suc inner
  first_length = by size refl where
    by : (n : ℕ) → size ≡ n → size ≡ suc inner
    by zero is = absurd (omega (arith, some, is))
    by (suc n) is = omega (arith, is, not_shorter n is (nat_lt n inner) refl, not_longer (nat_lt (suc inner) size) refl)

pub length_is : (letters : List ℕ) (size : ℕ) → (1 ≤ length letters → 1 ≤ size) → IsCharBoundary letters size → ((i : ℕ) → 1 ≤ i → i < size → ¬ (IsCharBoundary letters i))
    → (length letters < 1 → size ≡ length letters) → size ≡ character_length letters
length_is [] size bound boundary nearest beyond = beyond (omega arith)
length_is (first ∷ rest) size bound boundary nearest beyond = first_length first rest size (bound (omega arith)) boundary nearest

-- ---- texts that are shown alike

and_false : (b : Bool) → (b && false) ≡ false
and_false true = refl
and_false false = refl

pub equal_arent : (left right : List ℕ) → bytes_eq left right ≡ true → false ≡ look_alike left right
equal_arent left right is = rw is refl

pub differ_are : (left right : List ℕ) (shown other : List ℕ) → bytes_eq left right ≡ false → shown ≡ shown_value (text left) → other ≡ shown_value (text right)
    → bytes_eq shown other ≡ look_alike left right
differ_are left right shown other is shown_is other_is = rw (is, shown_is, other_is) refl

few_characters : (letters : List ℕ) → IsUtf8 letters → length letters ≤ 64 → length (chars letters) ≤ 64
few_characters letters is short = omega (arith, short, length-le-encodes (chars letters), ap length (encodes-chars letters is))

abbrev others_of : List ℕ → List ℕ
others_of letters = left_out (codes "character") (length (chars letters) - 64)

shown_is : (letters : List ℕ) → shown_value (text letters) ≡ quoted letters ++ others_of letters
unfolding shown_value shown_text
shown_is letters = refl

pub short_arent : (left right : List ℕ) → IsUtf8 left → IsUtf8 right → length left ≤ 64 → length right ≤ 64 → bytes_eq left right ≡ false → false ≡ look_alike left right
short_arent left right is other_is short other_short differ = by (bytes_eq (shown_value (text left)) (shown_value (text right))) refl where
  by : (alike : Bool) → bytes_eq (shown_value (text left)) (shown_value (text right)) ≡ alike → false ≡ look_alike left right
  by true e =
      let shown_same : shown_value (text left) ≡ shown_value (text right) = (bytes_eq-Decides (shown_value (text left)) (shown_value (text right))).0 e in
      let same : left ≡ right = (names_end left right (others_of left) (others_of right) is other_is (few_characters left is short) (few_characters right other_is other_short)
      (sym (shown_is left) ∙ shown_same ∙ shown_is right)).0 in
      absurd (true≢false (sym ((bytes_eq-Decides left right).1 same) ∙ differ))
  by false e = rw e (sym (and_false (not (bytes_eq left right))))

-- a list is no text
pub list_isnt_alike : (left : Value) (items : Items) → None ≡ operands_apart left (list items)
list_isnt_alike nil items = refl
list_isnt_alike (bool boolean) items = refl
list_isnt_alike (whole number) items = refl
list_isnt_alike (decimal millionths) items = refl
list_isnt_alike (text letters) items = refl
list_isnt_alike (list others) items = refl
list_isnt_alike (object of) items = refl

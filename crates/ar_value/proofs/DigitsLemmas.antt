-- What digits spell, digit by digit and in two parts.
use Rattle.std.proofs.Common.{◌≡◌, ℕ, zero, suc, ◌+◌, ◌-◌, ◌*◌, ◌/◌, ◌^◌, ◌<◌, ◌≤◌, Bool, true, false, List, [], ◌∷◌, ◌++◌, length, take, drop, get_or, refl, sym, ◌∙◌, ap, arith, lit<, min, length-drop, drop-cons, add-one}
use Rattle.std.specs.Prelude.{◌&&◌}
use Rattle.std.proofs.Common.{inl, inr}
use Rattle.std.proofs.Math.Nat.{pow-suc, le-mul_of_pos_right, eq-zero-or-pos, mul-div_cancel, mul-div-mul_right, div-eq_of_lt, pow-le-pow_right}
use Rattle.std.proofs.Math.ListN.{drop_of_length-le}
use Rattle.std.proofs.lemmas.Nat.{pow-add, div-mul-add}
use Rattle.std.proofs.lemmas.List.{append-nil, take-append-drop, take-append-le}
use Rattle.std.proofs.Math.Seq.{take-append-add, take-length}
use Rattle.std.proofs.lemmas.List.Folds.{list_all-append}
use Rattle.std.proofs.lemmas.Int.Digits.{digits_value-lt}
use Rattle.std.specs.List.{list_all}
use Rattle.std.specs.Char.{is_ascii_digit, digit_value}
use Rattle.std.proofs.lemmas.Bool.Decides.{nat_tests}
use Rattle.std.proofs.lemmas.List.Sums.{AllPass-from_list_all}
use Rattle.std.specs.Str.Parse.{digits_value, digits_value_after, AllDigits}
use Rattle.ar_value.specs.Digits.{magnitude_of}
use Rattle.ar_value.specs.Private.Scaled.{scaled_magnitude}

-- further digits don't make the number smaller
pub before-le-digits_value_after : (n : ℕ) (ds : List ℕ) → n ≤ digits_value_after 10 n ds
before-le-digits_value_after n [] = omega arith
before-le-digits_value_after n (c ∷ cs) = omega (arith, before-le-digits_value_after (n * 10 + digit_value c) cs)

-- the value of a digit
pub digit_value-ascii : (c : ℕ) → is_ascii_digit c ≡ true → digit_value c ≡ c - 48
digit_value-ascii c h = grind (arith, nat_tests)

-- a digit is below ten
below_ten : (c : ℕ) → is_ascii_digit c ≡ true → digit_value c < 10
below_ten c h = grind (arith, nat_tests)

-- the value of a digit among digits
pub digit_value-get_or : (ds : List ℕ) (i : ℕ) → list_all is_ascii_digit ds ≡ true → i < length ds → digit_value (get_or ds i 0) ≡ get_or ds i 0 - 48
digit_value-get_or ds i h below = digit_value-ascii (get_or ds i 0) (AllPass-from_list_all is_ascii_digit ds h i 0 below)

-- one digit is read
pub digits_value_after-drop : (n : ℕ) (ds : List ℕ) (i : ℕ) → i < length ds
    → digits_value_after 10 n (drop i ds) ≡ digits_value_after 10 (n * 10 + digit_value (get_or ds i 0)) (drop (i + 1) ds)
digits_value_after-drop n ds i h = rw (add-one, drop-cons ds i 0) refl

-- what a number and the digits left spell bounds the number with the next digit
pub next-le-total : (n total : ℕ) (ds : List ℕ) (i : ℕ) → digits_value_after 10 n (drop i ds) ≡ total → list_all is_ascii_digit ds ≡ true → i < length ds
    → n * 10 + (get_or ds i 0 - 48) ≤ total
next-le-total n total ds i spelled digits below =
    omega (arith, digits_value_after-drop n ds i below, digit_value-get_or ds i digits below, before-le-digits_value_after (n * 10 + digit_value (get_or ds i 0)) (drop (i + 1) ds))

-- no digit is left
pub all_spelled : (n total : ℕ) (ds : List ℕ) (i : ℕ) → digits_value_after 10 n (drop i ds) ≡ total → length ds ≤ i → n ≡ total
all_spelled n total ds i spelled past = let none : drop i ds ≡ [] = drop_of_length-le ds past in rw none at spelled

-- both tests pass
both_pass : (a b : Bool) → (a && b) ≡ true → (a ≡ true) × (b ≡ true)
both_pass true true h = (refl, refl)
both_pass true false h = (refl, h)
both_pass false b h = (h, absurd (cc))

-- what the digit reader's library lemmas call digits
pub AllDigits-from_list_all : (ds : List ℕ) → list_all is_ascii_digit ds ≡ true → AllDigits 10 ds
AllDigits-from_list_all [] h = tt
AllDigits-from_list_all (c ∷ cs) h =
    let parts = both_pass (is_ascii_digit c) (list_all is_ascii_digit cs) h in
    (below_ten c parts.0, AllDigits-from_list_all cs parts.1)

weighed : (n d p q x first alone : ℕ) → first ≡ (n * 10 + d) * p + x → alone ≡ (0 * 10 + d) * p + x → q ≡ p * 10 → first ≡ n * q + alone
weighed n d p q x first alone e f g = rw (e, f, g) (omega arith)

-- the digits before weigh by the number of those after them
pub digits_value_after-split : (n : ℕ) (ds : List ℕ) → digits_value_after 10 n ds ≡ n * 10 ^ length ds + digits_value 10 ds
digits_value_after-split n [] = omega arith
digits_value_after-split n (c ∷ cs) =
    let first : digits_value_after 10 (n * 10 + digit_value c) cs ≡ (n * 10 + digit_value c) * 10 ^ length cs + digits_value 10 cs = digits_value_after-split (n * 10 + digit_value c) cs in
    let alone : digits_value_after 10 (0 * 10 + digit_value c) cs ≡ (0 * 10 + digit_value c) * 10 ^ length cs + digits_value 10 cs = digits_value_after-split (0 * 10 + digit_value c) cs in
    weighed n (digit_value c) (10 ^ length cs) (10 ^ suc (length cs)) (digits_value 10 cs) _ _ first alone (pow-suc 10 (length cs))

-- two runs of digits, one after the other
pub digits_value_after-append : (n : ℕ) (xs ys : List ℕ) → digits_value_after 10 n (xs ++ ys) ≡ digits_value_after 10 (digits_value_after 10 n xs) ys
digits_value_after-append n [] ys = refl
digits_value_after-append n (c ∷ cs) ys = digits_value_after-append (n * 10 + digit_value c) cs ys

ten_pow_pos : (n : ℕ) → 0 < 10 ^ n
ten_pow_pos zero = lit< tt
ten_pow_pos (suc n) = omega (arith, ten_pow_pos n, pow-suc 10 n)

list_all-drop : (ds : List ℕ) (m : ℕ) → list_all is_ascii_digit ds ≡ true → list_all is_ascii_digit (drop m ds) ≡ true
list_all-drop ds m h =
    let split : (list_all is_ascii_digit (take m ds) && list_all is_ascii_digit (drop m ds)) ≡ true = sym (list_all-append is_ascii_digit (take m ds) (drop m ds)) ∙ ap (list_all is_ascii_digit) (take-append-drop m ds) ∙ h in
    (both_pass (list_all is_ascii_digit (take m ds)) (list_all is_ascii_digit (drop m ds)) split).1

-- a scale that isn't below the digits after the point lengthens the number
pub lengthened : (n raised lowered : ℕ) → lowered ≤ raised → n * 10 ^ raised / 10 ^ lowered ≡ n * 10 ^ (raised - lowered)
lengthened n raised lowered short =
    let parts : raised ≡ (raised - lowered) + lowered = omega arith in
    let power : 10 ^ raised ≡ 10 ^ (raised - lowered) * 10 ^ lowered = ap (λ e. 10 ^ e) parts ∙ pow-add 10 (raised - lowered) lowered in
    let weighed_up : n * 10 ^ raised ≡ (n * 10 ^ (raised - lowered)) * 10 ^ lowered = ap (λ w. n * w) power ∙ omega arith in
    ap (λ w. w / 10 ^ lowered) weighed_up ∙ mul-div_cancel (n * 10 ^ (raised - lowered)) (ten_pow_pos lowered)

shortened : (n raised lowered : ℕ) → raised ≤ lowered → n * 10 ^ raised / 10 ^ lowered ≡ n / 10 ^ (lowered - raised)
shortened n raised lowered short =
    let parts : lowered ≡ (lowered - raised) + raised = omega arith in
    let power : 10 ^ lowered ≡ 10 ^ (lowered - raised) * 10 ^ raised = ap (λ e. 10 ^ e) parts ∙ pow-add 10 (lowered - raised) raised in
    ap (λ w. n * 10 ^ raised / w) power ∙ mul-div-mul_right n (10 ^ (lowered - raised)) (ten_pow_pos raised)

below_power : (digits : List ℕ) (count later : ℕ) → count ≡ 0 → length digits ≤ later → list_all is_ascii_digit digits ≡ true → digits_value 10 digits < 10 ^ later
below_power digits count later none past are_digits =
    omega (arith, digits_value-lt 10 digits (AllDigits-from_list_all digits are_digits), pow-le-pow_right {n = 10} (lit< tt) past)

-- of digits, those before the last ones count
front_digits : (digits : List ℕ) (count later : ℕ) → list_all is_ascii_digit digits ≡ true → count ≡ length digits - later
    → digits_value 10 digits / 10 ^ later ≡ digits_value 10 (take count digits)
front_digits digits count later are_digits is_count =
    let rest : list_all is_ascii_digit (drop count digits) ≡ true = list_all-drop digits count are_digits in
    let small : digits_value 10 (drop count digits) < 10 ^ length (drop count digits) = digits_value-lt 10 (drop count digits) (AllDigits-from_list_all (drop count digits) rest) in
    let all : digits_value 10 digits ≡ digits_value 10 (take count digits) * 10 ^ length (drop count digits) + digits_value 10 (drop count digits) =
    ap (digits_value 10) (sym (take-append-drop count digits)) ∙ digits_value_after-append 0 (take count digits) (drop count digits) ∙ digits_value_after-split (digits_value 10 (take count digits)) (drop count digits) in
    elim (eq-zero-or-pos (later - length digits)) [
      | inl within ↦
          let len : length (drop count digits) ≡ later = omega (arith, length-drop {A = ℕ}) in
          rw (all, len) (div-mul-add (digits_value 10 (take count digits)) (10 ^ later) (digits_value 10 (drop count digits)) (rw (← len) small))
      | inr past ↦
          let none : count ≡ 0 = omega arith in
          let all_after : length (drop count digits) ≤ later = omega (arith, length-drop {A = ℕ}) in
          let below : digits_value 10 digits < 10 ^ later = below_power digits count later none (omega arith) are_digits in
          rw none (div-eq_of_lt below)
    ]

-- a power of ten makes no number smaller
pub le-mul-ten_pow : (k j : ℕ) → k ≤ k * 10 ^ j
le-mul-ten_pow k j = omega (arith, le-mul_of_pos_right k (ten_pow_pos j))

unit : (n : ℕ) → n + 0 ≡ n
unit n = omega arith

-- the scale of no exponent changes nothing
pub unscaled : (whole fraction : List ℕ) → scaled_magnitude whole fraction 0 0 ≡ magnitude_of whole fraction
unscaled whole fraction = rw (unit (length fraction)) refl

pub list_all_take : (ds : List ℕ) (m : ℕ) → list_all is_ascii_digit ds ≡ true → list_all is_ascii_digit (take m ds) ≡ true
list_all_take ds m h =
    let split : (list_all is_ascii_digit (take m ds) && list_all is_ascii_digit (drop m ds)) ≡ true = sym (list_all-append is_ascii_digit (take m ds) (drop m ds)) ∙ ap (list_all is_ascii_digit) (take-append-drop m ds) ∙ h in
    (both_pass (list_all is_ascii_digit (take m ds)) (list_all is_ascii_digit (drop m ds)) split).0

two_takes : (xs ys : List ℕ) (n m : ℕ) → m ≡ min n (length xs) → take n (xs ++ ys) ≡ take m xs ++ take (n - m) ys
two_takes xs ys n m is_m =
    elim (eq-zero-or-pos (n - length xs)) [
      | inl within ↦
          let same : m ≡ n = omega arith in
          let none : n - n ≡ 0 = omega arith in
          rw (same, none, append-nil (take n xs)) (take-append-le n xs ys (omega arith))
      | inr past ↦
          let same : m ≡ length xs = omega arith in
          let parts : n ≡ length xs + (n - length xs) = omega arith in
          rw same (ap (λ k. take k (xs ++ ys)) parts ∙ take-append-add xs ys (n - length xs) ∙ ap (λ zs. zs ++ take (n - length xs) ys) (sym (take-length xs)))
    ]

-- what the first digits of two runs spell
pub leading_digits : (xs ys : List ℕ) (n m : ℕ) → m ≡ min n (length xs)
    → digits_value 10 (take n (xs ++ ys)) ≡ digits_value_after 10 (digits_value 10 (take m xs)) (take (n - m) ys)
leading_digits xs ys n m is_m = ap (digits_value 10) (two_takes xs ys n m is_m) ∙ digits_value_after-append 0 (take m xs) (take (n - m) ys)

-- what all digits of two runs spell
pub all_digits : (xs ys : List ℕ) → digits_value 10 (xs ++ ys) ≡ digits_value_after 10 (digits_value 10 xs) ys
all_digits xs ys = digits_value_after-append 0 xs ys

-- the magnitude by a longer scale, and by a shorter one
pub scaled_up : (whole fraction : List ℕ) (up down raised lowered : ℕ) → raised ≡ 6 + up → lowered ≡ length fraction + down → lowered ≤ raised
    → scaled_magnitude whole fraction up down ≡ digits_value 10 (whole ++ fraction) * 10 ^ (raised - lowered)
scaled_up whole fraction up down raised lowered r l short = rw (← r, ← l) (lengthened (digits_value 10 (whole ++ fraction)) raised lowered short)

pub scaled_down : (whole fraction : List ℕ) (up down raised lowered count : ℕ) → list_all is_ascii_digit (whole ++ fraction) ≡ true → raised ≡ 6 + up → lowered ≡ length fraction + down → raised ≤ lowered
    → count ≡ length (whole ++ fraction) - (lowered - raised)
    → scaled_magnitude whole fraction up down ≡ digits_value 10 (take count (whole ++ fraction))
scaled_down whole fraction up down raised lowered count digits r l short c =
    rw (← r, ← l) (shortened (digits_value 10 (whole ++ fraction)) raised lowered short ∙ front_digits (whole ++ fraction) count (lowered - raised) digits c)

pub both_digits : (whole fraction : List ℕ) → list_all is_ascii_digit whole ≡ true → list_all is_ascii_digit fraction ≡ true → list_all is_ascii_digit (whole ++ fraction) ≡ true
both_digits whole fraction w f = list_all-append is_ascii_digit whole fraction ∙ rw (w, f) refl

-- three digits spell a number below a thousand
pub below_thousand : (ds : List ℕ) → list_all is_ascii_digit ds ≡ true → length ds ≤ 3 → digits_value 10 ds < 1000
below_thousand ds digits short = omega (arith, digits_value-lt 10 ds (AllDigits-from_list_all ds digits), pow-le-pow_right {n = 10} (lit< tt) short)

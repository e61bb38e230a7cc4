-- Numbers in bytes.
use Rattle.std.proofs.Common.{◌≡◌, ℕ, zero, suc, ◌<◌, ◌≤◌, ◌%◌, ◌/◌, ◌+◌, Bool, true, false, cond, List, [], ◌∷◌, ◌++◌, length, Option, refl, ap, arith}
use Rattle.std.specs.Prelude.{option_map, nat_lt}
use Rattle.std.specs.Str.{bytes_eq}
use Rattle.std.specs.Bool.{Decides}
use Rattle.std.proofs.lemmas.Slice.Eq.{bytes_eq-Decides}
use Rattle.ar_code.specs.Image.{groups}

-- what comes before a number's bytes
abbrev pub with_front : List ℕ → Option (List ℕ × List ℕ) → Option (List ℕ × List ℕ)
with_front front cut = option_map (λ cut. (front ++ cut.0, cut.1)) cut

by_size : (more n : ℕ) (rest : List ℕ) (b : Bool) → length rest ≤ suc more → length (cond b (n ∷ []) ((128 + n % 128) ∷ rest)) ≤ suc (suc more)
by_size more n rest true len = omega arith
by_size more n rest false len = omega (arith, len)

-- a number has no more bytes than it may
groups_len : (more n : ℕ) → length (groups more n) ≤ suc more
groups_len zero n = omega arith
groups_len (suc more) n = by_size more n (groups more (n / 128)) (nat_lt n 128) (groups_len more (n / 128))

shorter_differs : (xs ys : List ℕ) → xs ≡ ys → length xs < length ys → ⊥
shorter_differs xs ys same shorter = omega (arith, shorter, ap (λ (l : List ℕ). length l) same)

differs : (b : Bool) (xs ys : List ℕ) → Decides b (xs ≡ ys) → length xs < length ys → b ≡ false
differs true xs ys same shorter = absurd (shorter_differs xs ys (same.0 refl) shorter)
differs false xs ys same shorter = refl

pub no_form : (more n : ℕ) (text : List ℕ) → suc more < length text → bytes_eq (groups more n) text ≡ false
no_form more n text long = differs (bytes_eq (groups more n) text) (groups more n) text (bytes_eq-Decides (groups more n) text) (omega (arith, groups_len more n))

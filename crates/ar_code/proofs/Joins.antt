-- Bytes one after another.
use Rattle.std.proofs.Common.{◌≡◌, ℕ, zero, suc, ◌-◌, ◌+◌, ◌/◌, ◌%◌, ◌<◌, false, ltb, List, [], ◌∷◌, ◌++◌, refl, append_assoc, arith}
use Rattle.ar_code.specs.Image.{groups}

pub two_parts : (out front back : List ℕ) → (out ++ front) ++ back ≡ out ++ (front ++ back)
two_parts out front back = append_assoc out front back

pub one_more : (out back : List ℕ) (x : ℕ) → (out ++ x ∷ []) ++ back ≡ out ++ (x ∷ back)
one_more out back x = append_assoc out (x ∷ []) back

pub more_groups : (more n : ℕ) → 0 < more → ltb n 128 ≡ false → groups more n ≡ (128 + n % 128) ∷ groups (more - 1) (n / 128)
more_groups zero n positive large = absurd (omega (arith, positive))
more_groups (suc more) n positive large =
    let one_less : suc more - 1 ≡ more = omega arith in
    rw (large, one_less) refl

pub whole_image : (out a b c d : List ℕ) → (((out ++ a) ++ b) ++ c) ++ d ≡ out ++ (a ++ (b ++ (c ++ d)))
whole_image out a b c d = simp append_assoc

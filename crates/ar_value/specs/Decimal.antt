-- Decimals as counts of millionths, the cut toward zero, the range of 64 bits, and the order of numbers.
use Rattle.std.specs.Prelude.{◌^◌, ℤ, pos, negsuc, ◌*ℤ◌, int_div, Bool, nat_lt, ◌≡◌, refl}
use Rattle.std.specs.declared.cmp.Ordering.{Ordering}
use Rattle.std.specs.Ordering.{int_cmp}
use Rattle.ar_value.specs.declared.decimal.Number.{Number}
use Rattle.ar_value.specs.declared.decimal.Number.TheVariants.{Whole, Decimal}
use Rattle.std.specs.declared.cmp.Ordering.TheVariants.{Equal, Less}

-- p divided by q, cut toward zero
abbrev pub cut : ℤ → ℤ → ℤ
cut p q = int_div p q

-- z is in the range of a signed 64-bit number (`negsuc n` is -(n + 1))
abbrev pub is_i64 : ℤ → Bool
is_i64 (pos n) = nat_lt n (2 ^ 63)
is_i64 (negsuc n) = nat_lt n (2 ^ 63)

-- how many millionths one is
abbrev pub million : ℤ
million = pos 1000000

-- the exact value of a number, in millionths
abbrev pub in_millionths : Number → ℤ
in_millionths (Whole whole) = whole *ℤ million
in_millionths (Decimal millionths) = millionths

-- numbers compare as their exact values do, whichever way they are written
abbrev pub order : Number → Number → Ordering
order left right = int_cmp (in_millionths left) (in_millionths right)

-- ---- worked rows

cut_toward_zero : cut (negsuc 6) (pos 2) ≡ negsuc 2
cut_toward_zero = refl

whole_and_decimal : order (Whole (pos 1)) (Decimal (pos 1000000)) ≡ Equal
whole_and_decimal = refl

one_millionth : order (Whole (pos 1)) (Decimal (pos 1000001)) ≡ Less
one_millionth = refl

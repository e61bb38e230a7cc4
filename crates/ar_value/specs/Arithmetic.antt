-- Arithmetic of wholes, and of decimals as counts of millionths: the exact result, or the one cut toward zero, where it
-- fits a signed 64-bit number.
use Rattle.std.specs.Prelude.{zero, ℤ, pos, ◌+ℤ◌, ◌-ℤ◌, ◌*ℤ◌, neg_ℤ, int_rem, if◌then◌else◌, Result, Ok, Err, ◌≡◌, negsuc, refl}
use Rattle.ar_value.specs.Decimal.{cut, is_i64, million}
use Rattle.ar_value.specs.declared.fault.Fault.{Fault}
use Rattle.ar_value.specs.declared.fault.Fault.TheVariants.{Overflow, DivisionByZero}

abbrev pub within : ℤ → Result ℤ Fault
within z = if is_i64 z then Ok z else Err Overflow

-- sums, differences and negations of two wholes, or of two decimals
abbrev pub sum : ℤ → ℤ → Result ℤ Fault
sum a b = within (a +ℤ b)

abbrev pub difference : ℤ → ℤ → Result ℤ Fault
difference a b = within (a -ℤ b)

abbrev pub negation : ℤ → Result ℤ Fault
negation a = within (neg_ℤ a)

-- products of wholes, and of decimals
abbrev pub product : ℤ → ℤ → Result ℤ Fault
product a b = within (a *ℤ b)

abbrev pub decimal_product : ℤ → ℤ → Result ℤ Fault
decimal_product a b = within (cut (a *ℤ b) million)

-- quotients are decimals; a whole by a whole, and a decimal by a decimal
abbrev pub quotient : ℤ → ℤ → Result ℤ Fault
quotient a (pos zero) = Err DivisionByZero
quotient a b = within (cut (a *ℤ million) b)

-- what is left of a whole by a whole, with the sign of the first
abbrev pub remainder : ℤ → ℤ → Result ℤ Fault
remainder a (pos zero) = Err DivisionByZero
remainder a b = Ok (int_rem a b)

-- a whole as a decimal
abbrev pub decimal_of_whole : ℤ → Result ℤ Fault
decimal_of_whole whole = within (whole *ℤ million)

-- ---- worked rows

one_third : quotient (pos 1) (pos 3) ≡ Ok (pos 333333)
one_third = refl

minus_one_third : quotient (negsuc 0) (pos 3) ≡ Ok (negsuc 333332)
minus_one_third = refl

nothing_by_zero : quotient (pos 1) (pos 0) ≡ Err DivisionByZero
nothing_by_zero = refl

sign_of_the_first : remainder (negsuc 6) (pos 3) ≡ Ok (negsuc 0)
sign_of_the_first = refl

half_of_a_half : decimal_product (pos 500000) (pos 500000) ≡ Ok (pos 250000)
half_of_a_half = refl

past_the_range : sum (pos 9223372036854775807) (pos 1) ≡ Err Overflow
past_the_range = refl

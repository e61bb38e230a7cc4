-- Worked decimals, computed by the definitions alone.
use Rattle.std.proofs.Common.{◌≡◌, refl, Ok, Err}
use Rattle.std.specs.Prelude.{pos, negsuc, codes}
use Rattle.ar_value.specs.DecimalText.{decimal_of}
use Rattle.ar_value.specs.declared.decimal.NumberFault.TheVariants.{BadDecimal, NotFinite, OutOfRange}

unit_fraction : decimal_of (codes "0.9523809523809523") ≡ Ok (pos 952380)
unfolding decimal_of
unit_fraction = refl

point_first : decimal_of (codes "+.5") ≡ Ok (pos 500000)
unfolding decimal_of
point_first = refl

point_last : decimal_of (codes "7.") ≡ Ok (pos 7000000)
unfolding decimal_of
point_last = refl

cut_toward_zero : decimal_of (codes "-0.0000019") ≡ Ok (negsuc 0)
unfolding decimal_of
cut_toward_zero = refl

greatest : decimal_of (codes "9223372036854.7758079") ≡ Ok (pos 9223372036854775807)
unfolding decimal_of
greatest = refl

least : decimal_of (codes "-9223372036854.7758089") ≡ Ok (negsuc 9223372036854775807)
unfolding decimal_of
least = refl

above_greatest : decimal_of (codes "9223372036854.775808") ≡ Err OutOfRange
unfolding decimal_of
above_greatest = refl

not_a_number : decimal_of (codes "NaN") ≡ Err NotFinite
unfolding decimal_of
not_a_number = refl

no_digit : decimal_of (codes ".") ≡ Err BadDecimal
unfolding decimal_of
no_digit = refl

two_points : decimal_of (codes "1.2.3") ≡ Err BadDecimal
unfolding decimal_of
two_points = refl

raised : decimal_of (codes "1e5") ≡ Ok (pos 100000000000)
unfolding decimal_of
raised = refl

lowered : decimal_of (codes "1e-7") ≡ Ok (pos 0)
unfolding decimal_of
lowered = refl

lowered_far : decimal_of (codes "-99E-999") ≡ Ok (pos 0)
unfolding decimal_of
lowered_far = refl

raised_far : decimal_of (codes "1e+999") ≡ Err OutOfRange
unfolding decimal_of
raised_far = refl

zero_raised_far : decimal_of (codes "0e999") ≡ Ok (pos 0)
unfolding decimal_of
zero_raised_far = refl

long_exponent : decimal_of (codes "1e1000") ≡ Err BadDecimal
unfolding decimal_of
long_exponent = refl

no_exponent : decimal_of (codes "1e") ≡ Err BadDecimal
unfolding decimal_of
no_exponent = refl

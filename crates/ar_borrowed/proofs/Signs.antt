-- Numbers of texts with and without a minus.
use Rattle.std.proofs.Common.{◌≡◌, ◌==◌, ℕ, Bool, List, None, Option, drop, false, option_and_then, slice_index, true, refl, ap, ◌∙◌, arith}
use Rattle.std.specs.Prelude.{ℤ}
use Rattle.fast_float.specs.Text.{Parts, minus, scan}
use Rattle.serde_json.specs.Data.{Num}
use Rattle.serde_json.specs.Find.{as_integer}
use Rattle.serde_json.specs.Read.{float_of, number_from, number_of}

pub below_zero : (bytes digits : List ℕ) (parts : Parts) (found : Option Num) → (slice_index bytes 0 == minus) ≡ true → digits ≡ drop 1 bytes → parts ≡ scan digits
    → found ≡ number_from true parts → found ≡ number_of bytes
unfolding number_of
below_zero bytes digits parts found signed rest scanned is = is ∙ ap (number_from true) (scanned ∙ ap scan rest) ∙ rw signed refl

pub not_below_zero : (bytes : List ℕ) (parts : Parts) (found : Option Num) → (slice_index bytes 0 == minus) ≡ false → parts ≡ scan bytes
    → found ≡ number_from false parts → found ≡ number_of bytes
unfolding number_of
not_below_zero bytes parts found unsigned scanned is = is ∙ ap (number_from false) scanned ∙ rw unsigned refl

-- ---- whole numbers

-- a float is none
pub no_integer : (sign : Bool) (parts : Parts) → option_and_then as_integer (float_of sign parts) ≡ None
no_integer sign parts = grind arith

pub integer_below_zero : (bytes digits : List ℕ) (parts : Parts) (found : Option ℤ) → (slice_index bytes 0 == minus) ≡ true → digits ≡ drop 1 bytes → parts ≡ scan digits
    → found ≡ option_and_then as_integer (number_from true parts) → found ≡ option_and_then as_integer (number_of bytes)
integer_below_zero bytes digits parts found signed rest scanned is =
    is ∙ ap (option_and_then as_integer) (below_zero bytes digits parts (number_from true parts) signed rest scanned refl)

pub integer_not_below_zero : (bytes : List ℕ) (parts : Parts) (found : Option ℤ) → (slice_index bytes 0 == minus) ≡ false → parts ≡ scan bytes
    → found ≡ option_and_then as_integer (number_from false parts) → found ≡ option_and_then as_integer (number_of bytes)
integer_not_below_zero bytes parts found unsigned scanned is =
    is ∙ ap (option_and_then as_integer) (not_below_zero bytes parts (number_from false parts) unsigned scanned refl)

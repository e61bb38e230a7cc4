-- Control characters in JSON strings.
use Rattle.std.proofs.Common.{◌≡◌, cond, ℕ, ◌+◌, ◌-◌, ◌/◌, ◌%◌, ◌^◌, ◌<◌, Bool, true, false, [], ◌∷◌, ◌++◌, refl, ap, ◌∙◌, arith}
use Rattle.std.specs.Prelude.{if◌then◌else◌, nat_lt, codes}
use Rattle.std.specs.Char.{digit_char}
use Rattle.std.specs.Fmt.{digit_glyph, digits, format_spec, padded_integral}
use Rattle.std.proofs.lemmas.Fmt.{hex_byte}
use Rattle.cases_of_values.specs.Printing.{code_escape}

glyph_is : (d : ℕ) → digit_glyph false d ≡ digit_char d
glyph_is d = by (nat_lt d 10) where
  by : (small : Bool) → (if small then 48 + d else 87 + d) ≡ cond small (48 + d) (87 + d)
  by true = refl
  by false = refl

-- two digits, padded with zeros
pub control : (character : ℕ) → character < 32 → codes "\\u00" ++ padded_integral (format_spec 32 0 4 2 (2 ^ 64 - 1)) false [] (digits 16 false character) ≡ code_escape character
control character small =
    ap (λ d. codes "\\u00" ++ d) (hex_byte false character (omega arith) ∙ (ap (λ d. d ∷ digit_glyph false (character % 16) ∷ []) (glyph_is (character / 16)) ∙ ap (λ d. digit_char (character / 16) ∷ d ∷ []) (glyph_is (character % 16))))

-- Characters by their codes.
use Rattle.std.proofs.Common.{◌≡◌, cond, ℕ, ◌+◌, ◌-◌, ◌/◌, ◌%◌, ◌^◌, ◌<◌, Bool, true, false, List, [], ◌∷◌, ◌++◌, refl, ap, ◌∙◌, arith}
use Rattle.std.specs.Prelude.{if◌then◌else◌, nat_lt, codes}
use Rattle.std.specs.Char.{digit_char}
use Rattle.std.specs.Fmt.{digit_glyph, digits, format_spec, padded_integral}
use Rattle.std.proofs.lemmas.Fmt.{hex_byte}
use Rattle.ar_quote.specs.Shown.{byte_digits, unit_escape}

glyph_is : (d : ℕ) → digit_glyph false d ≡ digit_char d
glyph_is d = by (nat_lt d 10) where
  by : (small : Bool) → (if small then 48 + d else 87 + d) ≡ cond small (48 + d) (87 + d)
  by true = refl
  by false = refl

-- two digits, padded with zeros
abbrev padded : (byte : ℕ) → List ℕ
padded byte = padded_integral (format_spec 32 0 4 2 (2 ^ 64 - 1)) false [] (digits 16 false byte)

padded_is : (byte : ℕ) → byte < 256 → padded byte ≡ byte_digits byte
padded_is byte small = hex_byte false byte small ∙ (ap (λ d. d ∷ digit_glyph false (byte % 16) ∷ []) (glyph_is (byte / 16)) ∙ ap (λ d. digit_char (byte / 16) ∷ d ∷ []) (glyph_is (byte % 16)))

pub coded : (unit : ℕ) → unit < 65536 → codes "\\u" ++ (padded (unit / 256) ++ padded (unit % 256)) ≡ unit_escape unit
coded unit small =
    ap (λ digits. codes "\\u" ++ (digits ++ padded (unit % 256))) (padded_is (unit / 256) (omega arith))
    ∙ ap (λ digits. codes "\\u" ++ (byte_digits (unit / 256) ++ digits)) (padded_is (unit % 256) (omega arith))

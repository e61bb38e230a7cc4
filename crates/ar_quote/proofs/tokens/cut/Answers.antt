use Rattle.std.proofs.Common.{◌≡◌, List, ℕ, Bor, Option, None, Some, take, drop, rules, sym}
use Rattle.std.specs.Prelude.{option_map, IsSome, IfSome, ◌↔◌}
use Rattle.std.specs.Str.{IsCharBoundary}
use Rattle.ar_quote.specs.Tokens.{halves_at}
use Rattle.ar_quote.proofs.TokenBytes.{cuts, cuts_not}
use Rattle.ar_quote.proofs.tokens.cut.Goals as goal

by : (offset : ℕ) (text : List ℕ) (result : Option (Bor (List ℕ) × Bor (List ℕ))) → (IsSome result ↔ IsCharBoundary text offset)
    → IfSome result (λ x. x.0.now ≡ take offset text) → IfSome result (λ x. x.1.now ≡ drop offset text)
    → option_map (λ (parts : Bor (List ℕ) × Bor (List ℕ)). (parts.0.now, parts.1.now)) result ≡ halves_at offset text
by offset text None variant front back = sym (cuts_not offset text (λ boundary. search (rules, variant.1 boundary)))
by offset text (Some x) variant front back = rw (front, back) (sym (cuts offset text (variant.0 (search rules))))

pub returns : goal.returns
returns c = by c.args.offset c.args.text.now c.split_at_checked.result c.split_at_checked.ensures.variant c.split_at_checked.ensures.front c.split_at_checked.ensures.back

-- Signs and words of the language are cut as themselves.
use Rattle.std.proofs.Common.{◌≡◌, ℕ, Bool, false, [], ◌∷◌, refl, sym, subst, ◌==◌}
use Rattle.std.specs.Prelude.{slice_index, codes}
use Rattle.std.specs.Char.{is_ascii_digit}
use Rattle.ar_value.specs.Terms.{Text}
use Rattle.ar_value.specs.declared.operator.Arithmetic.{Arithmetic}
use Rattle.ar_value.specs.declared.operator.Arithmetic.TheVariants as wholes
use Rattle.ar_value.specs.declared.operator.DecimalArithmetic.{DecimalArithmetic}
use Rattle.ar_value.specs.declared.operator.DecimalArithmetic.TheVariants as decimals
use Rattle.ar_value.specs.declared.operator.Order.{Order}
use Rattle.ar_value.specs.declared.operator.Order.TheVariants as orders
use Rattle.ar_tree.specs.declared.tree.Comparison.TheVariants as comparisons
use Rattle.ar_syntax.specs.Tokens.{front_of, piece_found, sign_at, token, token_of}
use Rattle.ar_syntax.specs.declared.token.Sign.TheVariants as signs
use Rattle.ar_syntax.specs.declared.token.TokenKind.{TokenKind}
use Rattle.ar_show.specs.PartText.{arithmetic_sign, decimal_sign, order_sign}
use Rattle.ar_parsed_back.specs.Kinds.{arithmetic_token, decimal_token, written_order, sign}
use Rattle.ar_parsed_back.proofs.Cutting.{Any, IsSpace, Lexes, one_token}

-- ---- signs with which no other begins

pub open_parenthesis : Lexes Any (codes "(") (sign signs.OpenParenthesis ∷ [])
unfolding front_of token_of sign_at
open_parenthesis = one_token Any 40 [] (sign signs.OpenParenthesis) (λ at field rest ends. refl)

pub close_parenthesis : Lexes Any (codes ")") (sign signs.CloseParenthesis ∷ [])
unfolding front_of token_of sign_at
close_parenthesis = one_token Any 41 [] (sign signs.CloseParenthesis) (λ at field rest ends. refl)

pub open_bracket : Lexes Any (codes "[") (sign signs.OpenBracket ∷ [])
unfolding front_of token_of sign_at
open_bracket = one_token Any 91 [] (sign signs.OpenBracket) (λ at field rest ends. refl)

pub close_bracket : Lexes Any (codes "]") (sign signs.CloseBracket ∷ [])
unfolding front_of token_of sign_at
close_bracket = one_token Any 93 [] (sign signs.CloseBracket) (λ at field rest ends. refl)

pub comma : Lexes Any (codes ",") (sign signs.Comma ∷ [])
unfolding front_of token_of sign_at
comma = one_token Any 44 [] (sign signs.Comma) (λ at field rest ends. refl)

pub hash : Lexes Any (codes "#") (sign signs.Hash ∷ [])
unfolding front_of token_of sign_at
hash = one_token Any 35 [] (sign signs.Hash) (λ at field rest ends. refl)

pub minus : Lexes Any (codes "-") (sign signs.Minus ∷ [])
unfolding front_of token_of sign_at
minus = one_token Any 45 [] (sign signs.Minus) (λ at field rest ends. refl)

-- ---- signs before a space

-- what holds before a space holds before what begins with one
before_space : (P : Text → Type 0) → ((others : Text) → P (32 ∷ others)) → (rest : Text) → IsSpace rest → P rest
before_space P holds [] is = absurd cc
before_space P holds (byte ∷ others) is = subst (λ (b : ℕ). P (b ∷ others)) (sym is) (holds others)

module _ (at : ℕ) (field : Bool) where
  spaced_1 : (byte : ℕ) (kind : TokenKind) → ((others : Text) → front_of at field (byte ∷ 32 ∷ others) ≡ piece_found (token kind at 1)) → (rest : Text) → IsSpace rest → front_of at field (byte ∷ rest) ≡ piece_found (token kind at 1)
  spaced_1 byte kind holds = before_space (λ rest. front_of at field (byte ∷ rest) ≡ piece_found (token kind at 1)) holds

  spaced_2 : (first second : ℕ) (kind : TokenKind) → ((others : Text) → front_of at field (first ∷ second ∷ 32 ∷ others) ≡ piece_found (token kind at 2)) → (rest : Text) → IsSpace rest → front_of at field (first ∷ second ∷ rest) ≡ piece_found (token kind at 2)
  spaced_2 first second kind holds = before_space (λ rest. front_of at field (first ∷ second ∷ rest) ≡ piece_found (token kind at 2)) holds

pub arithmetic_cut : (operator : Arithmetic) → Lexes IsSpace (arithmetic_sign operator) (arithmetic_token operator ∷ [])
unfolding front_of token_of sign_at
arithmetic_cut wholes.Add = one_token IsSpace 43 [] (sign signs.Plus) (λ at field. spaced_1 at field 43 (sign signs.Plus) (λ others. refl))
arithmetic_cut wholes.Subtract = one_token IsSpace 45 [] (sign signs.Minus) (λ at field. spaced_1 at field 45 (sign signs.Minus) (λ others. refl))
arithmetic_cut wholes.Multiply = one_token IsSpace 42 [] (sign signs.Star) (λ at field. spaced_1 at field 42 (sign signs.Star) (λ others. refl))
arithmetic_cut wholes.Divide = one_token IsSpace 47 [] (sign signs.Slash) (λ at field. spaced_1 at field 47 (sign signs.Slash) (λ others. refl))
arithmetic_cut wholes.Remainder = one_token IsSpace 37 [] (sign signs.Percent) (λ at field. spaced_1 at field 37 (sign signs.Percent) (λ others. refl))

pub decimal_cut : (operator : DecimalArithmetic) → Lexes IsSpace (decimal_sign operator) (decimal_token operator ∷ [])
decimal_cut decimals.Add = arithmetic_cut wholes.Add
decimal_cut decimals.Subtract = arithmetic_cut wholes.Subtract
decimal_cut decimals.Multiply = arithmetic_cut wholes.Multiply
decimal_cut decimals.Divide = arithmetic_cut wholes.Divide

pub order_cut : (order : Order) → Lexes IsSpace (order_sign order) (sign (signs.Comparison (written_order order)) ∷ [])
unfolding front_of token_of sign_at
order_cut orders.Less = one_token IsSpace 60 [] (sign (signs.Comparison comparisons.Less)) (λ at field. spaced_1 at field 60 (sign (signs.Comparison comparisons.Less)) (λ others. refl))
order_cut orders.LessOrEqual = one_token IsSpace 60 (61 ∷ []) (sign (signs.Comparison comparisons.LessOrEqual)) (λ at field. spaced_2 at field 60 61 (sign (signs.Comparison comparisons.LessOrEqual)) (λ others. refl))
order_cut orders.Greater = one_token IsSpace 62 [] (sign (signs.Comparison comparisons.Greater)) (λ at field. spaced_1 at field 62 (sign (signs.Comparison comparisons.Greater)) (λ others. refl))
order_cut orders.GreaterOrEqual = one_token IsSpace 62 (61 ∷ []) (sign (signs.Comparison comparisons.GreaterOrEqual)) (λ at field. spaced_2 at field 62 61 (sign (signs.Comparison comparisons.GreaterOrEqual)) (λ others. refl))

pub equal_cut : Lexes IsSpace (codes "==") (sign (signs.Comparison comparisons.Equal) ∷ [])
unfolding front_of token_of sign_at
equal_cut = one_token IsSpace 61 (61 ∷ []) (sign (signs.Comparison comparisons.Equal)) (λ at field. spaced_2 at field 61 61 (sign (signs.Comparison comparisons.Equal)) (λ others. refl))

pub question_cut : Lexes IsSpace (codes "?") (sign signs.Question ∷ [])
unfolding front_of token_of sign_at
question_cut = one_token IsSpace 63 [] (sign signs.Question) (λ at field. spaced_1 at field 63 (sign signs.Question) (λ others. refl))

pub colon_cut : Lexes IsSpace (codes ":") (sign signs.Colon ∷ [])
unfolding front_of token_of sign_at
colon_cut = one_token IsSpace 58 [] (sign signs.Colon) (λ at field. spaced_1 at field 58 (sign signs.Colon) (λ others. refl))

-- ---- `!`, which continues before `=`, and the point, which begins a number before a digit

abbrev pub NoEqual : Text → Type 0
NoEqual rest = (61 == slice_index rest 0) ≡ false

not_found : (at : ℕ) (field : Bool) (rest : Text) → NoEqual rest → front_of at field (33 ∷ rest) ≡ piece_found (token (sign signs.Not) at 1)
unfolding front_of token_of sign_at
not_found at field [] differs = refl
not_found at field (byte ∷ rest) differs = rw differs refl

pub not_cut : Lexes NoEqual (codes "!") (sign signs.Not ∷ [])
not_cut = one_token NoEqual 33 [] (sign signs.Not) not_found

abbrev pub NoDigit : Text → Type 0
NoDigit rest = is_ascii_digit (slice_index rest 0) ≡ false

point_found : (at : ℕ) (field : Bool) (rest : Text) → NoDigit rest → front_of at field (46 ∷ rest) ≡ piece_found (token (sign signs.Point) at 1)
unfolding front_of token_of sign_at
point_found at field rest differs = rw differs refl

pub point_cut : Lexes NoDigit (codes ".") (sign signs.Point ∷ [])
point_cut = one_token NoDigit 46 [] (sign signs.Point) point_found

-- The offset and name of the fault of tokens that are no condition.
use Rattle.std.specs.Prelude.{◌≡◌, ℕ, ℤ, Bool, true, false, ◌&&◌, not, nat_le, List, [], ◌∷◌, ◌++◌}
use Rattle.ar_value.specs.Terms.{Text}
use Rattle.ar_tree.specs.Expression.{Expression}
use Rattle.ar_syntax.specs.Condition.{Derives, at_any_depth, depth, most_depth, of_any_count, of_any_items, strict}
use Rattle.ar_syntax.specs.Grammar.{BeginsBy}
use Rattle.ar_syntax.specs.declared.error.SyntaxError.{SyntaxError}
use Rattle.ar_syntax.specs.declared.error.SyntaxError.TheVariants.{Unexpected, UnknownName, WrongCount, ItemOutside, TooManyItems, TooDeep}
use Rattle.ar_syntax.specs.declared.token.Sign.TheVariants.{Hash, Point, Comma}
use Rattle.ar_syntax.specs.declared.token.Token.{Token}
use Rattle.ar_syntax.specs.declared.token.TokenKind.{TokenKind}
use Rattle.ar_syntax.specs.declared.token.TokenKind.TheVariants as kinds

-- ---- conditions

-- with some further tokens these are a condition, its length and depth set aside
abbrev pub BeginsCondition : List Token → Type 0
BeginsCondition tokens = BeginsBy strict tokens

-- ---- what is expected

-- an operand may come after these tokens: a number may
abbrev pub WantsOperand : List Token → Type 0
WantsOperand before =
    (number : Token) × (value : ℤ) × (number.kind ≡ kinds.Whole value) × BeginsCondition (before ++ number ∷ [])

abbrev pub is_comma : TokenKind → Bool
is_comma (kinds.Sign Comma) = true
is_comma kind = false

abbrev pub has_no_comma : List Token → Bool
has_no_comma [] = true
has_no_comma (token ∷ tokens) = not (is_comma token.kind) && has_no_comma tokens

-- one is inside a predicate after these tokens: `#` may come there, or further on before any comma
abbrev pub IsInside : List Token → Type 0
IsInside before =
    (further : List Token) × (item : Token) × (has_no_comma further ≡ true) × (item.kind ≡ kinds.Sign Hash)
    × BeginsCondition ((before ++ further) ++ item ∷ [])

-- ---- the name of a fault

-- the refusal of a token that can't come after those before it, where it has a name of its own
pub data IsNamedAfter (before : List Token) (token : Token) : SyntaxError → Type 0 where
  -- a word that the language doesn't name, where an operand is expected
  unknown_name : {name : Text} → token.kind ≡ kinds.Name name → WantsOperand before
      → IsNamedAfter before token (UnknownName token.span.start)
  -- `#` outside predicates, and a point where an operand is expected there
  item_outside : token.kind ≡ kinds.Sign Hash → ¬ IsInside before
      → IsNamedAfter before token (ItemOutside token.span.start)
  item_field_outside : token.kind ≡ kinds.Sign Point → WantsOperand before → ¬ IsInside before
      → IsNamedAfter before token (ItemOutside token.span.start)
  -- a token that one limit alone forbids: it may come there where that limit is set aside
  wrong_count : BeginsBy of_any_count (before ++ token ∷ []) → IsNamedAfter before token (WrongCount token.span.start)
  too_many_items : ¬ BeginsBy of_any_count (before ++ token ∷ []) → BeginsBy of_any_items (before ++ token ∷ [])
      → IsNamedAfter before token (TooManyItems token.span.start)
  too_deep : ¬ BeginsBy of_any_count (before ++ token ∷ []) → ¬ BeginsBy of_any_items (before ++ token ∷ [])
      → BeginsBy at_any_depth (before ++ token ∷ []) → IsNamedAfter before token (TooDeep token.span.start)

-- any other is unexpected
pub data IsRefusedAfter (before : List Token) (token : Token) : SyntaxError → Type 0 where
  named : {error : SyntaxError} → IsNamedAfter before token error → IsRefusedAfter before token error
  unexpected : ((error : SyntaxError) → ¬ IsNamedAfter before token error)
      → IsRefusedAfter before token (Unexpected token.span.start)

-- ---- the refusal of tokens

-- The refusal of tokens that are no condition: it is at the first token that, with those before it, begins none.
-- The end of the text counts as a token. Last, a tree may be too deep.
pub data AreRefused (end : ℕ) (tokens : List Token) : SyntaxError → Type 0 where
  at_token : (before : List Token) (token : Token) (rest : List Token) {error : SyntaxError}
      → tokens ≡ before ++ token ∷ rest
      → BeginsCondition before → ¬ BeginsCondition (before ++ token ∷ []) → IsRefusedAfter before token error
      → AreRefused end tokens error
  at_end : BeginsCondition tokens → ((tree : Expression) → ¬ Derives tokens tree)
      → AreRefused end tokens (Unexpected end)
  at_depth : (tree : Expression) → Derives tokens tree → nat_le (depth tree) most_depth ≡ false
      → AreRefused end tokens (TooDeep 0)

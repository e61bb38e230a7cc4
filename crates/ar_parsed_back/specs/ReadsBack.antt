-- That the shown text of a part, cut into tokens and read by the grammar, says the part. The parentheses that are added
-- for a reader may be more than the 64 that a condition may have at a time, so that limit is set aside.
use Rattle.std.specs.Prelude.{◌≡◌, ℕ, nat_le, Bool, true, false, List, [], length, Result, Ok, Err}
use Rattle.ar_value.specs.Limits.{most_text_bytes}
use Rattle.ar_value.specs.Shape.{Shape}
use Rattle.ar_tree.specs.Expression.{Expression}
use Rattle.ar_tree.specs.Typed.{Typed}
use Rattle.ar_syntax.specs.Condition.{at_any_depth}
use Rattle.ar_syntax.specs.Grammar.{Phrase, ternary}
use Rattle.ar_syntax.specs.Tokens.{tokens_of}
use Rattle.ar_syntax.specs.declared.error.SyntaxError.{SyntaxError}
use Rattle.ar_syntax.specs.declared.error.SyntaxError.TheVariants.{TooDeep}
use Rattle.ar_syntax.specs.declared.token.Token.{Token}
use Rattle.ar_check.specs.Check.{checked}
use Rattle.ar_show.specs.PartText.{shown_part}
use Rattle.ar_parsed_back.specs.InPlace.{NeedsInPlace}
use Rattle.ar_parsed_back.specs.Quotable.{IsQuotable}
use Rattle.ar_parsed_back.specs.Written.{Writes}

-- conditions that are longer are refused
abbrev pub IsShort : Typed → Type 0
IsShort part = nat_le (length (shown_part part)) most_text_bytes ≡ true

-- `inside`: inside a predicate, where `#` is the item
pub record ReadsBack (inside : Bool) (part : Typed) : Type 0 where
  pub tokens : List Token
  pub cut : tokens_of (shown_part part) ≡ Ok tokens
  pub tree : Expression
  pub read : (left : ℕ) → Phrase at_any_depth ternary inside left tokens tree []
  pub says : Writes tree part

-- ---- what the parser answers

abbrev pub is_too_deep : SyntaxError → Bool
is_too_deep (TooDeep at) = true
is_too_deep error = false

-- a tree that says the part; or no tree, since it has too many parentheses or levels
abbrev pub IsParsedBack : Typed → Result Expression SyntaxError → Type 0
IsParsedBack part (Ok tree) = Writes tree part
IsParsedBack part (Err error) = is_too_deep error ≡ true

-- ---- what the parser and the check of kinds answer

-- where the shown text of a condition that was accepted leaves nothing out, and is no longer than a condition may be
pub record CanBeShown (condition : Typed) : Type 0 where
  -- texts are cut after 64 characters, and some characters are shown by codes that no condition may have
  pub quotable : IsQuotable condition
  -- a sign `+`, which unwraps what may be nil, isn't shown
  pub in_place : NeedsInPlace condition
  -- with parentheses round each operand that is an operator it may be too long for a condition
  pub short : IsShort condition

-- a tree that is checked to the same condition; or no tree, since it has too many parentheses or levels
abbrev pub IsCheckedBack : Shape → Typed → Result Expression SyntaxError → Type 0
IsCheckedBack shape condition (Ok tree) = checked shape tree ≡ Ok condition
IsCheckedBack shape condition (Err error) = is_too_deep error ≡ true

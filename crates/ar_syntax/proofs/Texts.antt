-- The tree of a text, or its refusal.
use Rattle.std.proofs.Common.{◌≡◌, ℕ, List, length, refl, ◌∙◌, ap, Result, Ok, Err}
use Rattle.std.specs.Prelude.{IfOk, IfErr}
use Rattle.ar_value.specs.Answer.{◌>>=◌, Gives}
use Rattle.ar_syntax.specs.Condition.{SaysTree}
use Rattle.ar_syntax.specs.Parsed.{IsRefusal, token_fault, grammar_fault, IsNoCondition}
use Rattle.ar_syntax.specs.Parse.{parse_of, tree_of}
use Rattle.ar_syntax.specs.Spelling.{is_syntax_memory}
use Rattle.ar_syntax.specs.Tokens.{tokens_of}
use Rattle.ar_tree.specs.Expression.{Expression}
use Rattle.ar_syntax.specs.declared.error.SyntaxError.{SyntaxError}
use Rattle.ar_syntax.specs.declared.error.SyntaxError.TheVariants as errors
use Rattle.ar_syntax.specs.declared.token.Token.{Token}
use Rattle.ar_tree.specs.declared.tree.Tree.{Tree}
use Rattle.ar_tree.specs.Views.{expression_of}
use Rattle.ar_syntax.proofs.Conditions.{Derives-from_tree_of, IsRefused-from_tree_of, tree_of-Derives, tree_of-IsRefused}

module _ (text : List ℕ) where
  tree-chosen : (answer : Result (List Token) SyntaxError) (tree : Expression) → tokens_of text ≡ answer → (answer >>= tree_of (length text)) ≡ Ok tree → SaysTree text tree
  tree-chosen (Ok tokens) tree cut e = let found = Derives-from_tree_of (length text) tokens tree e in record { tokens = tokens; cut = cut; derived = found.0; shallow = found.1 }
  tree-chosen (Err error) tree cut e = absurd cc

  -- what is parsed is what the text says
  pub SaysTree-from_parse_of : (tree : Expression) → parse_of text ≡ Ok tree → SaysTree text tree
  unfolding parse_of
  SaysTree-from_parse_of tree e = tree-chosen (tokens_of text) tree refl e

  refusal-chosen : (answer : Result (List Token) SyntaxError) (error : SyntaxError) → tokens_of text ≡ answer → (answer >>= tree_of (length text)) ≡ Err error → IsRefusal text error
  refusal-chosen (Ok tokens) error cut e = grammar_fault tokens cut (IsRefused-from_tree_of (length text) tokens error e)
  refusal-chosen (Err other) error cut e = let same : other ≡ error = cc in token_fault (cut ∙ ap (λ (x : SyntaxError). Err x) same)

  pub IsRefusal-from_parse_of : (error : SyntaxError) → parse_of text ≡ Err error → IsRefusal text error
  unfolding parse_of
  IsRefusal-from_parse_of error e = refusal-chosen (tokens_of text) error refl e

  -- what the text says is parsed
  pub parse_of-SaysTree : (tree : Expression) → SaysTree text tree → parse_of text ≡ Ok tree
  unfolding parse_of
  parse_of-SaysTree tree says = rw says.cut (tree_of-Derives (length text) says.tokens tree says.derived says.shallow)

  pub parse_of-IsRefusal : (error : SyntaxError) → IsRefusal text error → parse_of text ≡ Err error
  unfolding parse_of
  parse_of-IsRefusal error (token_fault cut) = rw cut refl
  parse_of-IsRefusal error (grammar_fault tokens cut why) = rw cut (tree_of-IsRefused (length text) tokens error why)

  no_tree : (error : SyntaxError) → parse_of text ≡ Err error → (tree : Expression) → ¬ SaysTree text tree
  no_tree error e tree says = let parsed = parse_of-SaysTree tree says in absurd cc

  no_condition : (error : SyntaxError) → parse_of text ≡ Err error → ((tree : Expression) → ¬ SaysTree text tree) × IsRefusal text error
  no_condition error e = (no_tree error e, IsRefusal-from_parse_of error e)

  -- what `parse` returns by its exact clause
  pub says_tree : (answer : Result Tree SyntaxError) → Gives is_syntax_memory expression_of answer (parse_of text) → IfOk answer (λ tree. SaysTree text (expression_of tree))
  says_tree (Ok tree) gives = SaysTree-from_parse_of (expression_of tree) gives
  says_tree (Err error) gives = tt

  pub is_no_condition : (answer : Result Tree SyntaxError) → Gives is_syntax_memory expression_of answer (parse_of text) → IfErr answer (IsNoCondition text)
  is_no_condition (Ok tree) gives = tt
  is_no_condition (Err errors.TooLong) gives = no_condition errors.TooLong gives
  is_no_condition (Err (errors.BadCharacter at)) gives = no_condition (errors.BadCharacter at) gives
  is_no_condition (Err (errors.OpenText at)) gives = no_condition (errors.OpenText at) gives
  is_no_condition (Err (errors.OpenComment at)) gives = no_condition (errors.OpenComment at) gives
  is_no_condition (Err (errors.BadEscape at)) gives = no_condition (errors.BadEscape at) gives
  is_no_condition (Err (errors.LiteralTooFine at)) gives = no_condition (errors.LiteralTooFine at) gives
  is_no_condition (Err (errors.NumberTooLarge at)) gives = no_condition (errors.NumberTooLarge at) gives
  is_no_condition (Err (errors.Unexpected at)) gives = no_condition (errors.Unexpected at) gives
  is_no_condition (Err (errors.UnknownName at)) gives = no_condition (errors.UnknownName at) gives
  is_no_condition (Err (errors.WrongCount at)) gives = no_condition (errors.WrongCount at) gives
  is_no_condition (Err (errors.ItemOutside at)) gives = no_condition (errors.ItemOutside at) gives
  is_no_condition (Err (errors.TooManyItems at)) gives = no_condition (errors.TooManyItems at) gives
  is_no_condition (Err (errors.TooDeep at)) gives = no_condition (errors.TooDeep at) gives
  is_no_condition (Err errors.OutOfMemory) gives = tt

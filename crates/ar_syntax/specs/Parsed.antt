-- What parsing a text returns, and its refusal in the words of the grammar.
use Rattle.std.specs.Prelude.{◌≡◌, ◌<◌, List, length, Result, Ok, Err, IfOk, IfErr}
use Rattle.ar_value.specs.Terms.{Text}
use Rattle.ar_value.specs.Answer.{Gives}
use Rattle.ar_value.specs.Limits.{most_text_bytes}
use Rattle.ar_tree.specs.Expression.{Expression}
use Rattle.ar_tree.specs.Limits.{WrittenInLimits}
use Rattle.ar_tree.specs.Views.{expression_of}
use Rattle.ar_tree.specs.declared.tree.Tree.{Tree}
use Rattle.ar_syntax.specs.Condition.{SaysTree}
use Rattle.ar_syntax.specs.Refusal.{AreRefused}
use Rattle.ar_syntax.specs.Spelling.{is_syntax_memory}
use Rattle.ar_syntax.specs.Tokens.{tokens_of}
use Rattle.ar_syntax.specs.declared.error.SyntaxError.{SyntaxError}
use Rattle.ar_syntax.specs.declared.error.SyntaxError.TheVariants.{TooLong, OutOfMemory}
use Rattle.ar_syntax.specs.declared.token.Token.{Token}
use Rattle.ar_syntax.specs.Parse.{parse_of}

-- a text's refusal: its first token fault, or else what the grammar refuses in its tokens
pub data IsRefusal (text : Text) (error : SyntaxError) : Type 0 where
  token_fault : tokens_of text ≡ Err error → IsRefusal text error
  grammar_fault : (tokens : List Token) → tokens_of text ≡ Ok tokens → AreRefused (length text) tokens error
      → IsRefusal text error

-- unless memory ran out, an error says that the text is no condition, and why
abbrev pub IsNoCondition : Text → SyntaxError → Type 0
IsNoCondition text OutOfMemory = Unit {0}
IsNoCondition text error = ((tree : Expression) → ¬ SaysTree text tree) × IsRefusal text error

-- what parsing a text returns
pub record ParsesTo (text : Text) (result : Result Tree SyntaxError) : Type 0 where
  -- this tree, or this refusal
  pub exact : Gives is_syntax_memory expression_of result (parse_of text)
  -- a text that is too long is refused for that alone
  pub too_long : most_text_bytes < length text → result ≡ Err TooLong
  -- the same in the grammar's words: the text is a condition, which the tree says,
  pub tree : IfOk result (λ tree. SaysTree text (expression_of tree))
  -- or it is none, and why
  pub refused : IfErr result (IsNoCondition text)
  -- list literals have at most 16 items, texts and names at most 4,096 bytes
  pub limits : IfOk result (λ tree. WrittenInLimits (expression_of tree))

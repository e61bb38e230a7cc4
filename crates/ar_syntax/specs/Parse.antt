-- The tree of a text, or its refusal.
use Rattle.std.specs.Prelude.{nat_le, if◌then◌else◌, List, [], ◌∷◌, length, Option, Some, None, Result, Ok, Err}
use Rattle.ar_value.specs.Terms.{Offset, Text}
use Rattle.ar_value.specs.Answer.{◌>>=◌}
use Rattle.ar_tree.specs.Expression.{Expression}
use Rattle.ar_syntax.specs.Condition.{depth, most_depth, strict}
use Rattle.ar_syntax.specs.Fault.{fault_of}
use Rattle.ar_syntax.specs.Machine.{ParserState, finished, start_state, parser_step}
use Rattle.ar_syntax.specs.Tokens.{tokens_of}
use Rattle.ar_syntax.specs.declared.error.SyntaxError.{SyntaxError}
use Rattle.ar_syntax.specs.declared.error.SyntaxError.TheVariants.{Unexpected, TooDeep}
use Rattle.ar_syntax.specs.declared.token.Token.{Token}

-- a tree that isn't too deep
abbrev pub limited : Expression → Result Expression SyntaxError
limited tree = if nat_le (depth tree) most_depth then Ok tree else Err (TooDeep 0)

-- where the tokens end at an offset
abbrev pub tree_at_end : Offset → Option Expression → Result Expression SyntaxError
tree_at_end end (Some tree) = limited tree
tree_at_end end None = Err (Unexpected end)

-- the state after one token more, or its refusal
abbrev pub state_after : ParserState → Token → Option ParserState → Result ParserState SyntaxError
state_after state token (Some next) = Ok next
state_after state token None = Err (fault_of state token)

-- the tree of tokens after a state, whose text ends at an offset
abbrev pub walk : Offset → ParserState → List Token → Result Expression SyntaxError
walk end state [] = tree_at_end end (finished state)
walk end state (token ∷ tokens) =
    state_after state token (parser_step strict state token) >>= λ next. walk end next tokens

-- the tree of tokens whose text ends at an offset
unfoldable pub tree_of : Offset → List Token → Result Expression SyntaxError
tree_of end tokens = walk end start_state tokens

-- the tree of a text: its tokens come first, all of them
unfoldable pub parse_of : Text → Result Expression SyntaxError
parse_of text = tokens_of text >>= tree_of (length text)

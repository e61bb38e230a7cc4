-- The name of a fault, found from the state that the machine reached.
use Rattle.std.specs.Prelude.{Bool, true, false, ◌||◌, ◌&&◌, not, if◌then◌else◌, length, Option, Some, None}
use Rattle.ar_value.specs.Terms.{Offset}
use Rattle.ar_syntax.specs.Machine.{ParserState, Want, Have, WantName, WantIndex, HaveText, WantIn, WantGroup, WantArgument, HaveArgument, in_predicate, parser_step}
use Rattle.ar_syntax.specs.Condition.{at_any_depth, of_any_count, of_any_items}
use Rattle.ar_syntax.specs.Roles.{is_body}
use Rattle.ar_syntax.specs.declared.error.SyntaxError.{SyntaxError}
use Rattle.ar_syntax.specs.declared.error.SyntaxError.TheVariants.{Unexpected, UnknownName, WrongCount, ItemOutside, TooManyItems, TooDeep}
use Rattle.ar_syntax.specs.declared.token.Sign.TheVariants.{Hash, Point}
use Rattle.ar_syntax.specs.declared.token.Token.{Token}
use Rattle.ar_syntax.specs.declared.token.TokenKind.{TokenKind}
use Rattle.ar_syntax.specs.declared.token.TokenKind.TheVariants as kinds

abbrev pub accepts : Option ParserState → Bool
accepts (Some state) = true
accepts None = false

-- an operand may come next
abbrev pub wants_operand : ParserState → Bool
wants_operand (Want stack) = true
wants_operand (WantIndex stack at owner) = true
wants_operand (WantArgument stack at function so_far) = true
wants_operand state = false

-- what comes next is inside a predicate
abbrev pub is_inside : ParserState → Bool
is_inside (Want stack) = in_predicate stack
is_inside (Have stack tree) = in_predicate stack
is_inside (WantName stack at owner) = in_predicate stack
is_inside (WantIndex stack at owner) = in_predicate stack
is_inside (HaveText stack at owner text_at text) = in_predicate stack
is_inside (WantIn stack at first) = in_predicate stack
is_inside (WantGroup stack at function) = in_predicate stack
is_inside (WantArgument stack at function so_far) = in_predicate stack || is_body function (length so_far)
is_inside (HaveArgument stack at function arguments) = in_predicate stack

-- the name of a token that no limit alone forbids
abbrev pub kind_fault : Bool → Bool → TokenKind → Offset → SyntaxError
kind_fault wants inside (kinds.Name name) at = if wants then UnknownName at else Unexpected at
kind_fault wants inside (kinds.Sign Hash) at = if inside then Unexpected at else ItemOutside at
kind_fault wants inside (kinds.Sign Point) at = if wants && not inside then ItemOutside at else Unexpected at
kind_fault wants inside kind at = Unexpected at

-- the refusal of a token that the state doesn't accept
unfoldable pub fault_of : ParserState → Token → SyntaxError
fault_of state token =
    if accepts (parser_step of_any_count state token) then WrongCount token.span.start
    else (if accepts (parser_step of_any_items state token) then TooManyItems token.span.start
    else (if accepts (parser_step at_any_depth state token) then TooDeep token.span.start
    else kind_fault (wants_operand state) (is_inside state) token.kind token.span.start))

-- Refusals of conditions: what was found at their byte, what is expected there, and what helps.
use Rattle.std.specs.Prelude.{ℕ, Bool, ◌&&◌, ◌||◌, nat_eq, if◌then◌else◌, [], ◌∷◌, ◌++◌, codes, Option, Some, None, option_and_then, option_map}
use Rattle.std.specs.List.{starts_with}
use Rattle.std.specs.Str.{bytes_eq}
use Rattle.ar_value.specs.Shape.{Shape}
use Rattle.ar_value.specs.Terms.{Text}
use Rattle.ar_check.specs.Refused.{refused_at as kinds_refused_at, type_error_name}
use Rattle.ar_check.specs.declared.error.TypeError.{TypeError}
use Rattle.ar_check.specs.declared.error.TypeError.TheVariants as kinds
use Rattle.ar_check.specs.declared.found.Operands.{Operands}
use Rattle.ar_diagnostic.specs.Diagnostic.{expecting, plain_diagnostic}
use Rattle.ar_diagnostic.specs.declared.diagnostic.Diagnostic.{Diagnostic}
use Rattle.ar_diagnostic.specs.declared.diagnostic.Expected.{Expected}
use Rattle.ar_diagnostic.specs.declared.diagnostic.Expected.TheVariants.{Thing, Rule}
use Rattle.ar_diagnostic.specs.declared.diagnostic.Spot.{Spot}
use Rattle.ar_diagnostic.specs.declared.place.Place.{Place}
use Rattle.ar_judge.specs.declared.error.BuildCause.{BuildCause}
use Rattle.ar_judge.specs.declared.error.BuildCause.TheVariants as causes
use Rattle.ar_quote.specs.Quote.{quoted_round}
use Rattle.ar_quote.specs.Shown.{quoted}
use Rattle.ar_quote.specs.Tokens.{TokenAt, token_at}
use Rattle.ar_safety.specs.Reasons.{reason_name}
use Rattle.ar_safety.specs.declared.error.Reason.{Reason}
use Rattle.ar_safety.specs.declared.error.Reason.TheVariants.{StackTooDeep, BudgetTooLarge}
use Rattle.ar_syntax.specs.Refused.{syntax_error_name, syntax_refused_at}
use Rattle.ar_syntax.specs.declared.error.SyntaxError.{SyntaxError}
use Rattle.ar_syntax.specs.declared.error.SyntaxError.TheVariants as syntax
use Rattle.ar_condition_words.specs.Hints.{syntax_hint}
use Rattle.ar_condition_words.specs.Operands.{are_two, fields_hint, operands_found, refused_operands}

-- ---- where

-- the token at the byte of a refusal
abbrev pub token_in : (condition : Option Text) → (offset : Option ℕ) → Option TokenAt
token_in (Some condition) (Some offset) = token_at offset condition
token_in condition offset = None

-- a byte, and the condition round the token there
abbrev pub spot_at : (offset : ℕ) → Option TokenAt → Spot
spot_at offset here = record { offset = offset; excerpt = option_map quoted_round here }

abbrev pub spot_of : (offset : Option ℕ) → Option TokenAt → Option Spot
spot_of offset here = option_map (λ offset. spot_at offset here) offset

-- ---- the grammar

abbrev pub syntax_expected : SyntaxError → Option Expected
syntax_expected syntax.TooLong = Some (Rule (codes "a condition has at most 4096 bytes"))
syntax_expected (syntax.OpenText at) = Some (Rule (codes "a text ends with the quote that it begins with"))
syntax_expected (syntax.OpenComment at) = Some (Rule (codes "a comment that begins with /* ends with */"))
syntax_expected (syntax.BadEscape at) = Some (Thing (codes "one of \\\\ \\\" \\' \\n \\r \\t"))
syntax_expected (syntax.LiteralTooFine at) = Some (Rule (codes "a decimal has at most six digits after the point"))
syntax_expected (syntax.NumberTooLarge at) =
    Some (Thing (codes "at most 9223372036854775807, or 9223372036854.775807 with a point"))
syntax_expected (syntax.WrongCount at) =
    Some (Rule (codes "len and isNil take one argument, default and calls with predicates two"))
syntax_expected (syntax.ItemOutside at) =
    Some (Rule (codes "# is for the predicate of all, any, none, one, count or filter alone"))
syntax_expected (syntax.TooManyItems at) = Some (Rule (codes "a list has at most 16 items"))
syntax_expected (syntax.TooDeep at) =
    Some (Rule (codes "at most 64 levels may be open at once, and a tree has at most 64"))
syntax_expected error = None

abbrev pub unexpected : (token : Text) → Text
unexpected [] = codes "the condition ends too early"
unexpected (byte ∷ token) = codes "no condition continues so"

abbrev pub unexpected_at : Option TokenAt → Text
unexpected_at None = codes "no condition continues so"
unexpected_at (Some here) = unexpected here.token

abbrev pub syntax_found : SyntaxError → Option TokenAt → Option Text
syntax_found (syntax.BadCharacter at) here = Some (codes "no word, number, text or sign has this byte here")
syntax_found (syntax.Unexpected at) here = Some (unexpected_at here)
syntax_found (syntax.UnknownName at) here = Some (codes "no word of the language")
syntax_found error here = None

-- a condition that is too long isn't quoted
abbrev pub syntax_token : (condition : Option Text) → SyntaxError → Option TokenAt
syntax_token condition syntax.TooLong = None
syntax_token condition error = token_in condition (syntax_refused_at error)

unfoldable pub syntax_with : Place → SyntaxError → Option TokenAt → Diagnostic
syntax_with place error here =
    record (plain_diagnostic place (syntax_error_name error)) {
      spot = spot_of (syntax_refused_at error) here;
      found = syntax_found error here;
      expected = syntax_expected error;
      hint = option_and_then (syntax_hint error) here;
    }

-- ---- kinds

abbrev pub takes_numbers : (token : Text) → Bool
takes_numbers token =
    bytes_eq token (codes "+") || bytes_eq token (codes "-") || bytes_eq token (codes "*") || bytes_eq token (codes "/")
    || bytes_eq token (codes "<") || bytes_eq token (codes "<=") || bytes_eq token (codes ">")
    || bytes_eq token (codes ">=")

abbrev pub takes_texts : (token : Text) → Bool
takes_texts token =
    bytes_eq token (codes "contains") || bytes_eq token (codes "startsWith") || bytes_eq token (codes "endsWith")

-- `in`, or `not` before it, which has two operands
abbrev pub is_membership : (token : Text) → Option Operands → Bool
is_membership token operands = bytes_eq token (codes "in") || bytes_eq token (codes "not") && are_two operands

abbrev pub takes_alike : (token : Text) → Option Operands → Bool
takes_alike token operands = bytes_eq token (codes "==") || bytes_eq token (codes "!=") || is_membership token operands

abbrev pub has_predicate : (token : Text) → Bool
has_predicate token =
    bytes_eq token (codes "all") || bytes_eq token (codes "any") || bytes_eq token (codes "none")
    || bytes_eq token (codes "one")
    || bytes_eq token (codes "count") || bytes_eq token (codes "filter")

abbrev pub is_field : (token : Text) → Bool
is_field token = starts_with nat_eq token (codes ".")

-- what an operator takes
abbrev pub taken : (token : Text) → Option Operands → Text
taken token operands =
    if takes_numbers token then codes "\"whole\" or \"decimal\" alone"
    else (if takes_alike token operands then codes "numbers, \"bool\" or \"text\" on both sides"
    else (if takes_texts token then codes "\"text\" alone"
    else (if bytes_eq token (codes "%") then codes "\"whole\" alone"
    else (if bytes_eq token (codes "[") then codes "a \"whole\" after a list, a name after a record"
    else (if is_field token then codes "a record"
    else (if has_predicate token then codes "\"bool\" as its predicate"
    else codes "\"bool\" alone"))))))

abbrev pub operator_rule : Option Operands → TokenAt → Text
operator_rule operands here = quoted here.token ++ (codes " takes " ++ taken here.token operands)

abbrev pub operands_at_token : Option TokenAt → Option Operands → Option Text
operands_at_token (Some here) (Some operands) =
    Some (operands_found (is_membership here.token (Some operands)) operands)
operands_at_token here operands = None

abbrev pub kinds_expected : TypeError → Option TokenAt → Option Operands → Option Expected
kinds_expected (kinds.WrongOperand at) here operands = option_map (λ here. Rule (operator_rule operands here)) here
kinds_expected (kinds.NotAList at) here operands =
    Some (Thing (codes "a list, as {\"list\":shape,\"max\":number} declares"))
kinds_expected (kinds.NoCommonKind at) here operands =
    Some (Thing (codes "one shape for all; \"whole\" and \"decimal\" have \"decimal\""))
kinds_expected (kinds.NotScalar at) here operands =
    Some (Thing (codes "\"bool\", \"whole\", \"decimal\" or \"text\" as an item of a list"))
kinds_expected (kinds.NotTruth at) here operands =
    Some (Thing (codes "\"bool\" of the whole condition, as `result >= 0.95` gives"))
kinds_expected (kinds.PredicatesTooDeep at) here operands =
    Some (Thing (codes "at most four of all, any, none, one, count and filter in one another"))
kinds_expected error here operands = None

abbrev pub kinds_found : TypeError → Option TokenAt → Option Operands → Option Text
kinds_found (kinds.WrongOperand at) here operands = operands_at_token here operands
kinds_found (kinds.NoSuchField at) here operands = Some (codes "the record has no such field")
kinds_found error here operands = None

abbrev pub kinds_hint : TypeError → Option Operands → Option Text
kinds_hint (kinds.NoSuchField at) operands = fields_hint operands
kinds_hint error operands = None

unfoldable pub kinds_with : Place → TypeError → Option TokenAt → Option Operands → Diagnostic
kinds_with place error here operands =
    record (plain_diagnostic place (type_error_name error)) {
      spot = spot_of (kinds_refused_at error) here;
      found = kinds_found error here operands;
      expected = kinds_expected error here operands;
      hint = kinds_hint error operands;
    }

-- ---- code

-- compiled code is refused for its size alone
unfoldable pub code_diagnostic : Place → Reason → Diagnostic
code_diagnostic place StackTooDeep = expecting place (reason_name StackTooDeep) (codes "at most 64 operands")
code_diagnostic place BudgetTooLarge =
    record (plain_diagnostic place (reason_name BudgetTooLarge)) {
      found = Some (codes "a run may cost over 1000000000");
      hint = Some (codes "lower a list's max or nest fewer predicates");
    }
code_diagnostic place reason = plain_diagnostic place (reason_name reason)

unfoldable pub length_diagnostic : Place → Diagnostic
length_diagnostic place =
    record (expecting place (codes "TooManyOps") (codes "a condition of at most 4096 operations")) {
      hint = Some (codes "split it, or nest fewer calls and operators");
    }

-- ---- a condition

-- a condition where `result` has a shape
unfoldable pub condition_diagnostic : Place → Option Shape → (condition : Option Text) → BuildCause → Diagnostic
condition_diagnostic place shape condition (causes.Grammar error) =
    syntax_with place error (syntax_token condition error)
condition_diagnostic place shape condition (causes.Kinds error) =
    kinds_with place error (token_in condition (kinds_refused_at error)) (refused_operands shape condition error)
condition_diagnostic place shape condition (causes.Compiler error) = length_diagnostic place
condition_diagnostic place shape condition (causes.Verifier index reason) = code_diagnostic place reason
condition_diagnostic place shape condition causes.OutOfMemory = plain_diagnostic place (codes "OutOfMemory")

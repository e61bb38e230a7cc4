-- What a token can be where an operand is expected, and after an operand.
use Rattle.std.specs.Prelude.{ℕ, Bool, true, false, nat_eq, List, [], ◌∷◌, Option, Some, None}
use Rattle.ar_value.specs.Terms.{Offset, Text}
use Rattle.ar_tree.specs.Expression.{Expression, ResultAt, ItemAt, LiteralAt, LenAt, IsNilAt, DefaultAt, PredicateAt}
use Rattle.ar_syntax.specs.Token.{letters}
pub use Rattle.ar_syntax.specs.declared.role.Call.{Call}
pub use Rattle.ar_syntax.specs.declared.role.Call.TheVariants.{Len, IsNil, Default, Over}
pub use Rattle.ar_syntax.specs.declared.role.Ender.{Ender}
pub use Rattle.ar_syntax.specs.declared.role.Ender.TheVariants.{Comma, Colon, EndGroup, EndBracket, EndBrace}
pub use Rattle.ar_syntax.specs.declared.role.Follow.{Follow}
pub use Rattle.ar_syntax.specs.declared.role.Follow.TheVariants.{Operator, NotOf, Choose, Select, Open, Ends, NoFollow}
use Rattle.ar_syntax.specs.declared.token.Sign.{Sign}
use Rattle.ar_syntax.specs.declared.token.Sign.TheVariants as signs
use Rattle.ar_syntax.specs.declared.token.Token.{Token}
use Rattle.ar_syntax.specs.declared.token.TokenKind.{TokenKind}
use Rattle.ar_syntax.specs.declared.token.TokenKind.TheVariants as kinds
use Rattle.ar_syntax.specs.declared.token.Word.{Word}
use Rattle.ar_syntax.specs.declared.token.Word.TheVariants as words
use Rattle.ar_tree.specs.declared.tree.Binary.{Binary}
use Rattle.ar_tree.specs.declared.tree.Binary.TheVariants as binaries
use Rattle.ar_tree.specs.declared.tree.Literal.TheVariants as literals
use Rattle.ar_tree.specs.declared.tree.Unary.{Unary}
use Rattle.ar_tree.specs.declared.tree.Unary.TheVariants as unaries

-- ---- calls

-- how many arguments a call has
abbrev pub arity : Call → ℕ
arity Len = 1
arity IsNil = 1
arity Default = 2
arity (Over predicate) = 2

-- the argument after n others is a predicate
abbrev pub is_body : Call → ℕ → Bool
is_body (Over predicate) before = nat_eq before 1
is_body call before = false

-- the tree of a call; with another number of arguments, which only rules without that limit allow, it is nil
abbrev pub called : Offset → Call → List Expression → Expression
called at Len (list ∷ []) = LenAt at list
called at IsNil (operand ∷ []) = IsNilAt at operand
called at Default (operand ∷ otherwise ∷ []) = DefaultAt at operand otherwise
called at (Over predicate) (list ∷ body ∷ []) = PredicateAt at predicate list body
called at call arguments = LiteralAt at literals.Nil

-- ---- where an operand is expected

pub data Start : Type 0 where
  Leaf : Expression → Start
  Prefix : Unary → Start
  Group : Start
  Bracket : Start
  Calls : Call → Start
  ItemPoint : Start
  NoStart : Start

abbrev pub word_start : Offset → Word → Start
word_start at words.Result = Leaf (ResultAt at)
word_start at words.True = Leaf (LiteralAt at (literals.Bool true))
word_start at words.False = Leaf (LiteralAt at (literals.Bool false))
word_start at words.Nil = Leaf (LiteralAt at literals.Nil)
word_start at words.Not = Prefix unaries.Not
word_start at words.Len = Calls Len
word_start at words.IsNil = Calls IsNil
word_start at words.Default = Calls Default
word_start at (words.Over predicate) = Calls (Over predicate)
word_start at words.And = NoStart
word_start at words.Or = NoStart
word_start at words.In = NoStart
word_start at (words.Test test) = NoStart

-- `#`, and a point for its field, appear inside predicates
abbrev pub sign_start : Bool → Offset → Sign → Start
sign_start inside at signs.Minus = Prefix unaries.Minus
sign_start inside at signs.Plus = Prefix unaries.Plus
sign_start inside at signs.Not = Prefix unaries.Not
sign_start inside at signs.OpenParenthesis = Group
sign_start inside at signs.OpenBracket = Bracket
sign_start true at signs.Hash = Leaf (ItemAt at)
sign_start true at signs.Point = ItemPoint
sign_start inside at sign = NoStart

abbrev pub kind_start : Bool → Offset → TokenKind → Start
kind_start inside at (kinds.Word word) = word_start at word
kind_start inside at (kinds.Name name) = NoStart
kind_start inside at (kinds.Whole value) = Leaf (LiteralAt at (literals.Whole value))
kind_start inside at (kinds.Decimal millionths) = Leaf (LiteralAt at (literals.Decimal millionths))
kind_start inside at (kinds.Text text) = Leaf (LiteralAt at (literals.Text text))
kind_start inside at (kinds.Sign sign) = sign_start inside at sign

-- what a token begins where an operand is expected, inside a predicate or not
unfoldable pub begun_by : Bool → Token → Start
begun_by inside token = kind_start inside token.span.start token.kind

-- ---- after an operand

abbrev pub word_follow : Word → Follow
word_follow words.Or = Operator binaries.Or
word_follow words.And = Operator binaries.And
word_follow words.In = Operator binaries.In
word_follow (words.Test test) = Operator (binaries.TextTest test)
word_follow words.Not = NotOf
word_follow words.Result = NoFollow
word_follow words.True = NoFollow
word_follow words.False = NoFollow
word_follow words.Nil = NoFollow
word_follow words.Len = NoFollow
word_follow words.IsNil = NoFollow
word_follow words.Default = NoFollow
word_follow (words.Over predicate) = NoFollow

abbrev pub sign_follow : Sign → Follow
sign_follow (signs.Comparison comparison) = Operator (binaries.Comparison comparison)
sign_follow signs.Or = Operator binaries.Or
sign_follow signs.And = Operator binaries.And
sign_follow signs.Plus = Operator binaries.Add
sign_follow signs.Minus = Operator binaries.Subtract
sign_follow signs.Star = Operator binaries.Multiply
sign_follow signs.Slash = Operator binaries.Divide
sign_follow signs.Percent = Operator binaries.Remainder
sign_follow signs.Question = Choose
sign_follow signs.Point = Select
sign_follow signs.OpenBracket = Open
sign_follow signs.Comma = Ends Comma
sign_follow signs.Colon = Ends Colon
sign_follow signs.CloseParenthesis = Ends EndGroup
sign_follow signs.CloseBracket = Ends EndBracket
sign_follow signs.CloseBrace = Ends EndBrace
sign_follow sign = NoFollow

abbrev pub kind_follow : TokenKind → Follow
kind_follow (kinds.Word word) = word_follow word
kind_follow (kinds.Sign sign) = sign_follow sign
kind_follow kind = NoFollow

-- what a token is after an operand
unfoldable pub follows : Token → Follow
follows token = kind_follow token.kind

-- how many levels of operators bind tighter than this one: 0 for `*`, 1 for `+`, 2 for `==`, `in` and `contains`, 3 for
-- `and`, 4 for `or`
abbrev pub precedence : Binary → ℕ
precedence binaries.Or = 4
precedence binaries.And = 3
precedence (binaries.Comparison comparison) = 2
precedence binaries.In = 2
precedence binaries.NotIn = 2
precedence (binaries.TextTest test) = 2
precedence binaries.Add = 1
precedence binaries.Subtract = 1
precedence binaries.Multiply = 0
precedence binaries.Divide = 0
precedence binaries.Remainder = 0

-- ---- elsewhere

-- after a point every word is a name
abbrev pub kind_name : TokenKind → Option Text
kind_name (kinds.Word word) = Some (letters word)
kind_name (kinds.Name name) = Some name
kind_name kind = None

unfoldable pub field_name_of : Token → Option Text
field_name_of token = kind_name token.kind

abbrev pub kind_text : TokenKind → Option Text
kind_text (kinds.Text text) = Some text
kind_text kind = None

unfoldable pub literal_text : Token → Option Text
literal_text token = kind_text token.kind

abbrev pub kind_is_in : TokenKind → Bool
kind_is_in (kinds.Word words.In) = true
kind_is_in kind = false

unfoldable pub is_in : Token → Bool
is_in token = kind_is_in token.kind

abbrev pub kind_is_group : TokenKind → Bool
kind_is_group (kinds.Sign signs.OpenParenthesis) = true
kind_is_group kind = false

unfoldable pub is_group : Token → Bool
is_group token = kind_is_group token.kind

abbrev pub kind_is_brace : TokenKind → Bool
kind_is_brace (kinds.Sign signs.OpenBrace) = true
kind_is_brace kind = false

unfoldable pub is_brace : Token → Bool
is_brace token = kind_is_brace token.kind

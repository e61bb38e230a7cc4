-- The kinds of the tokens of a part's shown text, in order, without their places.
use Rattle.std.specs.Prelude.{◌≡◌, refl, pos, Bool, true, false, ◌||◌, if◌then◌else◌, List, [], ◌∷◌, ◌++◌, codes}
use Rattle.ar_value.specs.Terms.{Text}
use Rattle.ar_value.specs.declared.operator.Arithmetic.{Arithmetic}
use Rattle.ar_value.specs.declared.operator.Arithmetic.TheVariants as wholes
use Rattle.ar_value.specs.declared.operator.BinaryOperator.{BinaryOperator}
use Rattle.ar_value.specs.declared.operator.BinaryOperator.TheVariants as binary
use Rattle.ar_value.specs.declared.operator.Compared.TheVariants.{Wholes}
use Rattle.ar_value.specs.declared.operator.DecimalArithmetic.{DecimalArithmetic}
use Rattle.ar_value.specs.declared.operator.DecimalArithmetic.TheVariants as decimals
use Rattle.ar_value.specs.declared.operator.Order.{Order}
use Rattle.ar_value.specs.declared.operator.Order.TheVariants as orders
use Rattle.ar_value.specs.declared.operator.UnaryOperator.{UnaryOperator}
use Rattle.ar_value.specs.declared.operator.UnaryOperator.TheVariants as unary
use Rattle.ar_tree.specs.Typed.{Typed, Typeds}
use Rattle.ar_tree.specs.Typed as typed
use Rattle.ar_tree.specs.declared.tree.Comparison.{Comparison}
use Rattle.ar_tree.specs.declared.tree.Comparison.TheVariants as comparisons
use Rattle.ar_tree.specs.declared.tree.Literal.{Literal}
use Rattle.ar_tree.specs.declared.tree.Literal.TheVariants as literals
use Rattle.ar_syntax.specs.Token.{word_of, word_or_name}
use Rattle.ar_syntax.specs.declared.token.Sign.{Sign}
use Rattle.ar_syntax.specs.declared.token.Sign.TheVariants as signs
use Rattle.ar_syntax.specs.declared.token.Token.{Token}
use Rattle.ar_syntax.specs.declared.token.TokenKind.{TokenKind}
use Rattle.ar_syntax.specs.declared.token.TokenKind.TheVariants as kinds
use Rattle.ar_syntax.specs.declared.token.Word.{Word}
use Rattle.ar_syntax.specs.declared.token.Word.TheVariants as words
use Rattle.ar_show.specs.PartText.{has_sides, has_sign, is_word}

-- ---- words and signs

abbrev pub sign : Sign → TokenKind
sign it = kinds.Sign it

abbrev pub word : Word → TokenKind
word it = kinds.Word it

abbrev pub boolean_token : Bool → TokenKind
boolean_token true = word words.True
boolean_token false = word words.False

abbrev pub literal_token : Literal → TokenKind
literal_token literals.Nil = word words.Nil
literal_token (literals.Bool boolean) = boolean_token boolean
literal_token (literals.Whole whole) = kinds.Whole whole
literal_token (literals.Decimal millionths) = kinds.Decimal millionths
literal_token (literals.Text text) = kinds.Text text

abbrev pub arithmetic_token : Arithmetic → TokenKind
arithmetic_token wholes.Add = sign signs.Plus
arithmetic_token wholes.Subtract = sign signs.Minus
arithmetic_token wholes.Multiply = sign signs.Star
arithmetic_token wholes.Divide = sign signs.Slash
arithmetic_token wholes.Remainder = sign signs.Percent

abbrev pub decimal_token : DecimalArithmetic → TokenKind
decimal_token decimals.Add = sign signs.Plus
decimal_token decimals.Subtract = sign signs.Minus
decimal_token decimals.Multiply = sign signs.Star
decimal_token decimals.Divide = sign signs.Slash

abbrev pub written_order : Order → Comparison
written_order orders.Less = comparisons.Less
written_order orders.LessOrEqual = comparisons.LessOrEqual
written_order orders.Greater = comparisons.Greater
written_order orders.GreaterOrEqual = comparisons.GreaterOrEqual

-- a field's name, after its owner
abbrev pub field_kinds : (name : Text) → List TokenKind
field_kinds name =
    if is_word name then sign signs.Point ∷ word_or_name name (word_of name) ∷ []
    else sign signs.OpenBracket ∷ kinds.Text name ∷ sign signs.CloseBracket ∷ []

-- ---- operands, where the kinds of each are already known

abbrev pub kinds_in_parentheses : (needed : Bool) → List TokenKind → List TokenKind
kinds_in_parentheses needed inner =
    if needed then sign signs.OpenParenthesis ∷ (inner ++ sign signs.CloseParenthesis ∷ []) else inner

abbrev pub operand_kinds : Typed → List TokenKind → List TokenKind
operand_kinds part inner = kinds_in_parentheses (has_sides part) inner

-- before a field's name or an index
abbrev pub owner_kinds : Typed → List TokenKind → List TokenKind
owner_kinds part inner = kinds_in_parentheses (has_sides part || has_sign part) inner

-- two sides with an operator between them
abbrev pub sided_kinds : TokenKind → (left right : Typed) → (left_kinds right_kinds : List TokenKind) → List TokenKind
sided_kinds between left right left_kinds right_kinds =
    operand_kinds left left_kinds ++ between ∷ operand_kinds right right_kinds

-- what comes after a call's name
abbrev pub argument_kinds : List TokenKind → List TokenKind
argument_kinds inner = sign signs.OpenParenthesis ∷ (inner ++ sign signs.CloseParenthesis ∷ [])

abbrev pub arguments_kinds : (first second : List TokenKind) → List TokenKind
arguments_kinds first second =
    sign signs.OpenParenthesis ∷ (first ++ sign signs.Comma ∷ (second ++ sign signs.CloseParenthesis ∷ []))

abbrev pub unary_kinds : UnaryOperator → Typed → List TokenKind → List TokenKind
unary_kinds unary.Need operand inner = inner
unary_kinds unary.ToDecimal operand inner = inner
unary_kinds unary.Len operand inner = word words.Len ∷ argument_kinds inner
unary_kinds unary.IsNil operand inner = word words.IsNil ∷ argument_kinds inner
unary_kinds unary.Not operand inner = sign signs.Not ∷ operand_kinds operand inner
unary_kinds (unary.Negate of) operand inner = sign signs.Minus ∷ operand_kinds operand inner

abbrev pub binary_kinds : BinaryOperator → (left right : Typed) → (left_kinds right_kinds : List TokenKind)
    → List TokenKind
binary_kinds binary.Index left right left_kinds right_kinds =
    owner_kinds left left_kinds ++ sign signs.OpenBracket ∷ (right_kinds ++ sign signs.CloseBracket ∷ [])
binary_kinds binary.Default left right left_kinds right_kinds =
    word words.Default ∷ arguments_kinds left_kinds right_kinds
binary_kinds binary.IsIn left right left_kinds right_kinds =
    sided_kinds (word words.In) left right left_kinds right_kinds
binary_kinds (binary.Wholes operator) left right left_kinds right_kinds =
    sided_kinds (arithmetic_token operator) left right left_kinds right_kinds
binary_kinds (binary.Decimals operator) left right left_kinds right_kinds =
    sided_kinds (decimal_token operator) left right left_kinds right_kinds
binary_kinds (binary.Compare of way) left right left_kinds right_kinds =
    sided_kinds (sign (signs.Comparison (written_order way))) left right left_kinds right_kinds
binary_kinds (binary.Equal family) left right left_kinds right_kinds =
    sided_kinds (sign (signs.Comparison comparisons.Equal)) left right left_kinds right_kinds
binary_kinds (binary.TextTest test) left right left_kinds right_kinds =
    sided_kinds (word (words.Test test)) left right left_kinds right_kinds

-- what comes before an item of a list: nothing before the first one
abbrev pub comma_kinds : (first : Bool) → List TokenKind
comma_kinds first = if first then [] else sign signs.Comma ∷ []

-- ---- a part

abbrev mutual
  pub part_kinds : Typed → List TokenKind
  part_kinds typed.result = word words.Result ∷ []
  part_kinds typed.item = sign signs.Hash ∷ []
  part_kinds (typed.literal literal) = literal_token literal ∷ []
  part_kinds (typed.field whole name) = owner_kinds whole (part_kinds whole) ++ field_kinds name
  part_kinds (typed.unary operator operand) = unary_kinds operator operand (part_kinds operand)
  part_kinds (typed.binary operator left right) =
      binary_kinds operator left right (part_kinds left) (part_kinds right)
  part_kinds (typed.both left right) =
      sided_kinds (word words.And) left right (part_kinds left) (part_kinds right)
  part_kinds (typed.either left right) =
      sided_kinds (word words.Or) left right (part_kinds left) (part_kinds right)
  part_kinds (typed.choice condition then_branch else_branch) =
      sided_kinds (sign signs.Question) condition then_branch (part_kinds condition) (part_kinds then_branch)
      ++ sign signs.Colon ∷ operand_kinds else_branch (part_kinds else_branch)
  part_kinds (typed.listed scalar items) =
      sign signs.OpenBracket ∷ (items_kinds true items ++ sign signs.CloseBracket ∷ [])
  part_kinds (typed.predicate predicate list body) =
      word (words.Over predicate) ∷ arguments_kinds (part_kinds list) (part_kinds body)

  -- the items of a list; `first`: no item comes before these
  pub items_kinds : (first : Bool) → Typeds → List TokenKind
  items_kinds first typed.none = []
  items_kinds first (typed.more part others) = comma_kinds first ++ (part_kinds part ++ items_kinds false others)

-- tokens begin with tokens of these kinds, and the rest comes after them
pub data HaveKinds : List TokenKind → (tokens rest : List Token) → Type 0 where
  no_token : {rest : List Token} → HaveKinds [] rest rest
  a_token : {kind : TokenKind} {others : List TokenKind} {token : Token} {tokens rest : List Token}
      → token.kind ≡ kind → HaveKinds others tokens rest → HaveKinds (kind ∷ others) (token ∷ tokens) rest

-- ---- worked rows

whole_literal : Typed
whole_literal = typed.literal (literals.Whole (pos 1))

a_sum_in_parentheses : part_kinds (typed.binary (binary.Compare Wholes orders.Greater)
    (typed.unary unary.Need (typed.binary (binary.Wholes wholes.Add) typed.result whole_literal)) whole_literal)
    ≡ sign signs.OpenParenthesis ∷ word words.Result ∷ sign signs.Plus ∷ kinds.Whole (pos 1)
    ∷ sign signs.CloseParenthesis ∷ sign (signs.Comparison comparisons.Greater) ∷ kinds.Whole (pos 1) ∷ []
unfolding whole_literal
a_sum_in_parentheses = refl

names : part_kinds (typed.field (typed.field typed.result (codes "rates")) (codes "p 95"))
    ≡ word words.Result ∷ sign signs.Point ∷ kinds.Name (codes "rates")
    ∷ sign signs.OpenBracket ∷ kinds.Text (codes "p 95") ∷ sign signs.CloseBracket ∷ []
unfolding word_of
names = refl

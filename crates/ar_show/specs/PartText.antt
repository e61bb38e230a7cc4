-- How a part of a condition is shown to a person: in the language of conditions, with parentheses round each operand
-- that is an operator with two sides, so that nobody has to know which of these binds tighter. A side with a sign
-- before it has none: `!a == b` is `(!a) == b`. Conditions take neither characters shown by their code, as control
-- characters are (`\u001b`), nor texts and names cut after 64 characters.
use Rattle.std.specs.Prelude.{◌≡◌, refl, pos, negsuc, ℕ, Bool, true, false, ◌&&◌, ◌||◌, not, if◌then◌else◌, List, [], ◌∷◌, ◌++◌, codes}
use Rattle.std.specs.Char.{is_ascii_digit}
use Rattle.std.specs.Fmt.{digits, signed_decimal}
use Rattle.std.specs.Int.{is_negative}
use Rattle.std.specs.List.{list_all}
use Rattle.std.specs.Str.{chars}
use Rattle.ar_value.specs.DecimalShown.{decimal_text}
use Rattle.ar_value.specs.Terms.{Text}
use Rattle.ar_value.specs.declared.operator.Arithmetic.{Arithmetic}
use Rattle.ar_value.specs.declared.operator.Arithmetic.TheVariants as wholes
use Rattle.ar_value.specs.declared.operator.BinaryOperator.{BinaryOperator}
use Rattle.ar_value.specs.declared.operator.BinaryOperator.TheVariants as binary
use Rattle.ar_value.specs.declared.operator.Compared.TheVariants.{Wholes}
use Rattle.ar_value.specs.declared.operator.DecimalArithmetic.{DecimalArithmetic}
use Rattle.ar_value.specs.declared.operator.DecimalArithmetic.TheVariants as decimals
use Rattle.ar_value.specs.declared.operator.Numbers.TheVariants as numbers
use Rattle.ar_value.specs.declared.operator.Order.{Order}
use Rattle.ar_value.specs.declared.operator.Order.TheVariants.{Less, LessOrEqual, Greater, GreaterOrEqual}
use Rattle.ar_value.specs.declared.operator.Predicate.{Predicate}
use Rattle.ar_value.specs.declared.operator.Predicate.TheVariants as predicates
use Rattle.ar_value.specs.declared.operator.TextTest.{TextTest}
use Rattle.ar_value.specs.declared.operator.TextTest.TheVariants.{Contains, StartsWith, EndsWith}
use Rattle.ar_value.specs.declared.operator.UnaryOperator.{UnaryOperator}
use Rattle.ar_value.specs.declared.operator.UnaryOperator.TheVariants as unary
use Rattle.ar_tree.specs.Typed.{Typed, Typeds}
use Rattle.ar_tree.specs.Typed as typed
use Rattle.ar_tree.specs.declared.tree.Literal.{Literal}
use Rattle.ar_tree.specs.declared.tree.Literal.TheVariants as literals
use Rattle.ar_quote.specs.Shown.{quoted}
use Rattle.ar_quote.specs.Tokens.{is_of_word}
use Rattle.ar_show.specs.Words.{between, boolean_text}

-- ---- words and signs

abbrev pub shown_literal : Literal → List ℕ
shown_literal literals.Nil = codes "nil"
shown_literal (literals.Bool boolean) = boolean_text boolean
shown_literal (literals.Whole whole) = signed_decimal whole
shown_literal (literals.Decimal millionths) = decimal_text millionths
shown_literal (literals.Text text) = quoted text

abbrev pub arithmetic_sign : Arithmetic → List ℕ
arithmetic_sign wholes.Add = codes "+"
arithmetic_sign wholes.Subtract = codes "-"
arithmetic_sign wholes.Multiply = codes "*"
arithmetic_sign wholes.Divide = codes "/"
arithmetic_sign wholes.Remainder = codes "%"

abbrev pub decimal_sign : DecimalArithmetic → List ℕ
decimal_sign decimals.Add = codes "+"
decimal_sign decimals.Subtract = codes "-"
decimal_sign decimals.Multiply = codes "*"
decimal_sign decimals.Divide = codes "/"

abbrev pub order_sign : Order → List ℕ
order_sign Less = codes "<"
order_sign LessOrEqual = codes "<="
order_sign Greater = codes ">"
order_sign GreaterOrEqual = codes ">="

abbrev pub test_word : TextTest → List ℕ
test_word Contains = codes "contains"
test_word StartsWith = codes "startsWith"
test_word EndsWith = codes "endsWith"

abbrev pub predicate_word : Predicate → List ℕ
predicate_word predicates.All = codes "all"
predicate_word predicates.Any = codes "any"
predicate_word predicates.None = codes "none"
predicate_word predicates.One = codes "one"
predicate_word predicates.Count = codes "count"
predicate_word predicates.Filter = codes "filter"

-- an ASCII letter or `_`, and letters, digits and `_` after it
abbrev pub is_word : Text → Bool
is_word [] = false
is_word (first ∷ others) = (is_of_word first && not (is_ascii_digit first)) && list_all is_of_word others

-- a field's name, after its owner
abbrev pub field_text : (name : Text) → List ℕ
field_text name = if is_word name then codes "." ++ name else codes "[" ++ (quoted name ++ codes "]")

-- ---- parentheses

-- `Need` and `ToDecimal` aren't shown, but their operand is
abbrev pub is_hidden : UnaryOperator → Bool
is_hidden unary.Need = true
is_hidden unary.ToDecimal = true
is_hidden unary.Len = false
is_hidden unary.IsNil = false
is_hidden unary.Not = false
is_hidden (unary.Negate of) = false

-- it is a sign before its operand
abbrev pub is_sign : UnaryOperator → Bool
is_sign unary.Need = false
is_sign unary.ToDecimal = false
is_sign unary.Len = false
is_sign unary.IsNil = false
is_sign unary.Not = true
is_sign (unary.Negate of) = true

-- it is shown between its operands
abbrev pub is_infix : BinaryOperator → Bool
is_infix binary.Index = false
is_infix binary.Default = false
is_infix binary.IsIn = true
is_infix (binary.Wholes operator) = true
is_infix (binary.Decimals operator) = true
is_infix (binary.Compare of way) = true
is_infix (binary.Equal family) = true
is_infix (binary.TextTest test) = true

-- it is shown as an operator with two sides, or as a choice
abbrev pub has_sides : Typed → Bool
has_sides typed.result = false
has_sides typed.item = false
has_sides (typed.literal literal) = false
has_sides (typed.field whole name) = false
has_sides (typed.unary operator operand) = is_hidden operator && has_sides operand
has_sides (typed.binary operator left right) = is_infix operator
has_sides (typed.both left right) = true
has_sides (typed.either left right) = true
has_sides (typed.choice condition then_branch else_branch) = true
has_sides (typed.listed scalar items) = false
has_sides (typed.predicate predicate list body) = false

abbrev pub is_below_zero : Literal → Bool
is_below_zero literals.Nil = false
is_below_zero (literals.Bool boolean) = false
is_below_zero (literals.Whole whole) = is_negative whole
is_below_zero (literals.Decimal millionths) = is_negative millionths
is_below_zero (literals.Text text) = false

-- it is shown with a sign before it
abbrev pub has_sign : Typed → Bool
has_sign typed.result = false
has_sign typed.item = false
has_sign (typed.literal literal) = is_below_zero literal
has_sign (typed.field whole name) = false
has_sign (typed.unary operator operand) = is_sign operator || (is_hidden operator && has_sign operand)
has_sign (typed.binary operator left right) = false
has_sign (typed.both left right) = false
has_sign (typed.either left right) = false
has_sign (typed.choice condition then_branch else_branch) = false
has_sign (typed.listed scalar items) = false
has_sign (typed.predicate predicate list body) = false

abbrev pub in_parentheses : (needed : Bool) → (text : List ℕ) → List ℕ
in_parentheses needed text = if needed then codes "(" ++ (text ++ codes ")") else text

-- ---- operands, where the text of each is already known

abbrev pub operand_text : Typed → (text : List ℕ) → List ℕ
operand_text part text = in_parentheses (has_sides part) text

-- before a field's name or an index
abbrev pub owner_text : Typed → (text : List ℕ) → List ℕ
owner_text part text = in_parentheses (has_sides part || has_sign part) text

-- after the left side
abbrev pub side_text : (word : List ℕ) → (right : Typed) → (text : List ℕ) → List ℕ
side_text word right text = codes " " ++ (word ++ (codes " " ++ operand_text right text))

-- the second and last argument of a call
abbrev pub last_text : (text : List ℕ) → List ℕ
last_text text = codes ", " ++ (text ++ codes ")")

abbrev pub unary_text : UnaryOperator → Typed → (text : List ℕ) → List ℕ
unary_text unary.Need operand text = text
unary_text unary.ToDecimal operand text = text
unary_text unary.Len operand text = codes "len(" ++ (text ++ codes ")")
unary_text unary.IsNil operand text = codes "isNil(" ++ (text ++ codes ")")
unary_text unary.Not operand text = codes "!" ++ operand_text operand text
unary_text (unary.Negate of) operand text = codes "-" ++ operand_text operand text

abbrev pub binary_text : BinaryOperator → (left right : Typed) → (left_text right_text : List ℕ) → List ℕ
binary_text binary.Index left right left_text right_text =
    owner_text left left_text ++ (codes "[" ++ (right_text ++ codes "]"))
binary_text binary.Default left right left_text right_text = codes "default(" ++ (left_text ++ last_text right_text)
binary_text binary.IsIn left right left_text right_text =
    operand_text left left_text ++ side_text (codes "in") right right_text
binary_text (binary.Wholes operator) left right left_text right_text =
    operand_text left left_text ++ side_text (arithmetic_sign operator) right right_text
binary_text (binary.Decimals operator) left right left_text right_text =
    operand_text left left_text ++ side_text (decimal_sign operator) right right_text
binary_text (binary.Compare of way) left right left_text right_text =
    operand_text left left_text ++ side_text (order_sign way) right right_text
binary_text (binary.Equal family) left right left_text right_text =
    operand_text left left_text ++ side_text (codes "==") right right_text
binary_text (binary.TextTest test) left right left_text right_text =
    operand_text left left_text ++ side_text (test_word test) right right_text

-- ---- the text of a part

abbrev mutual
  pub shown_part : Typed → List ℕ
  shown_part typed.result = codes "result"
  shown_part typed.item = codes "#"
  shown_part (typed.literal literal) = shown_literal literal
  shown_part (typed.field whole name) = owner_text whole (shown_part whole) ++ field_text name
  shown_part (typed.unary operator operand) = unary_text operator operand (shown_part operand)
  shown_part (typed.binary operator left right) =
      binary_text operator left right (shown_part left) (shown_part right)
  shown_part (typed.both left right) =
      operand_text left (shown_part left) ++ side_text (codes "and") right (shown_part right)
  shown_part (typed.either left right) =
      operand_text left (shown_part left) ++ side_text (codes "or") right (shown_part right)
  shown_part (typed.choice condition then_branch else_branch) =
      operand_text condition (shown_part condition)
      ++ (side_text (codes "?") then_branch (shown_part then_branch)
      ++ side_text (codes ":") else_branch (shown_part else_branch))
  shown_part (typed.listed scalar items) = codes "[" ++ (shown_parts true items ++ codes "]")
  shown_part (typed.predicate predicate list body) =
      predicate_word predicate ++ (codes "(" ++ (shown_part list ++ last_text (shown_part body)))

  -- the items of a list; `first`: no item comes before these
  pub shown_parts : (first : Bool) → Typeds → List ℕ
  shown_parts first typed.none = []
  shown_parts first (typed.more part others) = (between first ++ shown_part part) ++ shown_parts false others

-- ---- worked rows

whole_literal : ℕ → Typed
whole_literal n = typed.literal (literals.Whole (pos n))

sums_before_products : shown_part (typed.binary (binary.Compare Wholes Greater)
    (typed.binary (binary.Wholes wholes.Multiply)
    (typed.unary unary.Need (typed.binary (binary.Wholes wholes.Add) typed.result (whole_literal 1))) (whole_literal 2))
    (whole_literal 3))
    ≡ codes "((result + 1) * 2) > 3"
unfolding whole_literal digits
sums_before_products = refl

names_that_are_no_words : shown_part (typed.both (typed.field typed.result (codes "up"))
    (typed.unary unary.Not (typed.field typed.result (codes "p 95"))))
    ≡ codes "result.up and !result[\"p 95\"]"
unfolding quoted chars lib.Utf8.encode
names_that_are_no_words = refl

owners_with_signs : shown_part (typed.binary binary.Index
    (typed.unary (unary.Negate numbers.Wholes) typed.item) (whole_literal 0))
    ≡ codes "(-#)[0]"
unfolding whole_literal digits
owners_with_signs = refl

calls : shown_part (typed.predicate predicates.All (typed.field typed.result (codes "rates"))
    (typed.binary (binary.Compare Wholes Less) typed.item (typed.literal (literals.Decimal (negsuc 499999)))))
    ≡ codes "all(result.rates, # < -0.5)"
unfolding decimal_text digits
calls = refl

choices : shown_part (typed.choice (typed.unary unary.IsNil typed.result) (whole_literal 0)
    (typed.binary binary.Default typed.result (whole_literal 1)))
    ≡ codes "isNil(result) ? 0 : default(result, 1)"
unfolding whole_literal digits
choices = refl

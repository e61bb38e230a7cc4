-- Trees whose list literals, texts and names are short enough.
use Rattle.std.specs.Prelude.{◌≤◌, length}
use Rattle.ar_value.specs.Terms.{Text}
use Rattle.ar_value.specs.Limits.{most_literal_items, most_text_bytes}
use Rattle.ar_tree.specs.Expression.{Expression, Expressions, expression_count}
use Rattle.ar_tree.specs.Expression as trees
use Rattle.ar_tree.specs.Typed.{Typed, Typeds, how_many}
use Rattle.ar_tree.specs.Typed as typed
use Rattle.ar_tree.specs.declared.tree.Literal.{Literal}
use Rattle.ar_tree.specs.declared.tree.Literal.TheVariants as literals

abbrev pub IsShort : Text → Type 0
IsShort text = length text ≤ most_text_bytes

abbrev pub IsShortLiteral : Literal → Type 0
IsShortLiteral (literals.Text letters) = IsShort letters
IsShortLiteral literals.Nil = Unit {0}
IsShortLiteral (literals.Bool holds) = Unit {0}
IsShortLiteral (literals.Whole value) = Unit {0}
IsShortLiteral (literals.Decimal millionths) = Unit {0}

abbrev mutual
  pub WrittenInLimits : Expression → Type 0
  WrittenInLimits (trees.ResultAt at) = Unit {0}
  WrittenInLimits (trees.ItemAt at) = Unit {0}
  WrittenInLimits (trees.LiteralAt at literal) = IsShortLiteral literal
  WrittenInLimits (trees.FieldAt at owner name) = WrittenInLimits owner × IsShort name
  WrittenInLimits (trees.IndexAt at list position) = WrittenInLimits list × WrittenInLimits position
  WrittenInLimits (trees.UnaryAt at operator operand) = WrittenInLimits operand
  WrittenInLimits (trees.BinaryAt at operator left right) = WrittenInLimits left × WrittenInLimits right
  WrittenInLimits (trees.ChoiceAt at condition then_branch else_branch) =
      WrittenInLimits condition × WrittenInLimits then_branch × WrittenInLimits else_branch
  WrittenInLimits (trees.ListAt at items) = AllWrittenInLimits items × (expression_count items ≤ most_literal_items)
  WrittenInLimits (trees.LenAt at list) = WrittenInLimits list
  WrittenInLimits (trees.IsNilAt at operand) = WrittenInLimits operand
  WrittenInLimits (trees.DefaultAt at operand other) = WrittenInLimits operand × WrittenInLimits other
  WrittenInLimits (trees.PredicateAt at predicate list body) = WrittenInLimits list × WrittenInLimits body

  pub AllWrittenInLimits : Expressions → Type 0
  AllWrittenInLimits trees.none = Unit {0}
  AllWrittenInLimits (trees.more first others) = WrittenInLimits first × AllWrittenInLimits others

-- the same of typed trees
abbrev mutual
  pub InLimits : Typed → Type 0
  InLimits typed.result = Unit {0}
  InLimits typed.item = Unit {0}
  InLimits (typed.literal literal) = IsShortLiteral literal
  InLimits (typed.field owner name) = InLimits owner × IsShort name
  InLimits (typed.unary operator operand) = InLimits operand
  InLimits (typed.binary operator left right) = InLimits left × InLimits right
  InLimits (typed.both left right) = InLimits left × InLimits right
  InLimits (typed.either left right) = InLimits left × InLimits right
  InLimits (typed.choice condition then_branch else_branch) =
      InLimits condition × InLimits then_branch × InLimits else_branch
  InLimits (typed.listed scalar items) = AllInLimits items × (how_many items ≤ most_literal_items)
  InLimits (typed.predicate predicate list body) = InLimits list × InLimits body

  pub AllInLimits : Typeds → Type 0
  AllInLimits typed.none = Unit {0}
  AllInLimits (typed.more first others) = InLimits first × AllInLimits others

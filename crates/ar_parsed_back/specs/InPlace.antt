-- Where the check of kinds unwraps operands by itself: `Need`, which isn't shown, is inserted there again when the
-- shown text is checked. Elsewhere only `+` unwraps an operand, as in `isNil(+a)`, which is shown as `isNil(a)`.
use Rattle.std.specs.Prelude.{◌≡◌, Bool, true, false, ⊤}
use Rattle.ar_value.specs.declared.operator.BinaryOperator.{BinaryOperator}
use Rattle.ar_value.specs.declared.operator.BinaryOperator.TheVariants as binary
use Rattle.ar_value.specs.declared.operator.UnaryOperator.{UnaryOperator}
use Rattle.ar_value.specs.declared.operator.UnaryOperator.TheVariants as unary
use Rattle.ar_tree.specs.Expression.{Expression, Expressions}
use Rattle.ar_tree.specs.Expression as trees
use Rattle.ar_tree.specs.Typed.{Typed, Typeds}
use Rattle.ar_tree.specs.Typed as typed
use Rattle.ar_tree.specs.declared.tree.Unary.{Unary}
use Rattle.ar_tree.specs.declared.tree.Unary.TheVariants as unaries

-- it is unwrapped, and then it may be converted
abbrev pub is_unwrapped : Typed → Bool
is_unwrapped (typed.unary unary.Need operand) = true
is_unwrapped (typed.unary unary.ToDecimal operand) = is_unwrapped operand
is_unwrapped part = false

-- what may be nil here isn't unwrapped
abbrev pub MayBeNil : Typed → Type 0
MayBeNil part = is_unwrapped part ≡ false

abbrev pub OperandInPlace : UnaryOperator → Typed → Type 0
OperandInPlace unary.IsNil operand = MayBeNil operand
OperandInPlace operator operand = ⊤

abbrev pub SidesInPlace : BinaryOperator → (left right : Typed) → Type 0
SidesInPlace binary.Default left right = MayBeNil left × MayBeNil right
SidesInPlace binary.IsIn left right = MayBeNil left
SidesInPlace (binary.Equal family) left right = MayBeNil left × MayBeNil right
SidesInPlace operator left right = ⊤

abbrev mutual
  -- each `Need` is where the check of kinds inserts it
  pub NeedsInPlace : Typed → Type 0
  NeedsInPlace typed.result = ⊤
  NeedsInPlace typed.item = ⊤
  NeedsInPlace (typed.literal literal) = ⊤
  NeedsInPlace (typed.field whole name) = NeedsInPlace whole
  NeedsInPlace (typed.unary operator operand) = OperandInPlace operator operand × NeedsInPlace operand
  NeedsInPlace (typed.binary operator left right) =
      SidesInPlace operator left right × NeedsInPlace left × NeedsInPlace right
  NeedsInPlace (typed.both left right) = NeedsInPlace left × NeedsInPlace right
  NeedsInPlace (typed.either left right) = NeedsInPlace left × NeedsInPlace right
  NeedsInPlace (typed.choice condition then_branch else_branch) =
      MayBeNil then_branch × MayBeNil else_branch × NeedsInPlace condition × NeedsInPlace then_branch
      × NeedsInPlace else_branch
  NeedsInPlace (typed.listed scalar items) = EachInPlace items
  NeedsInPlace (typed.predicate predicate list body) = NeedsInPlace list × NeedsInPlace body

  pub EachInPlace : Typeds → Type 0
  EachInPlace typed.none = ⊤
  EachInPlace (typed.more part others) = NeedsInPlace part × EachInPlace others

-- ---- conditions as written

abbrev pub IsNoPlus : Unary → Type 0
IsNoPlus unaries.Plus = ⊥
IsNoPlus operator = ⊤

abbrev mutual
  -- it has no sign `+` before an operand
  pub HasNoPlus : Expression → Type 0
  HasNoPlus (trees.ResultAt at) = ⊤
  HasNoPlus (trees.ItemAt at) = ⊤
  HasNoPlus (trees.LiteralAt at literal) = ⊤
  HasNoPlus (trees.FieldAt at owner name) = HasNoPlus owner
  HasNoPlus (trees.IndexAt at list index) = HasNoPlus list × HasNoPlus index
  HasNoPlus (trees.UnaryAt at operator operand) = IsNoPlus operator × HasNoPlus operand
  HasNoPlus (trees.BinaryAt at operator left right) = HasNoPlus left × HasNoPlus right
  HasNoPlus (trees.ChoiceAt at condition then_branch else_branch) =
      HasNoPlus condition × HasNoPlus then_branch × HasNoPlus else_branch
  HasNoPlus (trees.ListAt at items) = HaveNoPlus items
  HasNoPlus (trees.LenAt at list) = HasNoPlus list
  HasNoPlus (trees.IsNilAt at operand) = HasNoPlus operand
  HasNoPlus (trees.DefaultAt at operand otherwise) = HasNoPlus operand × HasNoPlus otherwise
  HasNoPlus (trees.PredicateAt at predicate list body) = HasNoPlus list × HasNoPlus body

  pub HaveNoPlus : Expressions → Type 0
  HaveNoPlus trees.none = ⊤
  HaveNoPlus (trees.more first others) = HasNoPlus first × HaveNoPlus others

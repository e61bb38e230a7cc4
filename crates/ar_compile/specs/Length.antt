-- How many operations the code of a condition has.
use Rattle.std.specs.Prelude.{ℕ, ◌+◌}
use Rattle.ar_tree.specs.Typed.{Typed, Typeds}
use Rattle.ar_tree.specs.Typed as typed

abbrev mutual
  -- of a tree, which leaves its value on the stack
  pub operations : Typed → ℕ
  operations typed.result = 1
  operations typed.item = 1
  operations (typed.literal literal) = 1
  operations (typed.field owner name) = operations owner + 1
  operations (typed.unary operator operand) = operations operand + 1
  operations (typed.binary operator left right) = operations left + operations right + 1
  -- a jump is between the sides
  operations (typed.both left right) = operations left + 1 + operations right
  operations (typed.either left right) = operations left + 1 + operations right
  -- a branch comes before the then branch, and a jump after it
  operations (typed.choice condition then_branch else_branch) =
      operations condition + 1 + operations then_branch + 1 + operations else_branch
  operations (typed.listed scalar items) = operations_of_items items + 1
  -- the body is between the loop's Enter and its Step
  operations (typed.predicate predicate list body) = operations list + 1 + operations body + 1

  pub operations_of_items : Typeds → ℕ
  operations_of_items typed.none = 0
  operations_of_items (typed.more first others) = operations first + operations_of_items others

-- of a condition, whose code ends in Return
abbrev pub length_of : Typed → ℕ
length_of condition = operations condition + 1

-- Which conditions have a `filter`: a call that gathers items.
use Rattle.ar_judge.specs.Condition.{Condition}
use Rattle.std.specs.Prelude.{◌≡◌, Bool, false, ◌||◌, Ok}
use Rattle.ar_value.specs.Terms.{Text}
use Rattle.ar_value.specs.Shape.{Shape}
use Rattle.ar_value.specs.Value.{Value}
use Rattle.ar_value.specs.Predicates.{gathers, keeps_items}
use Rattle.ar_tree.specs.Typed.{Typed, Typeds}
use Rattle.ar_tree.specs.Typed as typed
use Rattle.ar_machine.specs.Filter.{BeginsNoFilter}
use Rattle.ar_judge.specs.Saying.{typed_text}

abbrev mutual
  pub has_filter : Typed → Bool
  has_filter typed.result = false
  has_filter typed.item = false
  has_filter (typed.literal literal) = false
  has_filter (typed.field whole name) = has_filter whole
  has_filter (typed.unary operator operand) = has_filter operand
  has_filter (typed.binary operator left right) = has_filter left || has_filter right
  has_filter (typed.both left right) = has_filter left || has_filter right
  has_filter (typed.either left right) = has_filter left || has_filter right
  has_filter (typed.choice condition then_branch else_branch) =
      has_filter condition || (has_filter then_branch || has_filter else_branch)
  has_filter (typed.listed scalar items) = have_filter items
  has_filter (typed.predicate predicate list body) =
      keeps_items (gathers predicate) || (has_filter list || has_filter body)

  pub have_filter : Typeds → Bool
  have_filter typed.none = false
  have_filter (typed.more first others) = has_filter first || have_filter others

-- where a text's typed tree has no `filter`, no run of its condition's code begins one
abbrev pub BeginsOnlyWrittenFilters : Shape → (text : Text) → Condition → Type 0
BeginsOnlyWrittenFilters shape text condition = (tree : Typed)
    → typed_text shape text ≡ Ok tree → has_filter tree ≡ false
    → (value : Value) → BeginsNoFilter condition.verified.code value

-- Trees in memory that are together.
use Rattle.std.specs.Prelude.{ℕ, ◌+◌, List, map}
use Rattle.ar_tree.specs.Typed.{Typeds, typeds}
use Rattle.ar_tree.specs.Views.{typed_view}
use Rattle.ar_tree.specs.declared.typed.Typed.{Typed as TypedCode}
use Rattle.ar_compile.specs.Length.{operations}
use Rattle.ar_tree.specs.Limits.{AllInLimits}

-- the items of a list literal
abbrev pub items_view : List TypedCode → Typeds
items_view items = typeds (map typed_view items)

-- how many operations two trees have, with one after them
abbrev pub operations_of_two : (left right : TypedCode) → ℕ
operations_of_two left right = operations (typed_view left) + operations (typed_view right) + 1

-- items are within limits just where the others are
unfoldable pub Agree : (whole rest : Typeds) → Type 0
Agree whole rest = (AllInLimits whole → AllInLimits rest) × (AllInLimits rest → AllInLimits whole)

-- At which boolean of an item a call with a predicate ends, and what it keeps of the items.
use Rattle.std.specs.Prelude.{ℕ, ◌==◌, Bool, true, false, Option, Some, None}
use Rattle.ar_value.specs.declared.operator.Gather.{Gather}
use Rattle.ar_value.specs.declared.operator.Gather.TheVariants.{Nothing, Number, Items}
use Rattle.ar_value.specs.declared.operator.Predicate.{Predicate}
use Rattle.ar_value.specs.declared.operator.Predicate.TheVariants as predicates

-- the boolean of an item that ends the loop at once, and the answer that it then has
abbrev pub ends_at : Predicate → Option (Bool × Bool)
ends_at predicates.All = Some (false, false)
ends_at predicates.Any = Some (true, true)
ends_at predicates.None = Some (true, false)
ends_at predicates.One = None
ends_at predicates.Count = None
ends_at predicates.Filter = None

-- what the answer takes of the items of which the predicate holds
abbrev pub gathers : Predicate → Gather
gathers predicates.All = Nothing
gathers predicates.Any = Nothing
gathers predicates.None = Nothing
gathers predicates.One = Number
gathers predicates.Count = Number
gathers predicates.Filter = Items

-- whether a loop keeps the items themselves
abbrev pub keeps_items : Gather → Bool
keeps_items Nothing = false
keeps_items Number = false
keeps_items Items = true

abbrev pub predicate_number : Predicate → ℕ
predicate_number predicates.All = 0
predicate_number predicates.Any = 1
predicate_number predicates.None = 2
predicate_number predicates.One = 3
predicate_number predicates.Count = 4
predicate_number predicates.Filter = 5

abbrev pub is_same : Predicate → Predicate → Bool
is_same predicate other = predicate_number predicate == predicate_number other

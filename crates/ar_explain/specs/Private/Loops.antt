-- Loops over items, by what they have found so far.
use Rattle.std.specs.Prelude.{ℕ, Bool, List, [], ◌∷◌, Option, Some, None, Result, Ok}
use Rattle.ar_value.specs.Answer.{◌>>=◌}
use Rattle.ar_value.specs.Operators.{Failure, Meaning}
use Rattle.ar_value.specs.Value.{Value, Items, no_items, item}
use Rattle.ar_value.specs.declared.operator.Predicate.{Predicate}
use Rattle.ar_op.specs.Machine.{decided}
use Rattle.ar_machine.specs.Memory.{answer_in, count_with, kept_with}

-- items after values
abbrev pub prepended : List Value → Items → Items
prepended [] items = items
prepended (value ∷ values) items = item value (prepended values items)

-- the items of a list literal, where some are made before
abbrev pub after_made : List Value → Result Items Failure → Result Items Failure
after_made made items = items >>= λ items. Ok (prepended made items)

abbrev pub unless_decided : Option Value → Meaning → Meaning
unless_decided (Some answer) meaning = Ok answer
unless_decided None meaning = meaning

-- what a predicate gives over the items that are left, of which it has found some before
abbrev pub over_rest : Predicate → (Value → Result Bool Failure) → ℕ → List Value → Items → Meaning
over_rest predicate holds counted kept no_items = Ok (answer_in predicate counted kept)
over_rest predicate holds counted kept (item first items) =
    holds first >>= λ it. unless_decided (decided predicate it)
    (over_rest predicate holds (count_with predicate it counted) (kept_with predicate it first kept) items)

-- Shapes of lists, by their parts.
use Rattle.std.specs.Prelude.{ℕ, Bool, true, false, Option, Some, None}
use Rattle.ar_value.specs.Shape.{Shape, list}

abbrev pub is_list : Shape → Bool
is_list (list shape max) = true
is_list shape = false

-- how many items a list has at most, where the shape is that of one
abbrev pub longest : Shape → ℕ
longest (list shape max) = max
longest shape = 0

-- the item's shape and the greatest length of a list
abbrev pub list_parts : Shape → Option (Shape × ℕ)
list_parts (list shape max) = Some (shape, max)
list_parts shape = None

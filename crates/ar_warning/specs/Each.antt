-- What is said of items, one after another.
use Rattle.std.specs.Prelude.{ℕ, suc, List, [], ◌∷◌, ◌++◌}

-- of items, the first of which has a number
abbrev pub each_from : {A B : Type 0} → (ℕ → A → List B) → (number : ℕ) → List A → List B
each_from said number [] = []
each_from said number (item ∷ items) = said number item ++ each_from said (suc number) items

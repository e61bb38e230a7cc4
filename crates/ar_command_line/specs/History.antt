-- What a device, a source or a sink was asked and answered so far, where that is kept.
use Rattle.std.specs.Prelude.{◌≡◌, ◌≤◌, ℕ, ◌+◌, List, ◌++◌, Option, None, Some}

-- a history that is kept continues with these
abbrev pub Extends : {A : Type 0} → (before after : Option (List A)) → (more : List A) → Type 0
Extends None after more = Unit {0}
Extends (Some known) None more = ⊥
Extends (Some known) (Some all) more = all ≡ known ++ more

-- a number that is kept grows by at most n
abbrev pub GrowsAtMost : (before after : Option ℕ) → (n : ℕ) → Type 0
GrowsAtMost None after n = Unit {0}
GrowsAtMost (Some known) None n = ⊥
GrowsAtMost (Some known) (Some grown) n = (known ≤ grown) × (grown ≤ known + n)

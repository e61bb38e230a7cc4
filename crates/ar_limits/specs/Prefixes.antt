-- The prefixes of a list, and the phase that the shortest deciding one gives.
use Rattle.std.specs.Prelude.{Option, unwrap_or, is_some, List, [], ◌∷◌, map, find}
use Rattle.std.specs.Option.{option_and_then}
use Rattle.ar_limits.specs.declared.phase.Phase.{Phase}
use Rattle.ar_limits.specs.declared.phase.Phase.TheVariants as phase

-- the prefixes of a list, shortest first: from the empty one to the whole list
unfoldable pub prefixes : {A : Type 0} → List A → List (List A)
prefixes [] = [] ∷ []
prefixes (item ∷ items) = [] ∷ map (λ prefix. item ∷ prefix) (prefixes items)

-- the shortest prefix that decides a phase, if any does
unfoldable pub deciding_prefix : {A : Type 0} → (List A → Option Phase) → List A → Option (List A)
deciding_prefix decides items = find (λ prefix. is_some (decides prefix)) (prefixes items)

-- the phase where no prefix decides: Pending where nothing has happened, else Running
abbrev pub open_phase : {A : Type 0} → List A → Phase
open_phase [] = phase.Pending
open_phase (first ∷ rest) = phase.Running

-- the phase that the shortest deciding prefix decides, else that of something open
unfoldable pub phase_by : {A : Type 0} → (List A → Option Phase) → List A → Phase
phase_by decides items =
    unwrap_or (option_and_then decides (deciding_prefix decides items)) (open_phase items)

-- each item of a list, after the items that come before it
unfoldable pub with_earlier : {A : Type 0} → List A → List (List A × A)
with_earlier [] = []
with_earlier (item ∷ items) = ([], item) ∷ map (λ (earlier, last). (item ∷ earlier, last)) (with_earlier items)

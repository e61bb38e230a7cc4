-- What stacks in memory represent, of which the last item is on top.
use Rattle.std.specs.Prelude.{◌≡◌, ℕ, Bool, false, List, [], ◌∷◌, map, reverse, option_map, Option, Some, None}
use Rattle.ar_value.specs.Kind.{Kind}
use Rattle.ar_value.specs.Shape.{Shape}
use Rattle.ar_value.specs.declared.operator.Scalar.{Scalar}
use Rattle.ar_safety.specs.Effects.{is_scalar_kind}
use Rattle.ar_verify.specs.Private.Kinds.{parts_kind, list_in}
use Rattle.ar_verify.specs.declared.kind.Kind as code
use Rattle.ar_verify.specs.declared.whole.ShapeName as ShapeName

-- kinds from the top
abbrev pub from_top : {M : Type 0} {name : ShapeName.Ghosts M} → List (code.Kind M name) → List Kind
from_top stack = reverse (map parts_kind stack)

-- the one on top
abbrev pub first : {A : Type 0} → List A → Option A
first [] = None
first (x ∷ xs) = Some x

-- a kind that is given, on top of those that are left
abbrev pub Leaves : {M : Type 0} {name : ShapeName.Ghosts M} → Option (code.Kind M name) → List (code.Kind M name)
    → Option (List Kind) → Type 0
Leaves given rest kinds = kinds ≡ option_map (λ given. parts_kind given ∷ from_top rest) given

-- an operand is taken off the top; a boolean says whether it was a scalar of a kind
abbrev pub TakesScalar : Scalar → (before after : List Kind) → Bool → Type 0
TakesScalar scalar [] after is_taken = is_taken ≡ false
TakesScalar scalar (kind ∷ before) after is_taken = (is_taken ≡ is_scalar_kind scalar kind) × (after ≡ before)

-- how many items a kind that may be there says that its list has at most
abbrev pub most_of : Option (Shape × ℕ) → ℕ
most_of None = 0
most_of (Some parts) = parts.1

abbrev pub most_in : Option Kind → ℕ
most_in None = 0
most_in (Some kind) = most_of (list_in kind)

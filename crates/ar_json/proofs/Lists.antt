-- JSON lists.
use Rattle.std.proofs.Common.{◌≡◌, List, [], ◌∷◌, map, refl, ap}
use Rattle.serde_json.specs.View.{items_view, view}
use Rattle.serde_json.specs.declared.value.Value.{Value}
use Rattle.ar_json.specs.Members.{listed}

-- the values of a list are those that its items show
pub listed_items : (list : List Value) → listed (items_view list) ≡ map (λ json. view json) list
listed_items [] = refl
listed_items (json ∷ list) = ap (λ rest. view json ∷ rest) (listed_items list)

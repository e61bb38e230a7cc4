-- Measured values can be shared between threads.
use mathlib.Core.Path.{subst}
use Prim.Native.Nat.{ℕ}
use denote.RattleType.{RattleType}
use denote.Hole.FixSend.{Syncs, fix_sync}
use denote.Param.Send.{Common, IsSync, sendable}
use denote.Param.SendFields.{as_row_sync, declared_sync, variants_sync}
use Rattle.std.proofs.Crossing.{crosses, Box-sync}
use Rattle.ar_value.specs.contracts.decimal.Decimal as Decimal
use Rattle.ar_value.specs.contracts.value.Value as Value
use Rattle.ar_value.specs.contracts.value.Value.TheKnot as knot
use Rattle.ar_value.specs.contracts.indices.Indices as Indices
use Rattle.ar_value.specs.contracts.indices.Indices.TheInside as IndicesInside
use Rattle.ar_queue.proofs.Sharing.Shapes.{names_sync, text_sync}

decimal_sync : IsSync Decimal.the_row
decimal_sync = search (crosses, sendable) depth 20

places_sync : IsSync Indices.the_row
places_sync = let inside : IsSync IndicesInside.the_row = declared_sync IndicesInside.the_type (search (crosses, sendable) depth 20) in search sendable

value_layer : (R S : RattleType) → IsSync R → IsSync S → IsSync (knot.layer-Value R S)
value_layer R S values fields = let decimal = decimal_sync in let text = text_sync in let box = Box-sync S fields in variants_sync (knot.type-Value R S) (search (crosses, sendable, as_row_sync) depth 20)

fields_layer : (R : RattleType) → IsSync R → IsSync (knot.layer-Fields R)
fields_layer R own = let names = names_sync in let indices = places_sync in declared_sync (knot.type-Fields R) (search (crosses, sendable) depth 20)

values_layer : (R : RattleType) → IsSync R → IsSync (knot.layer-Values R)
values_layer R own = declared_sync (knot.type-Values R) (search (crosses, sendable) depth 20)

layers : (i : knot.the_members) → Syncs Value.the_ring i
layers = Value.by_members (Syncs Value.the_ring)
    record { sync = λ h all. record { shared = (value_layer (h knot.member-Values) (h knot.member-Fields) (all knot.member-Values) (all knot.member-Fields)).shared } }
    record { sync = λ h all. record { shared = (fields_layer (h knot.member-Value) (all knot.member-Value)).shared } }
    record { sync = λ h all. record { shared = (values_layer (h knot.member-Value) (all knot.member-Value)).shared } }

pub value_sync : IsSync Value.the_row
value_sync = record { shared = λ d b o κ. subst (λ shr. (b o : ℕ) → Common (shr b o)) (Value.shr_is d) ((fix_sync Value.the_ring layers knot.member-Value).shared d) b o κ }

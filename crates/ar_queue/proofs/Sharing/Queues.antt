-- Queues of items can be shared between threads, and their passes can be sent to them.
use denote.RattleType.{RattleType}
use denote.Param.Send.{IsSend, IsSync, part_keyless, sendable}
use denote.Builtin.{unit}
use denote.Param.SendFields.{declared_sync}
use denote.Struct.Owning.{shape}
use denote.Struct.Struct.{Struct}
use Rattle.std.proofs.Crossing.{crosses, frees}
use Rattle.std.specs.contracts.alloc.Global as Global
use Rattle.std.specs.contracts.impls.GlobalAllocator.TheImpl as heap
use Rattle.std.specs.contracts.option.Option as Option
use Rattle.atomic_table.proofs.Sent.{seat_keyless, shares_keyless}
use Rattle.atomic_table.specs.contracts.shared.Seat as Pass
use Rattle.crossbeam_queue.specs.contracts.array_queue.Slotted as Slotted
use Rattle.atomic_table.proofs.Rights.{right_send}
use Rattle.atomic_table.specs.contracts.owned.Table as Table
use Rattle.atomic_table.specs.contracts.send_lease.SendLease as SendLease
use Rattle.atomic_table.specs.contracts.shared.Shared as Shared
use Rattle.atomic_table.specs.declared.shared.TableRule as TableRule
use Rattle.ar_queue.specs.contracts.queue.Item as Item

item_send : IsSend (Option.the_row Item.the_row)
item_send = search (crosses, sendable) depth 20

pub pass_send : (D : RattleType) → IsSend (Pass.the_row (Option.the_row Item.the_row) D)
pass_send D = record { owned = λ d vs. ((λ vss. (tt, ((λ uss. (tt, tt)), tt))), seat_keyless (Option.the_row Item.the_row) item_send D.coded.code d.table_id d.id d.me); leaving = λ k f vs. tt }

module _ (S V K P : RattleType) (g : TableRule.Ghosts P.Denot S.Denot V.Denot K.Denot) (s : IsSend S) where
  shared_sync : IsSync (Shared.the_row S V K P g)
  shared_sync = let fields : IsSync (Struct (shape (Shared.the_type S V K P g))) = search sendable depth 20 in
      record { shared = λ d b o ν. (fields.shared (d.words, (d.slots, (tt, tt))) b o ν, shares_keyless S s V.coded.code d.table_id (g.holds d.key) d.words d.slots ν) }

lease_sync : (T : RattleType) → IsSync (SendLease.the_row T Global.the_row heap.ghosts)
lease_sync T = record { shared = λ d b o ν q. part_keyless (SendLease.the_row T Global.the_row heap.ghosts) (right_send T Global.the_row heap.ghosts frees) q d b o }

table_sync : (S V K P : RattleType) (g : TableRule.Ghosts P.Denot S.Denot V.Denot K.Denot) → IsSend S → IsSync (Table.the_row S V K P Global.the_row g heap.ghosts)
table_sync S V K P g s =
    let shared = shared_sync S V K P g s in
    let words = lease_sync in
    search (crosses, sendable) depth 20

-- a queue of items
pub queue_sync : (V P : RattleType) (g : TableRule.Ghosts P.Denot (Option.the_row Item.the_row).Denot V.Denot (Unit {0})) → IsSync (Slotted.the_row (Option.the_row Item.the_row) V P Global.the_row g heap.ghosts)
queue_sync V P g =
    let item = Option.the_row Item.the_row in
    declared_sync (Slotted.the_type item V P Global.the_row g heap.ghosts) (table_sync item V unit P g item_send, (search (crosses, sendable) depth 20, (search (crosses, sendable) depth 20, tt)))

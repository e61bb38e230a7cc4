use mathlib.Core.List.{[], ◌∷◌}
use mir.Syntax.{named}
use denote.Exit as exit
use denote.RattleType.{RattleType}
use denote.Param.{param}
use denote.Param.Send.{arg_send, param_send}
use denote.Struct.Tuple.{TupleAt}
use Rattle.std.specs.Prelude.{codes}
use Rattle.std.specs.contracts.alloc.Global as Global
use Rattle.std.specs.contracts.impls.GlobalAllocator.TheImpl as heap
use Rattle.std.specs.contracts.option.Option as Option
use Rattle.atomic_table.specs.contracts.shared.Seat as Pass
use Rattle.crossbeam_queue.specs.contracts.array_queue.Doing as Doing
use Rattle.crossbeam_queue.specs.contracts.array_queue.Slotted as Slotted
use Rattle.crossbeam_queue.specs.contracts.array_queue.Turns as Turns
use Rattle.crossbeam_queue.specs.contracts.array_queue.TurnsTableRuleOptionDoingUnit.TheImpl as turns
use Rattle.ar_bundle.specs.contracts.bundle.Bundle as Bundle
use Rattle.ar_queue.specs.contracts.queue.Item as Item
use Rattle.ar_queue.specs.contracts.queue.QueueRule as Rule
use Rattle.ar_queue.specs.contracts.queue.QueueRuleProtocolItemView.TheImpl as rule
use Rattle.ar_queue.specs.contracts.queue.View as View
use Rattle.ar_queue.proofs.Sharing.Bundles.{bundle_sync}
use Rattle.ar_queue.proofs.Sharing.Jobs.{job_send}
use Rattle.ar_queue.proofs.Sharing.Queues.{pass_send, queue_sync}
use Rattle.ar_queue.proofs.side_by_side.start_all.Goals as goal

pub spawn-requires-send-F : goal.spawn-requires-send-F
spawn-requires-send-F g c κs within =
    let bounds = c.type_bounds in
    let M : RattleType = param 1 g.row.M in
    let item : RattleType = Option.the_row Item.the_row in
    let doing : RattleType = Doing.the_row Item.the_row View.the_row in
    let rules : RattleType = Turns.the_row (Rule.the_row M) in
    let ghosts = turns.ghosts Item.the_row View.the_row (Rule.the_row M) (rule.ghosts M g.M.BundleName rule.no_dict) turns.no_dict in
    param_send 1 _ (arg_send _ exit.no _ (job_send (codes "ar_queue::side_by_side::fn::start_all::job+Self")
    record { mir = named 5; lft = κs.1.1.1.1.1.0 } record { mir = named 6; lft = κs.1.1.1.1.1.1.0 }
    record { mir = named 7; lft = κs.1.1.1.1.1.1.1.0 } record { mir = named 8; lft = κs.1.1.1.1.1.1.1.1.0 }
    (param 5 g.row.R) Bundle.the_row (Slotted.the_row item doing rules Global.the_row ghosts heap.ghosts)
    (param 2 g.row.D) (Pass.the_row item doing) (param 4 g.row.G) (TupleAt (codes "(_,)") (param 3 g.row.T ∷ [])) tt tt tt tt
    bounds.sync-R bundle_sync (queue_sync doing rules ghosts) bounds.send-D (pass_send doing) bounds.sync-G))

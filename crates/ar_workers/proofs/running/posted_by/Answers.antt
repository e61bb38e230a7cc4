use mir.Syntax.{named}
use denote.Exit as exit
use denote.RattleType.{RattleType}
use denote.Ref.{NamedLft}
use denote.Param.{param}
use denote.Param.Send.{arg_send, param_send}
use Rattle.std.proofs.lemmas.Result.{IfOk-weaker}
use Rattle.ar_board.specs.Board.{receipts_of}
use Rattle.ar_workers.proofs.Ending.{each_once}
use Rattle.ar_workers.proofs.Sharing.Boards.{posting_send}
use Rattle.ar_workers.proofs.running.posted_by.Goals as goal

pub settle_all-requires-send-D : goal.settle_all-requires-send-D
settle_all-requires-send-D g c κs within =
    let bounds = c.type_bounds in
    let M : RattleType = param 0 g.row.M in
    let L : RattleType = param 1 g.row.L in
    let here : NamedLft = record { mir = named 7; lft = κs.1.1.1.1.1.1.1.0 } in
    let board_life : NamedLft = record { mir = named 8; lft = κs.1.1.1.1.1.1.1.1.0 } in
    param_send 1 _ (arg_send _ exit.no _ (posting_send M g.M.BundleName bounds.send-M L g.L.LockNames bounds.send-L board_life here))

pub returns-clause-each_once : goal.returns-clause-each_once
returns-clause-each_once g c = IfOk-weaker _ _ _ (λ all. each_once _ _ (receipts_of all.0.items) all.1.items c.in_ok-settled.ensures.each_once) c.seats_and_doubles.ensures.named

-- Boards can be shared between threads, and seats can be sent to them.
use denote.RattleType.{RattleType}
use denote.Ref.{NamedLft}
use denote.Param.Send.{IsSend, IsSync, sendable}
use denote.Param.SendFields.{declared_send}
use Rattle.std.proofs.Crossing.{crosses}
use Rattle.std.below.core.proofs.ledger.Sent.{book_send, share_send}
use Rattle.std.specs.declared.sync.ledger.Ledger as Ledger
use Rattle.ar_limits.specs.contracts.run.RunState as RunState
use Rattle.ar_bundle.specs.contracts.history.Entry as Entry
use Rattle.ar_bundle.specs.contracts.history.History as History
use Rattle.ar_board.specs.contracts.board.Board as Board
use Rattle.ar_workers.specs.contracts.posting.Posting as Posting
use Rattle.ar_board.specs.contracts.cell.RunCell as RunCell
use Rattle.ar_board.specs.contracts.cell.kept_run.KeptRun as KeptRun
use Rattle.ar_board.specs.contracts.cell.run_history.RunHistory as RunHistory
use Rattle.ar_board.specs.contracts.cell.receipt.Receipt as Receipt
use Rattle.ar_board.specs.contracts.locks.Lock as Lock
use Rattle.ar_board.specs.contracts.seat.Seat as Seat
use Rattle.ar_board.specs.declared.locks.LockNames as LockNames
use Rattle.ar_bundle.specs.declared.names.BundleName as BundleName
use Rattle.ar_board.specs.declared.cell.names.LockName as LockName
use Rattle.ar_queue.proofs.Sharing.Bundles.{bundle_sync}

entry_send : IsSend Entry.the_row
entry_send = search (crosses, sendable) depth 30

entry_sync : IsSync Entry.the_row
entry_sync = search (crosses, sendable) depth 30

history_send : IsSend History.the_row
history_send = let entry = entry_send in search (crosses, sendable) depth 20

history_sync : IsSync History.the_row
history_sync = let entry = entry_sync in search (crosses, sendable) depth 20

state_send : IsSend RunState.the_row
state_send = search (crosses, sendable) depth 40

state_sync : IsSync RunState.the_row
state_sync = search (crosses, sendable) depth 40

receipt_sync : IsSync Receipt.the_row
receipt_sync = search (crosses, sendable) depth 20

receipt_send : IsSend Receipt.the_row
receipt_send = search (crosses, sendable) depth 20

kept_send : IsSend KeptRun.the_row
kept_send =
    let entry = entry_send in
    let run : IsSend RunHistory.the_row = declared_send RunHistory.the_type (search (crosses, sendable) depth 20, (state_send, tt)) in
    declared_send KeptRun.the_type (run, (search (crosses, sendable) depth 20, (search (crosses, sendable) depth 20, tt)))

module _ (M : RattleType) (g : BundleName.Ghosts M.Denot) (m : IsSend M) where
  cell_send : (L : RattleType) (l : LockName.Ghosts L.Denot) (l' : Ledger.Ghosts L.Denot) (ℓ : NamedLft) → IsSend L → IsSend (RunCell.the_row ℓ M L g l l')
  cell_send L l l' ℓ s = let bundle = bundle_sync in let kept = kept_send in search (crosses, sendable, book_send) depth 20

  module _ (L : RattleType) (l : LockNames.Ghosts L.Denot) (s : IsSend L) where
    pub seat_send : IsSend (Seat.the_row M L g l)
    seat_send = let receipt = receipt_send in search (crosses, sendable, share_send) depth 30

    lock_send : (lock : RattleType) → IsSend (Lock.the_row L lock)
    lock_send lock = search (crosses, sendable) depth 20

    module _ (ℓ : NamedLft) where
      pub board_sync : IsSync (Board.the_row ℓ M L g l)
      board_sync =
          let bundle = bundle_sync in
          let state = state_sync in
          let history = history_sync in
          let receipt = receipt_sync in
          search (crosses, sendable, cell_send, lock_send) depth 40

      -- a desk is sent to its worker
      pub posting_send : (here : NamedLft) → IsSend (Posting.the_row here ℓ M L g l)
      posting_send here = let board = board_sync in let seat = seat_send in search (crosses, sendable) depth 30

use Rattle.std.proofs.Common.{take}
use Rattle.ar_board.specs.Private.Closing.{AreLast, AreMarked}
use Rattle.ar_board.proofs.closing.note_unmet.Given as goal

-- the marks and the last positions after the receipts so far
abbrev pub invariant-loop-receipt : goal.invariant-loop-receipt
invariant-loop-receipt g l =
    AreLast (take l.receipt-index l.own) l.last
    × AreMarked l.histories (take l.receipt-index l.own) l.fn.unmet.items l.unmet.items

use Rattle.std.proofs.Common.{map, take}
use Rattle.ar_board.specs.Private.Closing.{AreAllMarked}
use Rattle.ar_board.proofs.closing.note_all_unmet.Given as goal

-- the marks after the seats so far
abbrev pub invariant-loop-own : goal.invariant-loop-own
invariant-loop-own g l = AreAllMarked g.M.BundleName.bundle l.histories (map (λ own. own.items) (take l.own-index l.receipts)) l.unmet.items

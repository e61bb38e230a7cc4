use Rattle.std.proofs.Common.{◌≡◌, ◌≤◌, ◌++◌, length}
use Rattle.std.specs.Vec.{vec_capacity}
use Rattle.std.specs.Vec.Iter.{into_iter_items, into_iter_len}
use Rattle.ar_board.specs.Private.Closing.{AreGiven, lists_of}
use Rattle.ar_board.proofs.seat.gather.Given as goal

-- what the seats so far had
abbrev pub invariant-loop-seat : goal.invariant-loop-seat
invariant-loop-seat g l =
    (l.yielded ++ into_iter_items l.seat-iterator ≡ into_iter_items l.initial.seat-iterator)
    × AreGiven g.M.BundleName.bundle l.yielded (lists_of l.receipts.items) l.all
    × (into_iter_len l.seat-iterator ≡ length (into_iter_items l.seat-iterator))
    × (length l.receipts.items ≡ length l.yielded)
    × (length (into_iter_items l.initial.seat-iterator) ≤ vec_capacity l.receipts)

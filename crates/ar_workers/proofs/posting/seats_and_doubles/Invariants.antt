use Rattle.std.proofs.Common.{◌≡◌, ◌≤◌, ◌+◌, ℕ, ◌++◌, length}
use Rattle.std.specs.Vec.{vec_capacity}
use Rattle.std.specs.Vec.Iter.{into_iter_items, into_iter_len}
use Rattle.ar_bundle.specs.Lawful.{times_in}
use Rattle.ar_board.specs.Board.{receipts_of}
use Rattle.ar_queue.specs.Workers.{all_named}
use Rattle.ar_workers.specs.Joined.{named, named_by}
use Rattle.ar_workers.proofs.posting.seats_and_doubles.Given as goal

-- the seats and doubles of the desks so far
abbrev pub invariant-loop-desk : goal.invariant-loop-desk
invariant-loop-desk g l =
    (l.yielded ++ into_iter_items l.desk-iterator ≡ into_iter_items l.initial.desk-iterator)
    × (into_iter_len l.desk-iterator ≡ length (into_iter_items l.desk-iterator))
    × ((number : ℕ) → times_in number (named_by (receipts_of l.seats.items)) + times_in number l.doubles.items ≡ times_in number (all_named (λ desk. named desk.seat.receipts desk.doubles.items) l.yielded))
    × (length l.seats.items ≡ length l.yielded)
    × (length (into_iter_items l.initial.desk-iterator) ≤ vec_capacity l.seats)

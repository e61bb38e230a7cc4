use Rattle.std.proofs.Common.{◌≡◌, ◌≤◌, [], ◌++◌, length}
use Rattle.std.specs.List.{AllByRecursion}
use Rattle.std.specs.Vec.{vec_capacity}
use Rattle.std.specs.Vec.Iter.{into_iter_items, into_iter_len}
use Rattle.ar_workers.specs.Joined.{named}
use Rattle.ar_workers.proofs.posting.desks_of.Given as goal

-- a desk for each seat so far
abbrev pub invariant-loop-seat : goal.invariant-loop-seat
invariant-loop-seat g l =
    (l.yielded ++ into_iter_items l.seat-iterator ≡ into_iter_items l.initial.seat-iterator)
    × (into_iter_len l.seat-iterator ≡ length (into_iter_items l.seat-iterator))
    × AllByRecursion (λ seat. seat.receipts ≡ []) (into_iter_items l.seat-iterator)
    × AllByRecursion (λ desk. named desk.seat.receipts desk.doubles.items ≡ []) l.desks.items
    × (length l.desks.items ≡ length l.yielded)
    × (length (into_iter_items l.initial.seat-iterator) ≤ vec_capacity l.desks)

use Rattle.std.proofs.Common.{◌≡◌, ◌≤◌, ◌++◌, length}
use Rattle.std.specs.Vec.{vec_capacity}
use Rattle.std.specs.Vec.Iter.{into_iter_items, into_iter_len}
use Rattle.crossbeam_queue.specs.Passes.{IsPassOf, view}
use Rattle.ar_queue.specs.Workers.{AreNamed, IsFeeder, all_named}
use Rattle.ar_queue.proofs.side_by_side.join_all.Given as goal

-- the workers so far are joined
abbrev pub invariant-loop-handle : goal.invariant-loop-handle
invariant-loop-handle g l =
    (l.yielded ++ into_iter_items l.handle-iterator ≡ into_iter_items l.initial.handle-iterator)
    × (into_iter_len l.handle-iterator ≡ length (into_iter_items l.handle-iterator))
    × (length l.desks.items ≡ length l.yielded)
    × (length (into_iter_items l.initial.handle-iterator) ≤ vec_capacity l.desks)
    × IsPassOf l.queue l.pass
    × IsFeeder (view l.pass) (length (into_iter_items l.initial.handle-iterator)) (length (into_iter_items l.handle-iterator)) (length l.yielded)
    × AreNamed (view l.pass).taken (all_named g.D.Desk.numbers l.desks.items)

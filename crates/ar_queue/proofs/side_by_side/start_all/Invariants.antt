use Rattle.std.proofs.Common.{◌≡◌, ◌≤◌, [], ◌++◌, length}
use Rattle.std.specs.List.{AllByRecursion}
use Rattle.std.specs.Vec.{vec_capacity}
use Rattle.std.specs.Vec.Iter.{into_iter_items, into_iter_len}
use Rattle.crossbeam_queue.specs.Passes.{IsPassOf, view}
use Rattle.ar_queue.specs.Workers.{feeding}
use Rattle.ar_queue.proofs.side_by_side.start_all.Given as goal

-- a worker was started for each desk so far
abbrev pub invariant-loop-desk : goal.invariant-loop-desk
invariant-loop-desk g l =
    (l.yielded ++ into_iter_items l.desk-iterator ≡ into_iter_items l.initial.desk-iterator)
    × (into_iter_len l.desk-iterator ≡ length (into_iter_items l.desk-iterator))
    × AllByRecursion (λ desk. g.D.Desk.numbers desk ≡ []) (into_iter_items l.desk-iterator)
    × (length l.handles.items ≡ length l.yielded)
    × (length (into_iter_items l.initial.desk-iterator) ≤ vec_capacity l.handles)
    × IsPassOf l.queue l.pass
    × (view l.pass ≡ feeding 0 0 (length l.yielded))

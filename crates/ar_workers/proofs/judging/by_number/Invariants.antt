use Rattle.std.proofs.Common.{◌≡◌, ◌++◌, length}
use Rattle.std.specs.Vec.Iter.{into_iter_items, into_iter_len}
use Rattle.ar_queue.specs.Workers.{all_named}
use Rattle.ar_workers.specs.Private.Judging.{AreKnown, numbers_judged}
use Rattle.ar_workers.proofs.judging.by_number.Given as goal

-- what was judged at the desks so far is in the table
abbrev pub invariant-loop-desk : goal.invariant-loop-desk
invariant-loop-desk g l =
    (l.yielded ++ into_iter_items l.desk-iterator ≡ into_iter_items l.initial.desk-iterator)
    × (into_iter_len l.desk-iterator ≡ length (into_iter_items l.desk-iterator))
    × (length l.table.items ≡ length g.M.BundleName.bundle.entries)
    × AreKnown g.M.BundleName.bundle (all_named (λ desk. numbers_judged desk.judged.items) l.yielded) l.table.items

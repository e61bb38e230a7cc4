use Rattle.std.proofs.Common.{◌≡◌, ℕ, ◌++◌, length}
use Rattle.std.specs.Vec.Iter.{into_iter_items, into_iter_len}
use Rattle.ar_workers.specs.Private.Judging.{AreJudged, AreKnown, IsKnown, numbers_judged}
use Rattle.ar_workers.proofs.judging.put.Given as goal

-- what was judged so far is in the table, and what was there
abbrev pub invariant-loop-one : goal.invariant-loop-one
invariant-loop-one g l =
    (l.yielded ++ into_iter_items l.one-iterator ≡ into_iter_items l.initial.one-iterator)
    × (into_iter_len l.one-iterator ≡ length (into_iter_items l.one-iterator))
    × AreJudged g.M.BundleName.bundle (into_iter_items l.one-iterator)
    × (length l.table.items ≡ length g.M.BundleName.bundle.entries)
    × ((number : ℕ) → IsKnown g.M.BundleName.bundle l.fn.table.items number → IsKnown g.M.BundleName.bundle l.table.items number)
    × AreKnown g.M.BundleName.bundle (numbers_judged l.yielded) l.table.items

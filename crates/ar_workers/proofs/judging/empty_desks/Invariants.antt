use Rattle.std.proofs.Common.{◌≡◌, ◌≤◌, [], length}
use Rattle.std.specs.List.{AllByRecursion}
use Rattle.std.specs.Vec.{vec_capacity}
use Rattle.ar_workers.specs.Private.Judging.{numbers_judged}
use Rattle.ar_workers.proofs.judging.empty_desks.Given as goal

-- n desks
abbrev pub invariant-loop-worker : goal.invariant-loop-worker
invariant-loop-worker g l =
    AllByRecursion (λ desk. numbers_judged desk.judged.items ≡ []) l.desks.items
    × (length l.desks.items ≡ l.worker)
    × (l.worker ≤ l.workers)
    × (l.workers ≤ vec_capacity l.desks)

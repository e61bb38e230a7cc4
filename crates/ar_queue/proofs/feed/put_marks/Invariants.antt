use Rattle.std.proofs.Common.{◌≡◌, length}
use Rattle.crossbeam_queue.specs.Passes.{IsPassOf, view}
use Rattle.ar_queue.specs.Workers.{feeding}
use Rattle.ar_queue.proofs.feed.put_marks.Given as goal

-- n marks were put
abbrev pub invariant-loop-mark : goal.invariant-loop-mark
invariant-loop-mark g l = IsPassOf l.queue l.pass × (view l.pass ≡ feeding (length g.M.BundleName.bundle.entries) l._mark (view l.fn.pass).out)

use Rattle.std.proofs.Common.{rules, List, ℕ, sym, subst}
use Rattle.crossbeam_queue.specs.Passes.{view}
use Rattle.ar_queue.specs.Workers.{AreNamed}
use Rattle.ar_queue.proofs.Working.{taken_next, view_next}
use Rattle.ar_queue.proofs.worker.work.Goals as goal

pub loop-preserved : goal.loop-preserved
loop-preserved g c =
    let next = view_next (view c.loop.pass) (view c.take.new.pass) c.in-Number.number c.loop.invariant.1 c.in-Number.ensures.taken in (
      search rules,
      next.0,
      subst (λ (taken : List ℕ). AreNamed taken (g.D.Desk.numbers c.settle.new.self)) (sym next.1)
          (taken_next c.in-Number.number (view c.loop.pass).taken (g.D.Desk.numbers c.loop.desk) (g.D.Desk.numbers c.settle.new.self) c.loop.invariant.2 c.in-Ok.ensures.named),
    )

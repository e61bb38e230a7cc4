use Rattle.std.specs.Prelude.{◌≡◌}
use Rattle.crossbeam_queue.specs.Passes.{IsPassOf, view}
use Rattle.ar_queue.specs.Workers.{AreNamed, working}
use Rattle.ar_queue.proofs.worker.work.Given as goal

-- it has met no end mark yet, and its desk was given the numbers so far
abbrev pub invariant-loop : goal.invariant-loop
invariant-loop g l =
    IsPassOf l.queue l.pass
    × (view l.pass ≡ working (view l.pass).taken)
    × AreNamed (view l.pass).taken (g.D.Desk.numbers l.desk)

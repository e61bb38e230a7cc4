use Rattle.std.specs.Prelude.{◌≡◌}
use Rattle.crossbeam_queue.specs.Passes.{IsPassOf, view}
use Rattle.ar_queue.specs.Workers.{working}
use Rattle.ar_queue.proofs.worker.drain.Given as goal

-- it has met no end mark yet
abbrev pub invariant-loop : goal.invariant-loop
invariant-loop g l = IsPassOf l.queue l.pass × (view l.pass ≡ working (view l.pass).taken)

use Rattle.std.proofs.Common.{◌≡◌, ℕ, []}
use Rattle.crossbeam_queue.specs.Passes.{IsPassOf, view}
use Rattle.ar_queue.specs.declared.queue.View.{View}
use Rattle.tests_of_runs.proofs.queues.taken.Given as goal

abbrev pub put_so_far : (numbers : ℕ) → View
put_so_far numbers = record { feeds = 1; live = 1; put = numbers; marks = 0; out = 0; ended = 0; taken = [] }

-- the numbers so far were put
abbrev pub invariant-loop-number : goal.invariant-loop-number
invariant-loop-number g l = IsPassOf l.queue l.pass × (view l.pass ≡ put_so_far l.number)

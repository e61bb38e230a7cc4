use Rattle.std.specs.Prelude.{◌≡◌, length}
use Rattle.tests_of_runs.proofs.boards.put_answers.Given as goal

abbrev pub invariant-loop-place : goal.invariant-loop-place
invariant-loop-place g l = length l.seats.items ≡ length l.initial.seats.items

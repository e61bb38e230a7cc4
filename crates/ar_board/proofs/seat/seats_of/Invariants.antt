use Rattle.std.proofs.Common.{◌≡◌, ◌≤◌, ◌-◌}
use Rattle.std.specs.Vec.{vec_capacity}
use Rattle.ar_board.specs.Board.{AreSeated}
use Rattle.ar_board.specs.Seats.{held_with, nothing}
use Rattle.ar_board.proofs.seat.seats_of.Given as goal

-- the seats so far with room for all, and the parts that are left
abbrev pub invariant-loop-worker : goal.invariant-loop-worker
invariant-loop-worker g l = AreSeated l.worker l.seats.items × (l.all ≡ held_with (l.workers - l.worker) nothing) × (l.workers ≤ vec_capacity l.seats)

use Rattle.std.proofs.Common.{arith}
use Rattle.ar_board.proofs.Seats.{seated_next, none_seated}
use Rattle.ar_board.proofs.seat.seats_of.Goals as goal

pub loop-worker-preserved : goal.loop-worker-preserved
loop-worker-preserved c = grind (arith, none_seated, seated_next) steps 2000000

use Rattle.std.proofs.Common.{arith}
use Rattle.std.proofs.lemmas.Grind.{common_steps}
use Rattle.ar_board.specs.Locks.{lock_of}
use Rattle.ar_board.proofs.UnderLocks.{under_four}
use Rattle.ar_board.proofs.Seats.{has_room}
use Rattle.ar_board.proofs.board.Board.post.Goals as goal

pub push_reserved-requires : goal.push_reserved-requires
push_reserved-requires g c =
    let room = has_room g.M.BundleName.bundle g.M.BundleName.workers c.seat.inside.worker (lock_of c.run_of-run.result) _ c.seat.inside.receipts.items _ _ c.seat.invariant (under_four c.run_of-run.result) c.in_ok-posted.ensures.more in omega (arith, room)

pub invariant_of-seat-2 : goal.invariant_of-seat-2
invariant_of-seat-2 g c = grind (arith, common_steps)

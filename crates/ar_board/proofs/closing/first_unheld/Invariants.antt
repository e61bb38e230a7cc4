use Rattle.std.proofs.Common.{ℕ, ◌<◌}
use Rattle.ar_board.specs.Private.Closing.{IsThere}
use Rattle.ar_board.proofs.closing.first_unheld.Given as goal

-- the numbers so far are there
abbrev pub invariant-loop-number : goal.invariant-loop-number
invariant-loop-number l = (other : ℕ) → other < l.number → IsThere l.unmet l.stored other

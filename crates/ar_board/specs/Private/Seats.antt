-- One receipt more of a seat.
use Rattle.std.specs.Prelude.{◌≡◌, ◌≤◌, ◌==◌, ◌+◌, ℕ, if◌then◌else◌}
use Rattle.ar_bundle.specs.Bundle.{Bundle}
use Rattle.ar_board.specs.Cell.{entries_under}
use Rattle.ar_board.specs.Locks.{at_lock}
use Rattle.ar_board.specs.Seats.{Held}

-- whether it is the lock, as a count
abbrev pub one_under : (own lock : ℕ) → ℕ
one_under own lock = if own == lock then 1 else 0

-- one more under a lock, which are no more than the bundle's entries there, by shares of as many parts
pub record IsOneMore (bundle : Bundle) (own : ℕ) (before after : Held) : Type 0 where
  pub parts : after.parts ≡ before.parts
  pub more : (lock : ℕ) → at_lock after.amounts lock ≡ at_lock before.amounts lock + one_under own lock
  pub few : at_lock after.amounts own ≤ entries_under bundle own

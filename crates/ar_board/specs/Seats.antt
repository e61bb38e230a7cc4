-- What a seat counts: its shares of the ledgers of the four locks, and its receipts.
use Rattle.std.specs.Prelude.{◌≡◌, ◌+◌, ◌<◌, ◌≤◌, ◌==◌, ℕ, List, length, Some}
use Rattle.std.specs.List.{AllByRecursion, count_by}
use Rattle.ar_bundle.specs.Bundle.{Bundle, run_at}
use Rattle.ar_board.specs.Cell.{entries_under}
use Rattle.ar_board.specs.Locks.{PerLock, at_lock, lock_of, per_lock}
use Rattle.ar_board.specs.declared.cell.receipt.Receipt.{Receipt}

-- ---- shares

-- a share of each lock's ledger: of how many parts each of them is, and the amount of each
pub record Held : Type 0 where
  pub parts : ℕ
  pub amounts : PerLock

abbrev pub held_with : (parts : ℕ) → (amounts : PerLock) → Held
held_with parts amounts = record { parts = parts; amounts = amounts }

abbrev pub nothing : PerLock
nothing = per_lock 0 0 0 0

abbrev pub sums : PerLock → PerLock → PerLock
sums these more =
    per_lock (these.first + more.first) (these.second + more.second) (these.third + more.third)
    (these.fourth + more.fourth)

-- shares that are put together
abbrev pub together : Held → Held → Held
together these more = held_with (these.parts + more.parts) (sums these.amounts more.amounts)

-- ---- receipts

-- how many receipts there are for runs under a lock
abbrev pub receipts_under : (lock : ℕ) → List Receipt → ℕ
receipts_under lock receipts = count_by (λ receipt. lock_of receipt.run == lock) receipts

-- what always holds of a seat: it is a worker's; its share of each lock's ledger is one part, whose amount is the
-- number of its receipts for runs under the lock; each receipt is for the run of its number; and there is room for one
-- of each number
pub record IsSeat (bundle : Bundle) (workers worker : ℕ) (receipts : List Receipt) (capacity : ℕ)
    (shares : Held) : Type 0 where
  pub is_worker : worker < workers
  pub own : AllByRecursion (λ receipt. run_at bundle receipt.number ≡ Some receipt.run) receipts
  pub room : length bundle.entries ≤ capacity
  pub part : shares.parts ≡ 1
  pub counted : (lock : ℕ) → at_lock shares.amounts lock ≡ receipts_under lock receipts
  pub few : (lock : ℕ) → at_lock shares.amounts lock ≤ entries_under bundle lock

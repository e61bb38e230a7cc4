-- What a board counts as it is closed, and when a number is lost: it is in no history, or a receipt for it isn't
-- met.
use Rattle.ar_board.specs.Seats.{receipts_under}
use Rattle.std.specs.Prelude.{◌≡◌, ◌<◌, ◌+◌, ◌==◌, ◌⊎◌, ℕ, suc, if◌then◌else◌, List, [], ◌∷◌, length, map, Some, slice_get, take}
use Rattle.std.specs.List.{sum_by}
use Rattle.ar_bundle.specs.Bundle.{Bundle}
use Rattle.ar_bundle.specs.Lawful.{AreHistoriesSoFar, times}
use Rattle.ar_bundle.specs.declared.history.Entry.{Entry}
use Rattle.ar_board.specs.Locks.{lock_of}
use Rattle.ar_board.specs.Receipts.{Hold, IsMet}
use Rattle.ar_board.specs.declared.lost.Lost.{Lost}
use Rattle.ar_board.specs.declared.cell.receipt.Receipt.{Receipt}
use Rattle.ar_bundle.specs.Event.{EventNumber}

-- how many entries the histories of the runs under a lock have together; the first history is that of the run given
abbrev pub stored_from : (lock from : ℕ) → List (List Entry) → ℕ
stored_from lock from [] = 0
stored_from lock from (history ∷ histories) =
    (if lock_of from == lock then length history else 0) + stored_from lock (suc from) histories

abbrev pub stored_under : (lock : ℕ) → List (List Entry) → ℕ
stored_under lock histories = stored_from lock 0 histories

-- how many receipts there are for runs under a lock
abbrev pub received_under : (lock : ℕ) → List (List Receipt) → ℕ
received_under lock receipts = sum_by (λ own. receipts_under lock own) receipts

-- under each lock the histories have as many entries as the seats have receipts
abbrev pub AreAsMany : (receipts : List (List Receipt)) → (histories : List (List Entry)) → Type 0
AreAsMany receipts histories = (lock : ℕ) → stored_under lock histories ≡ received_under lock receipts

-- one of a seat's receipts for a number isn't met
pub record IsUnmet (histories : List (List Entry)) (own : List Receipt) (number : ℕ) : Type 0 where
  pub at : ℕ
  pub receipt : Receipt
  pub there : slice_get own at ≡ Some receipt
  pub for_it : receipt.number ≡ number
  pub unmet : IsMet histories (take at own) receipt → ⊥

-- one of all seats' receipts for it
pub record IsUnmetAmong (histories : List (List Entry)) (receipts : List (List Receipt)) (number : ℕ) : Type 0 where
  pub seat : ℕ
  pub own : List Receipt
  pub there : slice_get receipts seat ≡ Some own
  pub unmet : IsUnmet histories own number

-- a number isn't held, the least of those that aren't: it is in no history, or a receipt for it isn't met. What
-- shows it is handed out
pub record IsLost (bundle : Bundle) (receipts : List (List Receipt)) (lost : Lost) : Type 0 where
  pub so_far : AreHistoriesSoFar bundle lost.histories
  pub same_receipts : map (λ own. own.items) lost.receipts.items ≡ receipts
  pub as_many : AreAsMany receipts lost.histories
  pub there : lost.number < length bundle.entries
  pub not_held : Hold lost.histories receipts lost.number → ⊥
  pub why : (times lost.number lost.histories ≡ 0) ⊎ IsUnmetAmong lost.histories receipts lost.number
  pub least : (number : EventNumber) → number < lost.number → Hold lost.histories receipts number

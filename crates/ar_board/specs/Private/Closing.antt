-- How a board is closed.
use Rattle.std.specs.Prelude.{◌≡◌, ◌⊎◌, ◌<◌, ◌≤◌, ℕ, Bool, true, false, List, [], length, map, replicate, Option, Some, None, IfSome, slice_get, take, Vec, vec_capacity}
use Rattle.std.specs.List.{AllByRecursion}
use Rattle.std.specs.declared.alloc.Global.{Global}
use Rattle.ar_value.specs.Limits.{most_runs}
use Rattle.ar_bundle.specs.Bundle.{Bundle, run_at}
use Rattle.ar_bundle.specs.Lawful.{times}
use Rattle.ar_bundle.specs.declared.history.Entry.{Entry}
use Rattle.ar_bundle.specs.declared.runs.Runs.{Runs}
use Rattle.ar_board.specs.Cell.{ArePut, Cell, IsCell, histories_of, states_of}
use Rattle.ar_board.specs.Receipts.{Hold, IsMet, numbers_at}
use Rattle.ar_board.specs.declared.cell.receipt.Receipt.{Receipt}
use Rattle.ar_board.specs.Lost.{IsUnmet, IsUnmetAmong, received_under}
use Rattle.ar_board.specs.Board.{Seat, receipts_of}
use Rattle.ar_board.specs.Locks.{at_lock, lock_of}
use Rattle.ar_board.specs.Seats.{Held}
use Rattle.ar_board.specs.declared.closing.Room.{Room}

-- ---- before it

-- what closing requires, as it is reserved for a bundle and n workers, of whom there is one at least
pub record IsReady (bundle : Bundle) (workers : ℕ) (room : Room) : Type 0 where
  pub one : 1 ≤ workers
  pub histories : length room.runs.histories.items ≡ length bundle.runs
  pub states : length room.runs.states.items ≡ length bundle.runs
  pub no_receipts : room.receipts.items ≡ []
  pub receipt_room : workers ≤ vec_capacity room.receipts
  pub none_unmet : room.unmet.items ≡ replicate (length bundle.entries) false
  pub none_stored : room.stored.items ≡ replicate (length bundle.entries) false

-- ---- what seats and cells gave up

abbrev pub lists_of : List (Vec Receipt Global) → List (List Receipt)
lists_of receipts = map (λ own. own.items) receipts

-- receipts of the runs of their numbers
abbrev pub AreOwn : Bundle → List Receipt → Type 0
AreOwn bundle receipts = AllByRecursion (λ receipt. run_at bundle receipt.number ≡ Some receipt.run) receipts

-- what seats had: a list of receipts each, and shares of one part each, which have for each lock the number of the
-- receipts for runs under it
pub record AreGiven (bundle : Bundle) (seats : List Seat) (receipts : List (List Receipt))
    (shares : Held) : Type 0 where
  pub lists : receipts ≡ receipts_of seats
  pub own : AllByRecursion (AreOwn bundle) receipts
  pub as_many : shares.parts ≡ length seats
  pub counted : (lock : ℕ) → at_lock shares.amounts lock ≡ received_under lock (receipts_of seats)

-- the cell of a lock was closed: its entries are as many as the amount, and its histories and their states moved to
-- their positions among others
pub record IsCellClosed (bundle : Bundle) (workers lock amount : ℕ) (before after : Runs) : Type 0 where
  pub cell : Cell
  pub is : IsCell bundle workers lock cell
  pub whole : amount ≡ cell.total
  pub put : ArePut lock (histories_of cell) before.histories.items after.histories.items
  pub states : ArePut lock (states_of cell) before.states.items after.states.items

-- the histories of the runs under a lock are those of a cell, whose entries are as many as the amount
pub record AreOfCell (bundle : Bundle) (workers lock amount : ℕ) (histories : List (List Entry)) : Type 0 where
  pub cell : Cell
  pub is : IsCell bundle workers lock cell
  pub whole : amount ≡ cell.total
  pub each : (run : ℕ) → run < length histories → lock_of run ≡ lock
      → slice_get histories run ≡ slice_get (histories_of cell) run

-- ---- which receipts are met

-- a receipt's number is at its position
abbrev pub IsAt : List (List Entry) → Receipt → Type 0
IsAt histories receipt = slice_get (numbers_at histories receipt.run) receipt.place ≡ Some receipt.number

-- a position is after the last one so far
abbrev pub IsAfter : (last : Option ℕ) → (place : ℕ) → Type 0
IsAfter None place = Unit {0}
IsAfter (Some last) place = last < place

-- the last position of a run among receipts, which need not be in order
pub record IsLast (receipts : List Receipt) (run last : ℕ) : Type 0 where
  pub most : AllByRecursion (λ receipt. receipt.run ≡ run → receipt.place ≤ last) receipts
  pub at : ℕ
  pub receipt : Receipt
  pub there : slice_get receipts at ≡ Some receipt
  pub own : receipt.run ≡ run
  pub place : receipt.place ≡ last

abbrev pub LastOf : List Receipt → (run : ℕ) → Option ℕ → Type 0
LastOf receipts run None = AllByRecursion (λ receipt. receipt.run ≡ run → ⊥) receipts
LastOf receipts run (Some last) = IsLast receipts run last

-- so it is of each of the runs that a bundle can have
pub record AreLast (receipts : List Receipt) (last : List (Option ℕ)) : Type 0 where
  pub as_many : length last ≡ most_runs
  pub each : (run : ℕ) (place : Option ℕ) → slice_get last run ≡ Some place → LastOf receipts run place

-- the later of the last position so far and another
pub record IsLaterOf (last : Option ℕ) (place later : ℕ) : Type 0 where
  pub from_place : place ≤ later
  pub from_last : IfSome last (λ last. last ≤ later)
  pub one_of_them : (later ≡ place) ⊎ (last ≡ Some later)

-- all of a seat's receipts for a number are met
abbrev pub AreMet : List (List Entry) → List Receipt → (number : ℕ) → Type 0
AreMet histories own number = (at : ℕ) (receipt : Receipt) → slice_get own at ≡ Some receipt → receipt.number ≡ number
    → IsMet histories (take at own) receipt

-- a number is marked where it was, or where a receipt of one seat more isn't met
abbrev pub MarkedAs : List (List Entry) → List Receipt → (number : ℕ) → (before after : Bool) → Type 0
MarkedAs histories own number true after = after ≡ true
MarkedAs histories own number false true = IsUnmet histories own number
MarkedAs histories own number false false = AreMet histories own number

pub record AreMarked (histories : List (List Entry)) (own : List Receipt) (before after : List Bool) : Type 0 where
  pub as_many : length after ≡ length before
  pub each : (number : ℕ) (was is : Bool) → slice_get before number ≡ Some was → slice_get after number ≡ Some is
      → MarkedAs histories own number was is

-- so it is of all seats, when none was marked before
abbrev pub MarkedAmong : List (List Entry) → List (List Receipt) → (number : ℕ) → Bool → Type 0
MarkedAmong histories receipts number true = IsUnmetAmong histories receipts number
MarkedAmong histories receipts number false = AllByRecursion (λ own. AreMet histories own number) receipts

pub record AreAllMarked (bundle : Bundle) (histories : List (List Entry)) (receipts : List (List Receipt))
    (marks : List Bool) : Type 0 where
  pub as_many : length marks ≡ length bundle.entries
  pub each : (number : ℕ) (mark : Bool) → slice_get marks number ≡ Some mark
      → MarkedAmong histories receipts number mark

-- ---- which numbers are in a history

-- numbers below one
abbrev pub AreInside : (upto : ℕ) → List Entry → Type 0
AreInside upto history = AllByRecursion (λ entry. entry.number < upto) history

-- a number is stored where it was, or is in one history more
abbrev pub StoredAs : (times : ℕ) → (before after : Bool) → Type 0
StoredAs times true after = after ≡ true
StoredAs times false true = 0 < times
StoredAs times false false = times ≡ 0

pub record AreStored (times : (number : ℕ) → ℕ) (before after : List Bool) : Type 0 where
  pub as_many : length after ≡ length before
  pub each : (number : ℕ) (was is : Bool) → slice_get before number ≡ Some was → slice_get after number ≡ Some is
      → StoredAs (times number) was is

-- ---- which numbers are lost

-- a number that is unmet, or is nowhere, by the marks of both
abbrev pub IsUnheld : (unmet stored : List Bool) → (number : ℕ) → Type 0
IsUnheld unmet stored number = (slice_get unmet number ≡ Some true) ⊎ (slice_get stored number ≡ Some false)

pub record IsThere (unmet stored : List Bool) (number : ℕ) : Type 0 where
  pub is_met : slice_get unmet number ≡ Some false
  pub is_there : slice_get stored number ≡ Some true

pub record IsFirstUnheld (unmet stored : List Bool) (number : ℕ) : Type 0 where
  pub there : number < length unmet
  pub unheld : IsUnheld unmet stored number
  pub earlier : (other : ℕ) → other < number → IsThere unmet stored other

-- the first such number, where there is one
abbrev pub FirstUnheld : (unmet stored : List Bool) → Option ℕ → Type 0
FirstUnheld unmet stored None = (number : ℕ) → number < length unmet → IsThere unmet stored number
FirstUnheld unmet stored (Some number) = IsFirstUnheld unmet stored number

-- the least of the numbers that histories don't hold: it is in none of them, or a receipt for it isn't met
pub record IsFirstLost (bundle : Bundle) (histories : List (List Entry)) (receipts : List (List Receipt))
    (number : ℕ) : Type 0 where
  pub there : number < length bundle.entries
  pub not_held : Hold histories receipts number → ⊥
  pub why : (times number histories ≡ 0) ⊎ IsUnmetAmong histories receipts number
  pub least : (other : ℕ) → other < number → Hold histories receipts other

-- the least number that is lost, or None where the histories hold each number
abbrev pub FirstLost : Bundle → (histories : List (List Entry)) → (receipts : List (List Receipt)) → Option ℕ → Type 0
FirstLost bundle histories receipts None = (number : ℕ) → number < length bundle.entries
    → Hold histories receipts number
FirstLost bundle histories receipts (Some number) = IsFirstLost bundle histories receipts number

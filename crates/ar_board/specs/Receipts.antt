-- Receipts: what a worker keeps of the posts that succeeded, and when histories meet them.
use Rattle.std.specs.Prelude.{◌≡◌, ◌≢◌, ◌<◌, ◌≤◌, ◌==◌, ℕ, suc, Bool, if◌then◌else◌, List, [], ◌∷◌, Some, get_or, slice_get, take}
use Rattle.std.specs.List.{AllByRecursion}
use Rattle.ar_bundle.specs.Lawful.{numbers_of, times, times_in}
use Rattle.ar_bundle.specs.declared.history.Entry.{Entry}
use Rattle.ar_board.specs.declared.cell.receipt.Receipt.{Receipt}

-- ---- the receipts for one run, each a number with its position

abbrev pub received_if : Bool → Receipt → List (ℕ × ℕ) → List (ℕ × ℕ)
received_if own receipt others = if own then (receipt.number, receipt.place) ∷ others else others

abbrev pub received : (run : ℕ) → List Receipt → List (ℕ × ℕ)
received run [] = []
received run (receipt ∷ receipts) = received_if (receipt.run == run) receipt (received run receipts)

-- ---- the entries of one worker in a history, each a number with its position

abbrev pub posted_if : Bool → (place : ℕ) → Entry → List (ℕ × ℕ) → List (ℕ × ℕ)
posted_if own place entry others = if own then (entry.number, place) ∷ others else others

-- the first entry is at `place`; the workers that posted the entries are listed in parallel
abbrev pub posted_from : (place worker : ℕ) → List Entry → (authors : List ℕ) → List (ℕ × ℕ)
posted_from place worker (entry ∷ history) (author ∷ authors) =
    posted_if (author == worker) place entry (posted_from (suc place) worker history authors)
posted_from place worker history authors = []

abbrev pub posted_by : (worker : ℕ) → List Entry → (authors : List ℕ) → List (ℕ × ℕ)
posted_by worker history authors = posted_from 0 worker history authors

-- ---- when histories meet a receipt

abbrev pub numbers_at : List (List Entry) → (run : ℕ) → List ℕ
numbers_at histories run = numbers_of (get_or histories run [])

-- its position is greater than those of the worker's earlier receipts for the run
abbrev pub IsLater : (earlier : List Receipt) → Receipt → Type 0
IsLater earlier receipt = AllByRecursion (λ before. before.run ≡ receipt.run → before.place < receipt.place) earlier

-- the number is at the receipt's position, which is later than those of the worker's earlier receipts for the run
pub record IsMet (histories : List (List Entry)) (earlier : List Receipt) (receipt : Receipt) : Type 0 where
  pub is_there : slice_get (numbers_at histories receipt.run) receipt.place ≡ Some receipt.number
  pub later : IsLater earlier receipt

-- histories hold a number where it is in one of them, and each receipt for it is met, whichever seat has it; these
-- are the receipts of each seat, in the order in which they were given
pub record Hold (histories : List (List Entry)) (receipts : List (List Receipt)) (number : ℕ) : Type 0 where
  pub is_there : 0 < times number histories
  pub met : (seat at : ℕ) (own : List Receipt) (receipt : Receipt) → slice_get receipts seat ≡ Some own
      → slice_get own at ≡ Some receipt
      → receipt.number ≡ number → IsMet histories (take at own) receipt

-- ---- why a receipt isn't met

-- the run's history lacks the number
abbrev pub IsMissing : List (List Entry) → Receipt → Type 0
IsMissing histories receipt = times_in receipt.number (numbers_at histories receipt.run) ≡ 0

-- the number is in the run's history, but not at the receipt's position
pub record IsElsewhere (histories : List (List Entry)) (receipt : Receipt) : Type 0 where
  pub there : 0 < times_in receipt.number (numbers_at histories receipt.run)
  pub apart : slice_get (numbers_at histories receipt.run) receipt.place ≢ Some receipt.number

-- an earlier receipt for the run has the same position or a greater one
pub record IsOutOfOrder (earlier : List Receipt) (receipt : Receipt) : Type 0 where
  pub at : ℕ
  pub before : Receipt
  pub there : slice_get earlier at ≡ Some before
  pub same_run : before.run ≡ receipt.run
  pub greater : receipt.place ≤ before.place

-- A board, to which several workers post, and their seats: which worker each is for, and the receipts of its posts.
use Rattle.ar_bundle.specs.declared.finding.Finding.{Finding}
use Rattle.std.specs.Prelude.{◌≡◌, ◌<◌, ◌++◌, ℕ, List, [], ◌∷◌, length, map, Some, slice_get}
use Rattle.ar_bundle.specs.Bundle.{Bundle, run_at}
use Rattle.ar_bundle.specs.Lawful.{AreLawful}
use Rattle.ar_bundle.specs.declared.history.Entry.{Entry}
use Rattle.ar_board.specs.Locks.{lock_of}
use Rattle.ar_board.specs.Cell.{Cell, IsCell, IsFresh, IsPosted, IsSnapshot, IsUnder, authors_at, posts_of}
use Rattle.ar_board.specs.Receipts.{Hold}
use Rattle.ar_board.specs.declared.cell.posted.Posted.{Posted}
use Rattle.ar_board.specs.declared.cell.receipt.Receipt.{Receipt}
use Rattle.ar_board.specs.declared.cell.snapshot.LookFault.{LookFault}
use Rattle.ar_board.specs.declared.cell.snapshot.LookFault.TheVariants.{OutOfMemory, Stale}
use Rattle.ar_board.specs.declared.cell.snapshot.Snapshot.{Snapshot}
use Rattle.ar_board.specs.Lost.{AreAsMany}
use Rattle.ar_bundle.specs.Event.{EventNumber}

-- a seat: which of the workers it is for, and the receipts of its posts, in the order in which they were given
pub record Seat : Type 0 where
  pub worker : ℕ
  pub receipts : List Receipt

abbrev pub seat_of : (worker : ℕ) → List Receipt → Seat
seat_of worker receipts = record { worker = worker; receipts = receipts }

-- a seat for each of n workers, none of which has posted anything
pub record AreSeated (workers : ℕ) (seats : List Seat) : Type 0 where
  pub as_many : length seats ≡ workers
  pub each : (worker : ℕ) → worker < workers → slice_get seats worker ≡ Some (seat_of worker [])

-- ---- a post

-- one receipt more, which says where the number is in its run's history
pub record IsReceived (bundle : Bundle) (number : ℕ) (before after : Seat) (answer : Posted) : Type 0 where
  pub run : ℕ
  pub own : run_at bundle number ≡ Some run
  pub receipts : after.receipts ≡ before.receipts ++ record { run = run; number = number; place = answer.place } ∷ []
  pub worker : after.worker ≡ before.worker

-- what a post answered under a lock: what one entry more says of its place and its effect, at the end of its run's
-- history in a cell as the lock may keep it, posted by the worker
pub record IsAnswered (bundle : Bundle) (workers worker number : ℕ) (finding : Finding) (answer : Posted) : Type 0 where
  pub before : Cell
  pub after : Cell
  pub posted : IsPosted bundle worker number finding before after answer
  pub lock : ℕ
  pub under : IsUnder bundle lock number
  pub is : IsCell bundle workers lock after

-- ---- a look

-- what a look shows is a run of a cell as its lock may keep it, in which the entries of the seat's worker are those of
-- the seat's receipts for the run
pub record IsSeen (bundle : Bundle) (workers run : ℕ) (seat : Seat) (shown : Snapshot) : Type 0 where
  pub cell : Cell
  pub is : IsCell bundle workers (lock_of run) cell
  pub snapshot : IsSnapshot bundle workers run cell shown
  pub fresh : IsFresh cell run seat.worker seat.receipts

-- there is such a cell in which they aren't, and in which there are `posts` of them
pub record IsStale (bundle : Bundle) (workers run : ℕ) (seat : Seat) (posts : ℕ) : Type 0 where
  pub cell : Cell
  pub is : IsCell bundle workers (lock_of run) cell
  pub as_many : posts ≡ posts_of seat.worker (authors_at cell run)
  pub not_fresh : IsFresh cell run seat.worker seat.receipts → ⊥

-- why a look shows nothing
abbrev pub IsUnseen : Bundle → (workers run : ℕ) → Seat → LookFault → Type 0
IsUnseen bundle workers run seat OutOfMemory = Unit {0}
IsUnseen bundle workers run seat (Stale posts) = IsStale bundle workers run seat posts

-- ---- closing

-- the receipts of each seat
abbrev pub receipts_of : List Seat → List (List Receipt)
receipts_of seats = map (λ seat. seat.receipts) seats

-- the histories are lawful, and hold each number, given the receipts of each seat
pub record IsClosed (bundle : Bundle) (receipts : List (List Receipt)) (histories : List (List Entry)) : Type 0 where
  pub lawful : AreLawful bundle histories
  pub held : (number : EventNumber) → number < length bundle.entries → Hold histories receipts number
  pub as_many : AreAsMany receipts histories

-- A cell: what a board keeps under one of its locks. `IsCell` says what is true of it whenever the lock is free.
use Rattle.std.specs.Prelude.{◌≡◌, ◌≢◌, ◌<◌, ◌+◌, ◌==◌, ◌++◌, ℕ, suc, List, [], ◌∷◌, length, map, set, Some, get_or, slice_get}
use Rattle.std.specs.List.{AllByRecursion, count_by, sum_by}
use Rattle.std.specs.declared.sync.ledger.Share.{Share}
use Rattle.ar_limits.specs.Replay.{Replays, Standing}
use Rattle.ar_limits.specs.Run.{metric_phases, run_phase}
use Rattle.ar_limits.specs.declared.limits.Limits.{Limits}
use Rattle.ar_bundle.specs.Bundle.{Bundle, events_of, finding_at, run_at}
use Rattle.ar_board.specs.Posting.{posted}
use Rattle.ar_board.specs.Receipts.{posted_by, received}
use Rattle.ar_bundle.specs.Lawful.{AtMostOnce, IsHistory, numbers_of, times}
use Rattle.ar_bundle.specs.declared.bundle.RunPart.{RunPart}
use Rattle.ar_bundle.specs.declared.finding.Finding.{Finding}
use Rattle.ar_bundle.specs.declared.history.Entry.{Entry}
use Rattle.ar_board.specs.declared.cell.posted.Posted.{Posted}
use Rattle.ar_board.specs.declared.cell.receipt.Receipt.{Receipt}
use Rattle.ar_board.specs.declared.cell.snapshot.LookFault.{LookFault}
use Rattle.ar_board.specs.declared.cell.snapshot.LookFault.TheVariants.{OutOfMemory, Stale}
use Rattle.ar_board.specs.declared.cell.snapshot.Snapshot.{Snapshot}
use Rattle.ar_board.specs.Locks.{lock_of}
use Rattle.ar_bundle.specs.Event.{EventNumber}

-- what a cell keeps of a run: its history, the worker that posted each entry, how many each worker posted, and the
-- state of the run
pub record KeptRun : Type 0 where
  pub history : List Entry
  pub authors : List ℕ
  pub posts : List ℕ
  pub state : Standing

-- each run of the bundle, and how many entries there are by the book of the ledger
pub record Cell : Type 0 where
  pub runs : List KeptRun
  pub total : ℕ

-- ---- what is true of a cell

-- how many entries a worker posted, and each of the workers
abbrev pub posts_of : (worker : ℕ) → (authors : List ℕ) → ℕ
posts_of worker authors = count_by (λ author. author == worker) authors

pub record ArePosts (workers : ℕ) (authors posts : List ℕ) : Type 0 where
  pub each_worker : length posts ≡ workers
  pub counted : (worker : ℕ) → worker < workers → slice_get posts worker ≡ Some (posts_of worker authors)

-- what the cell of a lock keeps of a run with these limits
pub record IsKept (bundle : Bundle) (workers lock run : ℕ) (limits : List Limits) (kept : KeptRun) : Type 0 where
  -- numbers of the run, with their findings and effects, each at most once
  pub history : IsHistory bundle run limits kept.history
  pub once : AtMostOnce (numbers_of kept.history)
  -- the entries of a run that is under another lock aren't here
  pub own : lock_of run ≢ lock → kept.history ≡ []
  -- a worker for each entry
  pub authors : length kept.authors ≡ length kept.history
  pub are_workers : AllByRecursion (λ author. author < workers) kept.authors
  pub posts : ArePosts workers kept.authors kept.posts
  -- where the history leads to
  pub state : Replays limits (events_of bundle (numbers_of kept.history)) kept.state

-- so it is of each run of the bundle, and the book counts the entries of all histories
pub record IsCell (bundle : Bundle) (workers lock : ℕ) (cell : Cell) : Type 0 where
  pub as_many : length cell.runs ≡ length bundle.runs
  pub each : (run : ℕ) (part : RunPart) (kept : KeptRun) → slice_get bundle.runs run ≡ Some part
      → slice_get cell.runs run ≡ Some kept
      → IsKept bundle workers lock run part.limits kept
  pub counted : cell.total ≡ sum_by (λ kept. length kept.history) cell.runs

-- how many entries of the bundle are of runs under a lock
abbrev pub entries_under : Bundle → (lock : ℕ) → ℕ
entries_under bundle lock = count_by (λ entry. lock_of entry.run == lock) bundle.entries

-- ---- the histories in it

abbrev pub histories_of : Cell → List (List Entry)
histories_of cell = map (λ kept. kept.history) cell.runs

abbrev pub history_at : Cell → (run : ℕ) → List Entry
history_at cell run = get_or (histories_of cell) run []

-- the states that they lead to
abbrev pub states_of : Cell → List Standing
states_of cell = map (λ kept. kept.state) cell.runs

abbrev pub authors_of : Cell → List (List ℕ)
authors_of cell = map (λ kept. kept.authors) cell.runs

abbrev pub authors_at : Cell → (run : ℕ) → List ℕ
authors_at cell run = get_or (authors_of cell) run []

-- nothing was posted yet
pub record IsEmpty (cell : Cell) : Type 0 where
  pub histories : AllByRecursion (λ kept. kept.history ≡ []) cell.runs
  pub total : cell.total ≡ 0

-- ---- a post

-- the run of a number is under the lock
abbrev pub IsUnder : Bundle → (lock number : ℕ) → Type 0
IsUnder bundle lock number = (run : ℕ) → run_at bundle number ≡ Some run → lock_of run ≡ lock

-- the number is in a history
abbrev pub IsInHistory : (number : EventNumber) → Cell → Type 0
IsInHistory number cell = 0 < times number (histories_of cell)

-- a number of the bundle, of a run under the lock, with its finding
pub record IsPostable (bundle : Bundle) (lock number : ℕ) (finding : Finding) : Type 0 where
  pub there : number < length bundle.entries
  pub under : IsUnder bundle lock number
  pub finds : finding_at bundle number ≡ Some finding

-- one entry more, at the end of the history of its number's run: what the core does where a worker posts the number
pub record IsPosted (bundle : Bundle) (worker number : ℕ) (finding : Finding) (before after : Cell)
    (answer : Posted) : Type 0 where
  pub core : posted bundle (histories_of before) number ≡ Some (histories_of after)
  pub run : ℕ
  pub own : run_at bundle number ≡ Some run
  pub entry : history_at after run
      ≡ history_at before run ++ record { number = number; finding = finding; effect = answer.effect } ∷ []
  pub place : answer.place ≡ length (history_at before run)
  pub author : authors_of after ≡ set (authors_of before) run (authors_at before run ++ worker ∷ [])
  pub total : after.total ≡ suc before.total

-- a post to a cell, by which the amount of the worker's share is one more
pub record IsAdded {L : Type 0} (bundle : Bundle) (worker number : ℕ) (finding : Finding) (before after : Cell)
    (had has : Share L) (answer : Posted) : Type 0 where
  pub posted : IsPosted bundle worker number finding before after answer
  pub share : has.amount ≡ had.amount + 1

-- ---- a look

-- what is shown of a run: the phases that its history leads to, and how many entries each worker posted
pub record IsSnapshot (bundle : Bundle) (workers run : ℕ) (cell : Cell) (shown : Snapshot) : Type 0 where
  pub part : RunPart
  pub there : slice_get bundle.runs run ≡ Some part
  pub phase : shown.phase ≡ run_phase part.limits (events_of bundle (numbers_of (history_at cell run)))
  pub metrics : shown.metrics.items ≡ metric_phases part.limits (events_of bundle (numbers_of (history_at cell run)))
  pub posts : ArePosts workers (authors_at cell run) shown.posts.items

-- the numbers and positions of a worker's entries in a run's history are those of its receipts for the run
abbrev pub IsFresh : Cell → (run worker : ℕ) → List Receipt → Type 0
IsFresh cell run worker receipts = posted_by worker (history_at cell run) (authors_at cell run) ≡ received run receipts

-- a run is shown to a worker whose entries in it are just those of its receipts
pub record IsShownTo (bundle : Bundle) (workers run worker : ℕ) (cell : Cell) (receipts : List Receipt)
    (shown : Snapshot) : Type 0 where
  pub snapshot : IsSnapshot bundle workers run cell shown
  pub fresh : IsFresh cell run worker receipts

-- the refusal where they aren't says how many entries by the worker there are
abbrev pub stale : Cell → (run worker : ℕ) → LookFault
stale cell run worker = Stale (posts_of worker (authors_at cell run))

-- out of memory, or the number of entries by the worker
abbrev pub CanBe : (worker : ℕ) → (authors : List ℕ) → LookFault → Type 0
CanBe worker authors OutOfMemory = Unit {0}
CanBe worker authors (Stale posts) = posts ≡ posts_of worker authors

-- ---- closing

-- of what each run has, that of the runs under a lock moves to their positions among others, which stay
pub record ArePut {A : Type 0} (lock : ℕ) (own before after : List A) : Type 0 where
  pub as_many : length after ≡ length before
  pub put : (run : ℕ) → run < length before → lock_of run ≡ lock → slice_get after run ≡ slice_get own run
  pub others : (run : ℕ) → lock_of run ≢ lock → slice_get after run ≡ slice_get before run

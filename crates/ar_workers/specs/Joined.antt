-- What receipts and doubles of all workers name, and what shows that a number was lost.
use Rattle.std.specs.Prelude.{◌≡◌, ◌<◌, ◌⊎◌, ◌+◌, ◌++◌, ℕ, List, [], ◌∷◌, length, map}
use Rattle.ar_bundle.specs.Bundle.{Bundle}
use Rattle.ar_bundle.specs.Lawful.{times_in}
use Rattle.ar_bundle.specs.declared.history.Entry.{Entry}
use Rattle.ar_board.specs.Lost.{IsLost, IsUnmetAmong}
use Rattle.ar_board.specs.declared.lost.Lost.{Lost as Losing}
use Rattle.ar_board.specs.declared.cell.receipt.Receipt.{Receipt}
use Rattle.ar_queue.specs.Numbers.{once_below}
use Rattle.ar_workers.specs.declared.error.WorkError.{WorkError}
use Rattle.ar_workers.specs.declared.error.WorkError.TheVariants.{Lost, NoThread, OutOfMemory}
use Rattle.ar_bundle.specs.Event.{EventNumber}

-- the numbers that receipts and doubles name
abbrev pub named : List Receipt → (doubles : List ℕ) → List ℕ
named receipts doubles = map (λ receipt. receipt.number) receipts ++ doubles

-- the numbers that receipts of all seats name
abbrev pub named_by : List (List Receipt) → List ℕ
named_by [] = []
named_by (own ∷ receipts) = map (λ receipt. receipt.number) own ++ named_by receipts

-- the receipts of all seats and the doubles together name each number of the bundle exactly once, and no other
abbrev pub NameEachOnce : (events : ℕ) → List (List Receipt) → (doubles : List ℕ) → Type 0
NameEachOnce events receipts doubles = (number : ℕ)
    → times_in number (named_by receipts) + times_in number doubles ≡ once_below number events

-- what shows that a number was lost: receipts and doubles name each number once, and closing the board gave this for
-- the receipts
pub record IsShown (bundle : Bundle) (lost : Losing) (doubles : List ℕ) : Type 0 where
  pub each_once : NameEachOnce (length bundle.entries) (map (λ own. own.items) lost.receipts.items) doubles
  pub losing : IsLost bundle (map (λ own. own.items) lost.receipts.items) lost

-- a number is a double, or a receipt for it isn't met
abbrev pub IsDoubleOrUnmet : (number : EventNumber) → List (List Entry) → List (List Receipt) → (doubles : List ℕ)
    → Type 0
IsDoubleOrUnmet number histories receipts doubles =
    (0 < times_in number doubles) ⊎ IsUnmetAmong histories receipts number

-- why workers give no histories: no cause is claimed where a thread couldn't be started or memory was refused
abbrev pub IsWorkCause : Bundle → WorkError → Type 0
IsWorkCause bundle NoThread = Unit {0}
IsWorkCause bundle OutOfMemory = Unit {0}
IsWorkCause bundle (Lost lost doubles) = IsShown bundle lost doubles.items

-- no number was lost
abbrev pub IsNotLost : WorkError → Type 0
IsNotLost NoThread = Unit {0}
IsNotLost OutOfMemory = Unit {0}
IsNotLost (Lost lost doubles) = ⊥

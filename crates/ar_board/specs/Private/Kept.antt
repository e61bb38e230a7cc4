-- What every step of the core keeps.
use Rattle.std.specs.Prelude.{◌≡◌, ◌≤◌, ℕ, List, [], length, take, get_or}
use Rattle.ar_bundle.specs.Bundle.{Bundle}
use Rattle.ar_board.specs.Core.{StepState, occurrences, own_numbers}
use Rattle.ar_bundle.specs.Lawful.{AreHistories, numbers_of}
use Rattle.ar_bundle.specs.declared.history.Entry.{Entry}

-- what holds in each state that steps lead to
pub record IsSound (bundle : Bundle) (state : StepState) : Type 0 where
  pub next : state.next ≤ length bundle.entries
  pub once : (number : ℕ) → occurrences number state ≡ 1
  pub parked : length state.parked ≡ length bundle.entries
  pub histories : AreHistories bundle 0 bundle.runs state.histories

-- a history has the first of its run's numbers, in rising order
abbrev pub HasFirst : Bundle → (run : ℕ) → List Entry → Type 0
HasFirst bundle run history = numbers_of history ≡ take (length history) (own_numbers bundle run)

-- so has each of them, in each state that steps of an ordered core lead to
abbrev pub AreInOrder : Bundle → List (List Entry) → Type 0
AreInOrder bundle histories = (run : ℕ) → HasFirst bundle run (get_or histories run [])

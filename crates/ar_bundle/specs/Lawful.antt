-- Lawful histories: each number appears once, in its own run's history, with its finding and its effect.
use Rattle.std.specs.Prelude.{◌≡◌, ◌<◌, ◌≤◌, ◌==◌, ◌+◌, ℕ, suc, if◌then◌else◌, List, [], ◌∷◌, length, map, Some}
use Rattle.std.specs.List.{AllByRecursion}
use Rattle.ar_limits.specs.Run.{effects}
use Rattle.ar_limits.specs.declared.limits.Limits.{Limits}
use Rattle.ar_bundle.specs.Bundle.{Bundle, events_of, finding_at, run_at}
use Rattle.ar_bundle.specs.declared.bundle.RunPart.{RunPart}
use Rattle.ar_bundle.specs.declared.history.Entry.{Entry}
use Rattle.ar_bundle.specs.Event.{EventNumber}

abbrev pub numbers_of : List Entry → List EventNumber
numbers_of history = map (λ entry. entry.number) history

-- a number of the run, with its finding
pub record IsFound (bundle : Bundle) (run : ℕ) (entry : Entry) : Type 0 where
  pub own : run_at bundle entry.number ≡ Some run
  pub finding : finding_at bundle entry.number ≡ Some entry.finding

-- a history of a run with these limits: of its own numbers alone, each with its finding and the effect that it has
-- there
pub record IsHistory (bundle : Bundle) (run : ℕ) (limits : List Limits) (history : List Entry) : Type 0 where
  pub found : AllByRecursion (IsFound bundle run) history
  pub effects : map (λ entry. entry.effect) history ≡ effects limits (events_of bundle (numbers_of history))

-- how often a number appears among some, and in all histories
abbrev pub times_in : (number : EventNumber) → List EventNumber → ℕ
times_in number [] = 0
times_in number (first ∷ numbers) = if first == number then suc (times_in number numbers) else times_in number numbers

abbrev pub times : (number : EventNumber) → List (List Entry) → ℕ
times number [] = 0
times number (history ∷ histories) = times_in number (numbers_of history) + times number histories

-- each run of the bundle has a history, counting from a run
abbrev pub AreHistories : Bundle → (from : ℕ) → List RunPart → List (List Entry) → Type 0
AreHistories bundle from [] [] = Unit {0}
AreHistories bundle from (run ∷ runs) (history ∷ histories) =
    IsHistory bundle from run.limits history × AreHistories bundle (suc from) runs histories
AreHistories bundle from runs histories = ⊥

abbrev pub AtMostOnce : List EventNumber → Type 0
AtMostOnce numbers = (number : ℕ) → times_in number numbers ≤ 1

-- what a board has while numbers are still missing: a history for each run, of its own numbers, each at most once, with
-- their findings and effects
pub record AreHistoriesSoFar (bundle : Bundle) (histories : List (List Entry)) : Type 0 where
  pub of_runs : AreHistories bundle 0 bundle.runs histories
  pub once : AllByRecursion (λ history. AtMostOnce (numbers_of history)) histories

-- a history for each run, and each number of the bundle just once in them
pub record AreLawful (bundle : Bundle) (histories : List (List Entry)) : Type 0 where
  pub of_runs : AreHistories bundle 0 bundle.runs histories
  pub once : (number : EventNumber) → number < length bundle.entries → times number histories ≡ 1

-- each number is below those after it
abbrev pub Rise : List EventNumber → Type 0
Rise [] = Unit {0}
Rise (number ∷ numbers) = AllByRecursion (λ later. number < later) numbers × Rise numbers

-- numbers rise in each history
abbrev pub AllRise : List (List Entry) → Type 0
AllRise histories = AllByRecursion (λ history. Rise (numbers_of history)) histories

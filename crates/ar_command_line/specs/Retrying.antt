-- Calls of the system that a signal interrupts, and that are made again.
use Rattle.std.specs.Prelude.{◌≡◌, ◌≢◌, ◌⊎◌, ◌<◌, ◌-◌, ◌^◌, ℕ, List, [], ◌∷◌, ◌++◌, length, Option, Result, Ok, Err, IfErr}
use Rattle.std.specs.List.{All}
use Rattle.std.specs.IoError.{error_kind}
use Rattle.std.specs.declared.io.Error.{Error}
use Rattle.std.specs.declared.io.ErrorKind.{ErrorKind}
use Rattle.std.specs.declared.io.ErrorKind.TheVariants.{Interrupted, TimedOut, WriteZero}
use Rattle.ar_command_line.specs.History.{Extends}

-- a call failed with an error of a kind
abbrev pub FailsAs : {A : Type 0} → ErrorKind → Result A Error → Type 0
FailsAs kind (Ok value) = ⊥
FailsAs kind (Err fault) = error_kind fault ≡ kind

-- a signal interrupted the call
abbrev pub IsInterrupted : {A : Type 0} → Result A Error → Type 0
IsInterrupted answer = FailsAs Interrupted answer

-- a fault that is more than an interruption: the call isn't to be made again
abbrev pub IsLasting : Error → Type 0
IsLasting fault = error_kind fault ≢ Interrupted

-- how often a call is made at most, as the standard library has it
abbrev pub most_tries : ℕ
most_tries = 2 ^ 64 - 1

-- the device answered with these interruptions, and then with what is returned
pub record IsAnswered {A : Type 0} (before after : Option (List (Result A Error)))
    (interruptions : List (Result A Error)) (result : Result A Error) : Type 0 where
  pub answers : Extends before after (interruptions ++ result ∷ [])
  pub lasting : IfErr result IsLasting
  pub few : length interruptions < most_tries

-- the device answered with these interruptions alone, `most_tries` of them, and `TimedOut` is returned
pub record IsGivenUp {A : Type 0} (before after : Option (List (Result A Error)))
    (interruptions : List (Result A Error)) (result : Result A Error) : Type 0 where
  pub answers : Extends before after interruptions
  pub many : length interruptions ≡ most_tries
  pub times_out : FailsAs TimedOut result

-- A call was made until no signal interrupted it. `before` and `after` are the device's answers so far, where they are
-- kept.
pub record Retries {A : Type 0} (before after : Option (List (Result A Error))) (result : Result A Error) : Type 0 where
  -- first came interruptions alone, or none,
  pub interruptions : List (Result A Error)
  pub are : All IsInterrupted interruptions
  -- and then the answer that is returned, unless there were too many
  pub ends : IsAnswered before after interruptions result ⊎ IsGivenUp before after interruptions result

-- what a write results in: what it was answered, but one that took nothing of some bytes has failed
pub record ResultsIn (bytes : List ℕ) (answer outcome : Result ℕ Error) : Type 0 where
  pub nothing : answer ≡ Ok 0 → 0 < length bytes → FailsAs WriteZero outcome
  pub same : (answer ≡ Ok 0 → length bytes ≡ 0) → outcome ≡ answer

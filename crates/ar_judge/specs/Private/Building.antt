-- What a metric's text is built to, where it has one.
use Rattle.ar_judge.specs.Condition.{Condition}
use Rattle.std.specs.Prelude.{◌≡◌, ℕ, List, Option, Some, Result, Ok, Err}
use Rattle.ar_value.specs.Shape.{Shape}
use Rattle.ar_judge.specs.Saying.{IsRefused}
use Rattle.ar_judge.specs.Verdict.{AreBuilt}
use Rattle.ar_judge.specs.declared.error.BuildCause.{BuildCause}
use Rattle.ar_judge.specs.declared.error.BuildCause.TheVariants.{OutOfMemory}
use Rattle.ar_judge.specs.declared.error.BuildError.{BuildError}
use Rattle.ar_judge.specs.declared.error.BuildError.TheVariants as errors

pub record RefusesThere (shape : Shape) (text : Option (List ℕ)) (cause : BuildCause) : Type 0 where
  pub refused_text : List ℕ
  pub is_there : text ≡ Some refused_text
  pub is : IsRefused shape refused_text cause

abbrev pub BuildsEach : Shape → Option (List ℕ) → Result (Option Condition) BuildCause → Type 0
BuildsEach shape text (Ok condition) = AreBuilt shape text condition
BuildsEach shape text (Err OutOfMemory) = Unit {0}
BuildsEach shape text (Err cause) = RefusesThere shape text cause

abbrev pub success_refused : BuildCause → BuildError
success_refused OutOfMemory = errors.OutOfMemory
success_refused cause = errors.Success cause

abbrev pub failure_refused : BuildCause → BuildError
failure_refused OutOfMemory = errors.OutOfMemory
failure_refused cause = errors.Failure cause

-- The exit status of the program.
use Rattle.std.specs.Prelude.{◌≡◌, ◌≢◌, ◌⊎◌, ℕ, Result, Err}
use Rattle.ar_command.specs.Serving.{status_of}
use Rattle.ar_command.specs.declared.serving.Closing.{Closing}
use Rattle.ar_command.specs.declared.serving.Refusal.{Refusal}
use Rattle.ar_command.specs.declared.serving.ServeError.{ServeError}
use Rattle.ar_command.specs.declared.serving.ServeError.TheVariants.{Refused}

-- The program ends with this status after a command's outcome.
pub record EndsWith (outcome : Result Closing ServeError) (status : ℕ) : Type 0 where
  -- a refusal that there is no memory to put into words is out of memory
  pub refused : (refusal : Refusal) → outcome ≡ Err (Refused refusal) → (status ≡ 2) ⊎ (status ≡ 3)
  -- every other outcome has its own status
  pub other : ((refusal : Refusal) → outcome ≢ Err (Refused refusal)) → status ≡ status_of outcome

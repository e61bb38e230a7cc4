-- What the errors of a command's parts say.
use Rattle.std.specs.Prelude.{◌≢◌, Bool, true, false}
use Rattle.ar_workers.specs.declared.error.WorkError.{WorkError}
use Rattle.ar_workers.specs.declared.error.WorkError.TheVariants as work
use Rattle.ar_command.specs.declared.serving.Refusal.{Refusal}
use Rattle.ar_command.specs.declared.serving.ServeError.{ServeError}
use Rattle.ar_command.specs.declared.serving.ServeError.TheVariants.{Refused, Work, OutOfMemory}

abbrev pub is_serve_memory : ServeError → Bool
is_serve_memory OutOfMemory = true
is_serve_memory error = false

-- what a refusal says, and what an end of workers; no reader and no writer failed
abbrev pub Names : (Refusal → Type 0) → (WorkError → Type 0) → ServeError → Type 0
Names P Q (Refused refusal) = P refusal
Names P Q (Work error) = Q error
Names P Q error = ⊥

-- what a refusal says; there were no workers
abbrev pub NamesRefusal : (Refusal → Type 0) → ServeError → Type 0
NamesRefusal P = Names P (λ error. ⊥)

-- what an end of workers says, and that it isn't out of memory; the input was read
abbrev pub NamesWork : (WorkError → Type 0) → ServeError → Type 0
NamesWork Q = Names (λ refusal. ⊥) (λ error. Q error × (error ≢ work.OutOfMemory))

-- What helpers return that know no index.
use Rattle.std.specs.Prelude.{◌≡◌, ℕ, Result, Ok, Err}
use Rattle.ar_safety.specs.declared.error.Cause.{Cause}
use Rattle.ar_safety.specs.declared.error.Cause.TheVariants as causes
use Rattle.ar_safety.specs.declared.error.Reason.{Reason}
use Rattle.ar_verify.specs.declared.failure.Failure.{Failure}
use Rattle.ar_verify.specs.declared.failure.Failure.TheVariants as failures

abbrev pub cause_at : (index : ℕ) → Failure → Cause
cause_at index (failures.Fault reason) = causes.Fault index reason
cause_at index failures.OutOfMemory = causes.OutOfMemory

-- What a helper gave, seen by a view, is what is meant, and so is why it gave nothing, unless memory ran out.
abbrev pub Meets : {X Y : Type 0} → (X → Y) → Result X Failure → Result Y Reason → Type 0
Meets view (Ok x) answer = answer ≡ Ok (view x)
Meets view (Err (failures.Fault reason)) answer = answer ≡ Err reason
Meets view (Err failures.OutOfMemory) answer = Unit {0}

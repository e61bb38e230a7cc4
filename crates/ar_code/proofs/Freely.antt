-- Answers that no growth can prevent.
use Rattle.std.proofs.Common.{◌≡◌, Bool, true, false, Result, Ok, Err}
use Rattle.ar_value.specs.Answer.{Gives, Unless}
use Rattle.ar_code.specs.Decoding.{is_memory}
use Rattle.ar_code.specs.declared.error.ImageError.{ImageError}

pub unless_any : (P : Type 0) (m : Bool) → P → Unless m P
unless_any P true p = tt
unless_any P false p = p

-- what is never out of memory is what is defined
pub gives_freely : {X Y : Type 0} (view : X → Y) (r : Result X ImageError) (answer : Result Y ImageError) → Gives (λ _. false) view r answer → Gives is_memory view r answer
gives_freely view (Ok x) answer h = h
gives_freely view (Err e) answer h = unless_any (answer ≡ Err e) (is_memory e) h

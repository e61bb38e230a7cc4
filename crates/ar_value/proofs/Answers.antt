-- Answers of which fewer may be out of memory.
use Rattle.std.proofs.Common.{◌≡◌, Bool, true, false, Result, Ok, Err, refl}
use Rattle.ar_value.specs.Answer.{Gives, Unless}

pub unless_more : (P : Type 0) (m n : Bool) → (m ≡ true → n ≡ true) → Unless m P → Unless n P
unless_more P true n more h = rw (more refl) tt
unless_more P false true more h = tt
unless_more P false false more h = h

pub gives_more : {X Y E : Type 0} (m n : E → Bool) (view : X → Y) (r : Result X E) (answer : Result Y E)
    → ((e : E) → m e ≡ true → n e ≡ true) → Gives m view r answer → Gives n view r answer
gives_more m n view (Ok x) answer more h = h
gives_more m n view (Err e) answer more h = unless_more (answer ≡ Err e) (m e) (n e) (more e) h

-- Answers that may be out of memory.
use Rattle.std.proofs.Common.{Bool, true, false}
use Rattle.ar_value.specs.Answer.{Unless}

pub unless_holds : (memory : Bool) (P : Type 0) → P → Unless memory P
unless_holds true P h = tt
unless_holds false P h = h

pub unless_maps : (memory : Bool) (P Q : Type 0) → (P → Q) → Unless memory P → Unless memory Q
unless_maps true P Q map h = tt
unless_maps false P Q map h = map h

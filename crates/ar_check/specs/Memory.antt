-- Which errors are out of memory.
use Rattle.std.specs.Prelude.{Bool, true, false}
use Rattle.ar_check.specs.declared.error.TypeError.{TypeError}
use Rattle.ar_check.specs.declared.error.TypeError.TheVariants.{OutOfMemory}

abbrev pub is_memory : TypeError → Bool
is_memory OutOfMemory = true
is_memory error = false

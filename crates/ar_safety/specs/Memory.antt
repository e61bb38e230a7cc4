-- Which causes are out of memory.
use Rattle.std.specs.Prelude.{Bool, true, false}
use Rattle.ar_safety.specs.declared.error.Cause.{Cause}
use Rattle.ar_safety.specs.declared.error.Cause.TheVariants.{OutOfMemory}

abbrev pub is_memory : Cause → Bool
is_memory OutOfMemory = true
is_memory cause = false

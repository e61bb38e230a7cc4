-- Why a text isn't read.
use Rattle.std.specs.Prelude.{Bool, true, false}
use Rattle.ar_stream.specs.declared.error.StreamError.{StreamError}
use Rattle.ar_stream.specs.declared.error.StreamError.TheVariants.{OutOfMemory}

abbrev pub is_stream_memory : StreamError → Bool
is_stream_memory OutOfMemory = true
is_stream_memory error = false

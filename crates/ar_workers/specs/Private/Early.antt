-- What is reported of workers that ended early.
use Rattle.ar_queue.specs.declared.side_by_side.Unfinished.{Unfinished}
use Rattle.ar_queue.specs.declared.side_by_side.Unfinished.TheVariants as early
use Rattle.ar_workers.specs.declared.error.WorkError.{WorkError}
use Rattle.ar_workers.specs.declared.error.WorkError.TheVariants as cause

abbrev pub reported : Unfinished → WorkError
reported early.NoThread = cause.NoThread
reported early.OutOfMemory = cause.OutOfMemory

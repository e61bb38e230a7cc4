use Rattle.std.proofs.Common.{take}
use Rattle.ar_bundle.specs.Lawful.{times}
use Rattle.ar_board.specs.Private.Closing.{AreStored}
use Rattle.ar_board.proofs.closing.note_all_stored.Given as goal

-- the marks after the histories so far
abbrev pub invariant-loop-history : goal.invariant-loop-history
invariant-loop-history l = AreStored (λ number. times number (take l.history-index l.histories)) l.fn.stored.items l.stored.items

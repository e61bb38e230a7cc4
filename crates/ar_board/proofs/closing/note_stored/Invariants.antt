use Rattle.std.proofs.Common.{take}
use Rattle.ar_bundle.specs.Lawful.{numbers_of, times_in}
use Rattle.ar_board.specs.Private.Closing.{AreStored}
use Rattle.ar_board.proofs.closing.note_stored.Given as goal

-- the marks after the entries so far
abbrev pub invariant-loop-entry : goal.invariant-loop-entry
invariant-loop-entry l = AreStored (λ number. times_in number (numbers_of (take l.entry-index l.history))) l.fn.stored.items l.stored.items

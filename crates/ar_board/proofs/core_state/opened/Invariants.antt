use Rattle.std.proofs.Common.{take}
use Rattle.ar_board.specs.Private.Inside.{AreOpened}
use Rattle.ar_board.proofs.core_state.opened.Given as goal

-- the runs so far
abbrev pub invariant-loop-part : goal.invariant-loop-part
invariant-loop-part l = AreOpened l.bundle (take l.part-index l.parts) l.runs.items

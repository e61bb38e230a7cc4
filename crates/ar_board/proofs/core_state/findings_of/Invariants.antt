use Rattle.std.proofs.Common.{◌≤◌}
use Rattle.ar_board.specs.Private.Inside.{AreFound}
use Rattle.ar_board.proofs.core_state.findings_of.Given as goal

-- the findings so far
abbrev pub invariant-loop-number : goal.invariant-loop-number
invariant-loop-number l = (l.number ≤ l.events) × AreFound l.bundle l.number l.findings.items

use Rattle.std.proofs.Common.{◌≤◌}
use Rattle.ar_bundle.specs.Growing.{AreGrown}
use Rattle.ar_bundle.proofs.plain.finish_plain.Given as goal

-- the numbers so far
abbrev pub invariant-loop-number : goal.invariant-loop-number
invariant-loop-number l = (l.number ≤ l.events) × AreGrown l.bundle l.number 0 l.bundle.runs l.runs.states.items l.runs.histories.items

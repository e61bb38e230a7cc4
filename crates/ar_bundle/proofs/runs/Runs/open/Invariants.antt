use Rattle.std.proofs.Common.{take}
use Rattle.ar_bundle.specs.Growing.{AreGrown}
use Rattle.ar_bundle.proofs.runs.Runs.open.Given as goal

-- the runs so far
abbrev pub invariant-loop-part : goal.invariant-loop-part
invariant-loop-part l = AreGrown l.bundle 0 0 (take l.part-index l.parts) l.states.items l.histories.items

use Rattle.std.proofs.Common.{◌≡◌, take}
use Rattle.ar_bundle.specs.Sound.{sizes_from}
use Rattle.ar_bundle.proofs.bundle.Bundle.sizes.Given as goal

-- the entries so far are counted
abbrev pub invariant-loop-entry : goal.invariant-loop-entry
invariant-loop-entry l = l.sizes.items ≡ sizes_from (take l.entry-index l.entry-items) 0 l.self.runs

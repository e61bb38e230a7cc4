use Rattle.std.proofs.Common.{◌≡◌, map, take}
use Rattle.ar_document.specs.Unmeasured.{is_unmeasured}
use Rattle.ar_document.proofs.unmeasured.unmeasured_among.Given as goal

-- the flags so far
abbrev pub invariant-loop-entry : goal.invariant-loop-entry
invariant-loop-entry l = l.flags.items ≡ map is_unmeasured (take l.entry-index l.entries)

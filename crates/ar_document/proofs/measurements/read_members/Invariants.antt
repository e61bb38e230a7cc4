use Rattle.std.proofs.Common.{length}
use Rattle.ar_document.proofs.Measuring.{Reading}
use Rattle.ar_document.proofs.measurements.read_members.Given as goal

abbrev pub invariant-members : goal.invariant-members
invariant-members l = Reading l.opened l.levels l.initial.reader l.reader l.entries

abbrev pub decreases-members : goal.decreases-members
decreases-members l = length l.reader

use Rattle.std.proofs.Common.{length}
use Rattle.ar_document.proofs.Measuring.{Listing}
use Rattle.ar_document.proofs.measurements.read_list.Given as goal

abbrev pub invariant-items : goal.invariant-items
invariant-items l = Listing l.opened l.levels l.initial.reader l.reader l.listed

abbrev pub decreases-items : goal.decreases-items
decreases-items l = length l.reader

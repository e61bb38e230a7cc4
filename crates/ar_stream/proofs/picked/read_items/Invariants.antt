use Rattle.std.proofs.Common.{length}
use Rattle.ar_stream.proofs.Picking.{Picking}
use Rattle.ar_stream.proofs.picked.read_items.Given as goal

abbrev pub invariant-items : goal.invariant-items
invariant-items l = Picking l.picks l.levels l.initial.reader l.reader l.left l.kept.items

abbrev pub decreases-items : goal.decreases-items
decreases-items l = length l.reader

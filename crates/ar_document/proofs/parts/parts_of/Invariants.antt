use Rattle.std.proofs.Common.{◌≡◌, ◌++◌, length}
use Rattle.std.specs.Vec.Iter.{into_iter_items, into_iter_len}
use Rattle.ar_document.specs.Private.Opened.{opened_with}
use Rattle.ar_document.specs.Parts.{HaveParts}
use Rattle.ar_document.proofs.parts.parts_of.Given as goal

-- the parts so far
abbrev pub invariant-loop-run : goal.invariant-loop-run
invariant-loop-run l =
    (l.yielded ++ into_iter_items l.run-iterator ≡ l.fn.runs.items)
    × (into_iter_len l.run-iterator ≡ length (into_iter_items l.run-iterator))
    × HaveParts (opened_with l.template l.metrics l.fn.runs.items) l.yielded l.parts.items

use Rattle.std.proofs.Common.{◌≡◌, ◌++◌, length}
use Rattle.std.specs.Vec.Iter.{into_iter_items, into_iter_len}
use Rattle.ar_board.specs.Cell.{histories_of, states_of}
use Rattle.ar_board.specs.Private.KeptRuns.{ArePutBelow, cell_of}
use Rattle.ar_board.proofs.cell.RunCell.put_runs.Given as goal

-- the histories and the states of the runs so far
abbrev pub invariant-loop-kept : goal.invariant-loop-kept
invariant-loop-kept g l =
    (l.yielded ++ into_iter_items l.kept-iterator ≡ into_iter_items l.initial.kept-iterator)
    × (into_iter_len l.kept-iterator ≡ length (into_iter_items l.kept-iterator))
    × (l.run ≡ length l.yielded)
    × ArePutBelow g.L.LockName.lock l.run (histories_of (cell_of (into_iter_items l.initial.kept-iterator) 0)) l.initial.all.histories.items l.all.histories.items
    × ArePutBelow g.L.LockName.lock l.run (states_of (cell_of (into_iter_items l.initial.kept-iterator) 0)) l.initial.all.states.items l.all.states.items

use Rattle.std.proofs.Common.{◌≤◌, ap, arith}
use Rattle.ar_bundle.specs.Bundle.{Bundle}
use Rattle.ar_board.specs.Cell.{entries_under}
use Rattle.ar_board.specs.Private.KeptRuns.{cell_of}
use Rattle.ar_board.proofs.FewEntries.{few_there}
use Rattle.ar_board.proofs.cell.RunCell.audit.Goals as goal

pub returns-clause-few : goal.returns-clause-few
returns-clause-few g c =
    let few : c.self.inside.book.total ≤ entries_under c.self.inside.bundle.now g.L.LockName.lock =
    few_there c.self.inside.bundle.now g.M.BundleName.workers g.L.LockName.lock (cell_of c.self.inside.runs.items c.self.inside.book.total) c.self.invariant.cell in
    let named = ap (λ (bundle : Bundle). entries_under bundle g.L.LockName.lock) c.self.invariant.is_named in
    let bound = c.audit.ensures.bound in
    omega arith

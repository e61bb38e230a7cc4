use Rattle.std.proofs.Common.{rules}
use Rattle.ar_board.proofs.Cells.{read_history}
use Rattle.ar_board.proofs.cell.RunCell.history.Goals as goal

pub returns : goal.returns
returns g c =
    let read = read_history g.M.BundleName.bundle g.M.BundleName.workers g.L.LockName.lock c.self.inside.bundle.now c.self.inside.runs.items c.self.inside.stored.items c.self.inside.book.total c.args.run c.index.result.now c.self.invariant c.requires c.index.ensures in
    search (rules, read)

use Rattle.std.proofs.Common.{ℕ, length, subst, rules}
use Rattle.ar_board.specs.Private.KeptRuns.{AreOpened}
use Rattle.ar_board.proofs.Opened.{inside_opened, is_empty, named_cell}
use Rattle.ar_board.proofs.cell.RunCell.new.Goals as goal

pub invariant_of-result : goal.invariant_of-result
invariant_of-result g c =
    inside_opened g.M.BundleName.bundle c.args.bundle.now c.args.workers g.M.BundleName.workers g.L.LockName.lock c.args.book.total c.events.result c.in_ok-open_runs.field-0.items c.in_ok-vec.field-0.items
    c.requires.bundle c.requires.workers (search rules) (subst (λ (lock : ℕ). AreOpened c.args.bundle.now c.args.workers lock (length c.args.bundle.now.runs) c.in_ok-open_runs.field-0.items) c.requires.lock (search rules)) c.requires.book (search rules) (search rules)

pub returns-clause-empty : goal.returns-clause-empty
returns-clause-empty g c = is_empty c.args.bundle.now c.args.workers c.args.lock c.args.book.total c.in_ok-open_runs.field-0.items (search rules) c.requires.book

pub returns-clause-cell : goal.returns-clause-cell
returns-clause-cell g c =
    named_cell g.M.BundleName.bundle c.args.bundle.now c.args.workers g.M.BundleName.workers g.L.LockName.lock c.args.book.total c.in_ok-open_runs.field-0.items c.requires.bundle c.requires.workers (subst (λ (lock : ℕ). AreOpened c.args.bundle.now c.args.workers lock (length c.args.bundle.now.runs) c.in_ok-open_runs.field-0.items) c.requires.lock (search rules)) c.requires.book

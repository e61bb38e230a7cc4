use Rattle.std.proofs.Common.{ℕ, Err, rules, arith, ap}
use Rattle.std.proofs.lemmas.Grind.{common_steps}
use Rattle.ar_board.specs.declared.cell.snapshot.LookFault.TheVariants as fault
use Rattle.ar_board.proofs.Shows.{counted_by, fresh_of, kept_run, of_fresh, shown_as}
use Rattle.ar_board.proofs.cell.RunCell.show.Goals as goal

pub agrees-requires : goal.agrees-requires
agrees-requires g c =
    let at = kept_run g.M.BundleName.bundle g.M.BundleName.workers g.L.LockName.lock c.self.inside.bundle.now c.self.inside.runs.items c.self.inside.stored.items c.self.inside.book.total c.args.run c.index-kept.result.now c.args.self.now c.self.invariant c.self.view_is c.requires.run.0 c.index-kept.ensures in
    at.is.authors

pub index-requires : goal.index-requires
index-requires g c =
    let at = kept_run g.M.BundleName.bundle g.M.BundleName.workers g.L.LockName.lock c.self.inside.bundle.now c.self.inside.runs.items c.self.inside.stored.items c.self.inside.book.total c.args.run c.index-kept.result.now c.args.self.now c.self.invariant c.self.view_is c.requires.run.0 c.index-kept.ensures in
    let each_worker = at.is.posts.each_worker in
    let inside = c.requires.worker in
    omega arith

pub returns-then-not-agrees-clause-stale : goal.returns-then-not-agrees-clause-stale
returns-then-not-agrees-clause-stale g c =
    let at = kept_run g.M.BundleName.bundle g.M.BundleName.workers g.L.LockName.lock c.self.inside.bundle.now c.self.inside.runs.items c.self.inside.stored.items c.self.inside.book.total c.args.run c.index-kept.result.now c.args.self.now c.self.invariant c.self.view_is c.requires.run.0 c.index-kept.ensures in
    let counted = counted_by g.M.BundleName.bundle g.M.BundleName.workers g.L.LockName.lock c.self.inside.bundle.now c.args.self.now c.args.run c.args.worker c.index.result.now c.index-kept.result.now at c.requires.worker c.index.ensures in (
      (λ _. ap (λ (posts : ℕ). Err (fault.Stale posts)) counted),
      (λ _ fresh.
          let agrees = c.agrees.ensures.1 (of_fresh g.M.BundleName.bundle g.M.BundleName.workers g.L.LockName.lock c.self.inside.bundle.now c.args.self.now c.args.run c.args.worker c.index-kept.result.now c.args.receipts.now at fresh) in
          absurd (search (rules, agrees))),
    )

pub returns-then-not-agrees-clause-fault : goal.returns-then-not-agrees-clause-fault
returns-then-not-agrees-clause-fault g c =
    let at = kept_run g.M.BundleName.bundle g.M.BundleName.workers g.L.LockName.lock c.self.inside.bundle.now c.self.inside.runs.items c.self.inside.stored.items c.self.inside.book.total c.args.run c.index-kept.result.now c.args.self.now c.self.invariant c.self.view_is c.requires.run.0 c.index-kept.ensures in
    counted_by g.M.BundleName.bundle g.M.BundleName.workers g.L.LockName.lock c.self.inside.bundle.now c.args.self.now c.args.run c.args.worker c.index.result.now c.index-kept.result.now at c.requires.worker c.index.ensures

pub snapshot-requires : goal.snapshot-requires
snapshot-requires g c =
    let at = kept_run g.M.BundleName.bundle g.M.BundleName.workers g.L.LockName.lock c.self.inside.bundle.now c.self.inside.runs.items c.self.inside.stored.items c.self.inside.book.total c.args.run c.index-kept.result.now c.args.self.now c.self.invariant c.self.view_is c.requires.run.0 c.index-kept.ensures in
    at.phases

pub returns-in_err-snapshot-clause-stale : goal.returns-in_err-snapshot-clause-stale
returns-in_err-snapshot-clause-stale g c =
    let at = kept_run g.M.BundleName.bundle g.M.BundleName.workers g.L.LockName.lock c.self.inside.bundle.now c.self.inside.runs.items c.self.inside.stored.items c.self.inside.book.total c.args.run c.index-kept.result.now c.args.self.now c.self.invariant c.self.view_is c.requires.run.0 c.index-kept.ensures in
    let fresh = fresh_of g.M.BundleName.bundle g.M.BundleName.workers g.L.LockName.lock c.self.inside.bundle.now c.args.self.now c.args.run c.args.worker c.index-kept.result.now c.args.receipts.now at (c.agrees.ensures.0 (search rules)) in
    ((λ not_fresh. absurd (not_fresh fresh)), (λ is_stale fresh. absurd (search (rules, is_stale))))

pub returns-clause-shown : goal.returns-clause-shown
returns-clause-shown g c =
    let at = kept_run g.M.BundleName.bundle g.M.BundleName.workers g.L.LockName.lock c.self.inside.bundle.now c.self.inside.runs.items c.self.inside.stored.items c.self.inside.book.total c.args.run c.index-kept.result.now c.args.self.now c.self.invariant c.self.view_is c.requires.run.0 c.index-kept.ensures in
    record {
      snapshot = shown_as g.M.BundleName.bundle g.M.BundleName.workers g.L.LockName.lock c.self.inside.bundle.now c.args.self.now c.args.run c.index-kept.result.now c.in_ok-snapshot.field-0 at c.self.invariant.is_named c.in_ok-snapshot.ensures.phase c.in_ok-snapshot.ensures.metrics c.in_ok-snapshot.ensures.posts;
      fresh = fresh_of g.M.BundleName.bundle g.M.BundleName.workers g.L.LockName.lock c.self.inside.bundle.now c.args.self.now c.args.run c.args.worker c.index-kept.result.now c.args.receipts.now at (c.agrees.ensures.0 (search rules));
    }

pub returns-clause-stale : goal.returns-clause-stale
returns-clause-stale g c =
    let at = kept_run g.M.BundleName.bundle g.M.BundleName.workers g.L.LockName.lock c.self.inside.bundle.now c.self.inside.runs.items c.self.inside.stored.items c.self.inside.book.total c.args.run c.index-kept.result.now c.args.self.now c.self.invariant c.self.view_is c.requires.run.0 c.index-kept.ensures in
    let fresh = fresh_of g.M.BundleName.bundle g.M.BundleName.workers g.L.LockName.lock c.self.inside.bundle.now c.args.self.now c.args.run c.args.worker c.index-kept.result.now c.args.receipts.now at (c.agrees.ensures.0 (search rules)) in
    ((λ not_fresh. absurd (not_fresh fresh)), (λ is_stale. absurd cc))

pub index-kept-requires : goal.index-kept-requires
index-kept-requires g c = grind (arith, common_steps)

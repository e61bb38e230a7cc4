use Rattle.std.proofs.Common.{arith, set, rules, refl, subst, sym}
use Rattle.std.proofs.lemmas.Grind.{common_steps}
use Rattle.ar_board.specs.Cell.{Cell, IsPosted, IsInHistory}
use Rattle.ar_board.specs.Private.KeptRuns.{cell_of}
use Rattle.ar_board.proofs.Cells.{IsReady, can_take, inside_push, is_posted, not_there, ready, is_there}
use Rattle.ar_board.proofs.cell.RunCell.add.Goals as goal

pub returns-then-index-clause-double : goal.returns-then-index-clause-double
returns-then-index-clause-double g c =
    let there = is_there g.M.BundleName.bundle g.M.BundleName.workers g.L.LockName.lock c.self.inside.bundle.now c.self.inside.runs.items c.self.inside.stored.items c.self.inside.book.total c.args.number c.index.result.now c.self.invariant (search rules) c.index.ensures (search rules) in
    ((λ _. subst (IsInHistory c.args.number) c.self.view_is there), (λ _. refl))

pub push-posted-requires : goal.push-posted-requires
push-posted-requires g c =
    let is = ready g.M.BundleName.bundle g.M.BundleName.workers g.L.LockName.lock c.self.inside.bundle.now c.self.inside.runs.items c.self.inside.stored.items c.self.inside.book.total c.args.number c.run_of-run.result c.index_mut.result.now c.index.result.now c.self.invariant
    c.requires.number.under (search rules) c.run_of-run.ensures.own c.run_of-run.ensures.there c.index_mut.ensures.value c.index.ensures (search rules) in
    can_take c.self.inside.bundle.now g.M.BundleName.workers g.L.LockName.lock c.self.inside.runs.items c.args.number c.run_of-run.result c.args.worker c.index_mut.result.now c.event-event.result is c.requires.worker.0 c.event-event.ensures.metric

pub invariant_of-self : goal.invariant_of-self
invariant_of-self g c =
    let is : IsReady c.self.inside.bundle.now g.M.BundleName.workers g.L.LockName.lock c.self.inside.runs.items c.args.number c.run_of-run.result c.index_mut.result.now = ready g.M.BundleName.bundle g.M.BundleName.workers g.L.LockName.lock c.self.inside.bundle.now c.self.inside.runs.items c.self.inside.stored.items c.self.inside.book.total c.args.number c.run_of-run.result c.index_mut.result.now c.index.result.now c.self.invariant
    c.requires.number.under (search rules) c.run_of-run.ensures.own c.run_of-run.ensures.there c.index_mut.ensures.value c.index.ensures (search rules) in
    inside_push g.M.BundleName.bundle g.M.BundleName.workers g.L.LockName.lock c.self.inside.bundle.now c.self.inside.runs.items c.self.inside.stored.items c.self.inside.book.total c.add.new.self.total c.args.worker c.args.number c.run_of-run.result c.index_mut.result.now c.push-posted.new.self c.args.finding c.event-event.result c.push-posted.result
    c.self.invariant is c.requires.worker.0 (search rules) (search rules) c.event-event.ensures.exact c.push-posted.ensures c.add.ensures.total

pub returns-clause-added : goal.returns-clause-added
returns-clause-added g c =
    let is : IsReady c.self.inside.bundle.now g.M.BundleName.workers g.L.LockName.lock c.self.inside.runs.items c.args.number c.run_of-run.result c.index_mut.result.now = ready g.M.BundleName.bundle g.M.BundleName.workers g.L.LockName.lock c.self.inside.bundle.now c.self.inside.runs.items c.self.inside.stored.items c.self.inside.book.total c.args.number c.run_of-run.result c.index_mut.result.now c.index.result.now c.self.invariant
    c.requires.number.under (search rules) c.run_of-run.ensures.own c.run_of-run.ensures.there c.index_mut.ensures.value c.index.ensures (search rules) in
    let answer = is_posted g.M.BundleName.bundle g.M.BundleName.workers g.L.LockName.lock c.self.inside.bundle.now c.self.inside.runs.items c.self.inside.book.total c.add.new.self.total c.args.worker c.args.number c.run_of-run.result c.index_mut.result.now c.push-posted.new.self c.args.finding c.event-event.result c.push-posted.result
    c.self.invariant.is_named is (search rules) c.event-event.ensures.exact c.push-posted.ensures c.add.ensures.total in
    record {
      posted = subst (λ (before : Cell). IsPosted g.M.BundleName.bundle c.args.worker c.args.number c.args.finding before (cell_of (set c.self.inside.runs.items c.run_of-run.result c.push-posted.new.self) c.add.new.self.total) c.push-posted.result) c.self.view_is answer;
      share = c.add.ensures.amount;
    }

pub returns-clause-double : goal.returns-clause-double
returns-clause-double g c =
    let is : IsReady c.self.inside.bundle.now g.M.BundleName.workers g.L.LockName.lock c.self.inside.runs.items c.args.number c.run_of-run.result c.index_mut.result.now = ready g.M.BundleName.bundle g.M.BundleName.workers g.L.LockName.lock c.self.inside.bundle.now c.self.inside.runs.items c.self.inside.stored.items c.self.inside.book.total c.args.number c.run_of-run.result c.index_mut.result.now c.index.result.now c.self.invariant
    c.requires.number.under (search rules) c.run_of-run.ensures.own c.run_of-run.ensures.there c.index_mut.ensures.value c.index.ensures (search rules) in
    ((λ is_error. absurd cc), (λ there. absurd (not_there c.self.inside.bundle.now g.M.BundleName.workers g.L.LockName.lock c.self.inside.runs.items c.self.inside.book.total c.args.number c.run_of-run.result c.index_mut.result.now c.self.invariant.cell is (subst (IsInHistory c.args.number) (sym c.self.view_is) there))))

pub index_mut-requires : goal.index_mut-requires
index_mut-requires g c = grind (arith, common_steps)

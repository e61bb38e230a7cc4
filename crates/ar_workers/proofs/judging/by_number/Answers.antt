use Rattle.std.proofs.Common.{◌≡◌, ◌∷◌, [], ap, arith, append_assoc, length, ◌∙◌}
use Rattle.std.specs.Vec.Iter.{into_iter_items}
use Rattle.ar_workers.specs.Private.Judging.{numbers_judged}
use Rattle.ar_workers.proofs.Judged.{desk_known}
use Rattle.ar_workers.proofs.judging.by_number.Goals as goal

pub loop-desk-preserved : goal.loop-desk-preserved
loop-desk-preserved g c =
    let at = c.loop-desk in
    let steps : into_iter_items at.desk-iterator ≡ c.in-Some.desk ∷ into_iter_items c.next.new.self = c.in-Some.ensures.steps.0 in
    let gone = c.in-Some.ensures.steps.1 in
    let was = at.invariant.1 in
    let short = ap length steps in (
      append_assoc at.yielded (c.in-Some.desk ∷ []) _ ∙ rw (← steps) at.invariant.0,
      omega arith,
      c.put.ensures.size ∙ at.invariant.2,
      desk_known (λ desk. numbers_judged desk.judged.items) g.M.BundleName.bundle at.yielded c.in-Some.desk at.table.items c.put.new.table.items at.invariant.3 c.put.ensures.kept c.put.ensures.known,
    )

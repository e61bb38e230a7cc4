use Rattle.std.proofs.Common.{◌≡◌, ◌++◌, ◌∷◌, [], ℕ, length, suc, ap, sym, subst, ◌∙◌, append_assoc, arith}
use Rattle.std.proofs.lemmas.List.{length_push}
use Rattle.std.specs.Vec.Iter.{into_iter_items}
use Rattle.crossbeam_queue.specs.Passes.{view}
use Rattle.ar_queue.specs.Workers.{AreNamed, all_named}
use Rattle.ar_queue.proofs.Feeding.{joined_one, named_join}
use Rattle.ar_queue.proofs.side_by_side.join_all.Goals as goal

pub loop-handle-preserved : goal.loop-handle-preserved
loop-handle-preserved g c =
    let at = c.loop-handle in
    let steps : into_iter_items at.handle-iterator ≡ c.in-Some.handle ∷ into_iter_items c.next.new.self = c.in-Some.ensures.steps.0 in
    let gone = c.in-Some.ensures.steps.1 in
    let was = at.invariant.1 in
    let short = ap length steps in
    let longer = length_push at.yielded c.in-Some.handle in
    let pushed = ap length c.push_reserved.ensures.items in
    let desks = length_push at.desks.items c.in-All.done.desk in
    let before = at.invariant.2 in
    let count : suc (length at.yielded) ≡ length (at.yielded ++ c.in-Some.handle ∷ []) = omega arith in
    let named = named_join g.D.Desk.numbers (view at.pass) (view c.in-All.done.ended.pass) (view c.join-in-All.new.pass) at.desks.items c.in-All.done.desk at.invariant.6 c.in-All.done.named c.join-in-All.ensures.joined in (
      append_assoc at.yielded (c.in-Some.handle ∷ []) _ ∙ rw (← steps) at.invariant.0,
      omega arith,
      omega arith,
      (let capacity = c.push_reserved.ensures.capacity in let room = at.invariant.3 in omega arith),
      c.join-in-All.ensures.pass,
      joined_one (view at.pass) (view c.in-All.done.ended.pass) (view c.join-in-All.new.pass) (length (into_iter_items at.handle-iterator)) (length (into_iter_items c.next.new.self)) (length at.yielded) (length (at.yielded ++ c.in-Some.handle ∷ [])) short count
          at.invariant.5 c.in-All.done.ended.met c.join-in-All.ensures.joined,
      subst (λ desks. AreNamed (view c.join-in-All.new.pass).taken (all_named g.D.Desk.numbers desks)) (sym c.push_reserved.ensures.items) named,
    )

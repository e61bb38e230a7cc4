use Rattle.std.proofs.Common.{◌≡◌, ◌∷◌, [], ap, append_assoc, arith, length, subst, sym, ◌∙◌}
use Rattle.std.proofs.lemmas.List.{length_push}
use Rattle.std.specs.List.{AllByRecursion}
use Rattle.std.specs.Vec.Iter.{into_iter_items}
use Rattle.ar_bundle.proofs.HistoryLemmas.{all_push}
use Rattle.ar_workers.specs.Joined.{named}
use Rattle.ar_workers.proofs.posting.desks_of.Goals as goal

pub loop-seat-preserved : goal.loop-seat-preserved
loop-seat-preserved g c =
    let at = c.loop-seat in
    let steps : into_iter_items at.seat-iterator ≡ c.in-Some.seat ∷ into_iter_items c.next.new.self = c.in-Some.ensures.steps.0 in
    let gone = c.in-Some.ensures.steps.1 in
    let was = at.invariant.1 in
    let short = ap length steps in
    let fresh : AllByRecursion (λ seat. seat.receipts ≡ []) (c.in-Some.seat ∷ into_iter_items c.next.new.self) = subst (AllByRecursion (λ seat. seat.receipts ≡ [])) steps at.invariant.2 in
    let pushed = c.push_reserved.ensures.items in
    let longer = ap length pushed in
    let size = at.invariant.4 in
    let capacity = c.push_reserved.ensures.capacity in
    let room = at.invariant.5 in (
      append_assoc at.yielded (c.in-Some.seat ∷ []) _ ∙ rw (← steps) at.invariant.0,
      omega arith,
      fresh.1,
      subst (λ desks. AllByRecursion (λ desk. named desk.seat.receipts desk.doubles.items ≡ []) desks) (sym pushed)
          (all_push _ at.desks.items _ at.invariant.3 (ap (λ receipts. named receipts c.new.result.items) fresh.0 ∙ c.new.ensures.items)),
      search (arith, longer, size, length_push),
      omega (arith, room, capacity),
    )

use Rattle.std.proofs.Common.{◌≡◌, [], ap, arith, length, subst, sym}
use Rattle.std.proofs.lemmas.List.{length_push}
use Rattle.std.specs.List.{AllByRecursion}
use Rattle.ar_bundle.proofs.HistoryLemmas.{all_push}
use Rattle.ar_workers.specs.Private.Judging.{numbers_judged}
use Rattle.ar_workers.proofs.judging.empty_desks.Goals as goal

pub loop-worker-preserved : goal.loop-worker-preserved
loop-worker-preserved g c =
    let at = c.loop-worker in
    let pushed = c.push_reserved.ensures.items in
    let longer = ap length pushed in
    let less = c.loop-worker-test.true in
    let capacity = c.push_reserved.ensures.capacity in
    let room = at.invariant.3 in
    let size = at.invariant.1 in (
      subst (λ desks. AllByRecursion (λ desk. numbers_judged desk.judged.items ≡ []) desks) (sym pushed) (all_push _ at.desks.items _ at.invariant.0 (ap numbers_judged c.new.ensures.items)),
      search (arith, longer, size, length_push),
      omega (arith, less),
      omega (arith, room, capacity),
    )

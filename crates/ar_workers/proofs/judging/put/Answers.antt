use Rattle.std.proofs.Common.{◌≡◌, ◌<◌, ◌∷◌, [], ap, arith, append_assoc, length, rules, subst, refl, ◌∙◌}
use Rattle.std.proofs.lemmas.List.{length-set}
use Rattle.std.specs.Vec.Iter.{into_iter_items}
use Rattle.ar_workers.specs.Private.Judging.{AreJudged}
use Rattle.ar_workers.proofs.Judged.{first_judged, judged_inside, known_first, known_next, still_known}
use Rattle.ar_workers.proofs.judging.put.Goals as goal

pub loop-one-init : goal.loop-one-init
loop-one-init g c = search (rules, known_first)

pub index_mut-requires : goal.index_mut-requires
index_mut-requires g c =
    let bundle = g.M.BundleName.bundle in
    let are : AreJudged bundle (c.in-Some.one ∷ into_iter_items c.next.new.self) = subst (AreJudged bundle) c.in-Some.ensures.steps.0 c.loop-one.invariant.2 in
    let inside = judged_inside bundle c.in-Some.one (into_iter_items c.next.new.self) are in
    let size = c.loop-one.invariant.3 in
    omega (arith, inside, size)

pub loop-one-preserved : goal.loop-one-preserved
loop-one-preserved g c =
    let at = c.loop-one in
    let steps : into_iter_items at.one-iterator ≡ c.in-Some.one ∷ into_iter_items c.next.new.self = c.in-Some.ensures.steps.0 in
    let gone = c.in-Some.ensures.steps.1 in
    let was = at.invariant.1 in
    let short = ap length steps in
    let are : AreJudged g.M.BundleName.bundle (c.in-Some.one ∷ into_iter_items c.next.new.self) = subst (AreJudged g.M.BundleName.bundle) steps at.invariant.2 in
    let bundle = g.M.BundleName.bundle in
    let first = first_judged bundle c.in-Some.one (into_iter_items c.next.new.self) are in
    let inside = judged_inside bundle c.in-Some.one (into_iter_items c.next.new.self) are in
    let size = at.invariant.3 in
    let less : c.in-Some.one.number < length at.table.items = omega arith in (
      append_assoc at.yielded (c.in-Some.one ∷ []) _ ∙ rw (← steps) at.invariant.0,
      omega arith,
      first.1,
      length-set at.table.items c.in-Some.one.number _ ∙ at.invariant.3,
      λ number known. still_known bundle c.in-Some.one at.table.items _ less first.0 refl number (at.invariant.4 number known),
      known_next bundle at.yielded c.in-Some.one at.table.items _ first.0 less refl at.invariant.5,
    )

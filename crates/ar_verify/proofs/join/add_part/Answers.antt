use Rattle.std.proofs.Common.{◌≡◌, map, ap, sym, rules, ◌∙◌}
use Rattle.std.proofs.lemmas.Result.{on_ok_weaker}
use Rattle.ar_verify.specs.Private.Forms.{wider, widest_of}
use Rattle.ar_verify.specs.Private.Parts.{part_view}
use Rattle.ar_verify.proofs.Meets.{one_added}
use Rattle.ar_verify.proofs.join.add_part.Goals as goal

pub returns-then-is_there-clause-wider : goal.returns-then-is_there-clause-wider
returns-then-is_there-clause-wider g c = rw (← c.deref.ensures.value, ← c.deref-2.ensures) (sym (c.is_there.ensures c.if-is_there.true))

pub returns-in_ok-clone-clause-wider : goal.returns-in_ok-clone-clause-wider
returns-in_ok-clone-clause-wider g c =
    let same : part_view c.in_ok-clone.field-0.value ≡ part_view c.args.part.now.value = search rules in
    on_ok_weaker c.try_push.result
    (λ longer. one_added (λ other. part_view other.value) (part_view c.args.first.now) c.args.others.now.items c.try_push.new.list.items c.in_ok-clone.field-0 longer
    ∙ ap (wider (widest_of (part_view c.args.first.now) (map (λ other. part_view other.value) c.args.others.now.items))) same)
    c.try_push.ensures

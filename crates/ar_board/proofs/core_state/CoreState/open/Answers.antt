use Rattle.std.proofs.Common.{rules, ◌∙◌, ap, length, replicate, false}
use Rattle.ar_board.specs.Private.Inside.{histories_of}
use Rattle.ar_board.proofs.CoreLaws.{opened_in_order, opened_sound}
use Rattle.ar_board.proofs.core_state.CoreState.open.Goals as goal

pub invariant_of-result : goal.invariant_of-result
invariant_of-result c =
    let parked = c.in_ok-vec.ensures.items_if_clones_equal (λ mark same. same) ∙ ap (λ entries. replicate (length entries) false) c.entries-2.ensures in
    let sound = opened_sound c.args.bundle.now c.args.workers c.in_ok-with_capacity.field-0.items c.in_ok-empty_hands.field-0.items c.in_ok-vec.field-0.items (histories_of c.in_ok-opened.field-0.items)
    c.in_ok-with_capacity.ensures.items c.in_ok-empty_hands.ensures parked c.in_ok-opened.ensures.opened.empty in
    let in_order = opened_in_order c.args.bundle.now (histories_of c.in_ok-opened.field-0.items) c.in_ok-opened.ensures.opened.empty in
    search (rules, sound, in_order)

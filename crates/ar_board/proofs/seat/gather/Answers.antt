use Rattle.std.proofs.Common.{◌≡◌, ◌∷◌, [], ◌++◌, List, Vec, Global, length, map, sym, ◌∙◌, ap, subst, arith, append_assoc}
use Rattle.std.proofs.lemmas.Grind.{common_steps}
use Rattle.std.proofs.lemmas.List.{length_push, map_push}
use Rattle.std.specs.Vec.Iter.{into_iter_items}
use Rattle.ar_board.specs.declared.cell.receipt.Receipt.{Receipt}
use Rattle.ar_board.specs.Board.{Seat}
use Rattle.ar_board.specs.Private.Closing.{AreGiven, lists_of}
use Rattle.ar_board.specs.Seats.{together}
use Rattle.ar_board.proofs.Seats.{given_next}
use Rattle.ar_board.proofs.seat.gather.Goals as goal

pub loop-seat-preserved : goal.loop-seat-preserved
loop-seat-preserved g c =
    let at = c.loop-seat in
    let steps : into_iter_items at.seat-iterator ≡ c.in-Some.seat ∷ into_iter_items c.next.new.self = c.in-Some.ensures.steps.0 in
    let gone = c.in-Some.ensures.steps.1 in
    let was = at.invariant.2 in
    let short = ap length steps in
    let longer = length_push at.yielded c.in-Some.seat in
    let before = at.invariant.3 in
    let pushed = ap length c.push_reserved.ensures.items in
    let receipts = length_push at.receipts.items c.seat.inside.receipts in
    let own : List Receipt = c.seat.inside.receipts.items in
    let its : c.in-Some.seat.receipts ≡ own = sym (ap (λ (seat : Seat). seat.receipts) c.seat.view_is) in
    let given = given_next g.M.BundleName.bundle at.yielded (lists_of at.receipts.items) at.all c.seat.inside.shares c.in-Some.seat own at.invariant.1 its c.seat.invariant.own c.seat.invariant.part c.seat.invariant.counted in
    let lists = ap (map (λ (own : Vec Receipt Global). own.items)) c.push_reserved.ensures.items ∙ map_push (λ (own : Vec Receipt Global). own.items) at.receipts.items c.seat.inside.receipts in (
      append_assoc at.yielded (c.in-Some.seat ∷ []) _ ∙ rw (← steps) at.invariant.0,
      subst (AreGiven g.M.BundleName.bundle (at.yielded ++ c.in-Some.seat ∷ []) (lists_of c.push_reserved.new.self.items)) (sym c.merge.ensures)
          (subst (λ (receipts : List (List Receipt)). AreGiven g.M.BundleName.bundle (at.yielded ++ c.in-Some.seat ∷ []) receipts (together at.all c.seat.inside.shares)) (sym lists) given),
      omega arith,
      omega arith,
      (let capacity = c.push_reserved.ensures.capacity in let room = at.invariant.4 in omega arith),
    )

pub push_reserved-requires : goal.push_reserved-requires
push_reserved-requires g c = grind (arith, common_steps)

pub returns : goal.returns
returns g c = grind (arith, common_steps)

use Rattle.std.proofs.Common.{◌≡◌, ◌+◌, ℕ, List, ◌∷◌, [], ◌++◌, ap, arith, append_assoc, length, refl, ◌∙◌}
use Rattle.std.proofs.lemmas.List.{length_push}
use Rattle.std.specs.Vec.Iter.{into_iter_items}
use Rattle.ar_bundle.specs.Lawful.{times_in}
use Rattle.ar_board.specs.Board.{receipts_of}
use Rattle.ar_queue.specs.Workers.{all_named}
use Rattle.ar_workers.specs.Joined.{named, named_by}
use Rattle.ar_workers.proofs.Named.{taken_apart}
use Rattle.ar_workers.proofs.posting.seats_and_doubles.Given as given
use Rattle.ar_workers.proofs.posting.seats_and_doubles.Goals as goal

-- what is named of one desk more
receipts_and_doubles : (g : given.Over) (c : goal.After-drop-desk-in-loop-desk g) (number : ℕ)
    → times_in number (named_by (receipts_of c.push_reserved.new.self.items)) + times_in number c.extend_from_slice.new.self.items ≡ times_in number (all_named (λ desk. named desk.seat.receipts desk.doubles.items) (c.loop-desk.yielded ++ c.in-Some.desk ∷ []))
receipts_and_doubles g c number =
    let seats = ap (λ seats. times_in number (named_by (receipts_of seats))) c.push_reserved.ensures.items in
    let doubles = ap (times_in number) (c.in_ok-extend_from_slice.ensures.items ∙ ap (λ (own : List ℕ). c.loop-desk.doubles.items ++ own) c.as_slice.ensures.value) in
    let parts = taken_apart (λ desk. named desk.seat.receipts desk.doubles.items) number c.loop-desk.yielded c.in-Some.desk c.loop-desk.seats.items c.in-Some.desk.seat c.loop-desk.doubles.items c.in-Some.desk.doubles.items (c.loop-desk.invariant.2 number) refl in
    omega arith

pub loop-desk-preserved : goal.loop-desk-preserved
loop-desk-preserved g c =
    let at = c.loop-desk in
    let steps : into_iter_items at.desk-iterator ≡ c.in-Some.desk ∷ into_iter_items c.next.new.self = c.in-Some.ensures.steps.0 in
    let gone = c.in-Some.ensures.steps.1 in
    let was = at.invariant.1 in
    let short = ap length steps in
    let desk = c.in-Some.desk in
    let longer = length_push at.yielded desk in
    let seats = length_push at.seats.items desk.seat in
    let pushed = ap length c.push_reserved.ensures.items in
    let before = at.invariant.3 in (
      append_assoc at.yielded (desk ∷ []) _ ∙ rw (← steps) at.invariant.0,
      omega arith,
      λ number. receipts_and_doubles g c number,
      omega arith,
      (let capacity = c.push_reserved.ensures.capacity in let room = at.invariant.4 in omega arith),
    )

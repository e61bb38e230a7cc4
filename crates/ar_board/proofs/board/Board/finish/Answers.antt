use Rattle.std.proofs.Common.{◌≡◌, ◌∙◌, List, Vec, Global, None, Some, ap, sym, subst}
use Rattle.ar_limits.specs.Replay.{Standing}
use Rattle.ar_bundle.specs.Finished.{AreStatesOf}
use Rattle.ar_bundle.specs.declared.history.Entry.{Entry}
use Rattle.ar_bundle.specs.declared.runs.Runs.{Runs}
use Rattle.ar_board.specs.declared.cell.receipt.Receipt.{Receipt}
use Rattle.ar_board.specs.Lost.{IsLost}
use Rattle.ar_board.specs.Board.{IsClosed, receipts_of}
use Rattle.ar_board.specs.Locks.{at_lock}
use Rattle.ar_board.specs.Seats.{Held}
use Rattle.ar_board.specs.Private.Closing.{FirstLost, lists_of}
use Rattle.ar_board.proofs.Closed.{is_closed, is_lost}
use Rattle.ar_board.proofs.Given.{are_inside, as_many_under, of_cells}
use Rattle.ar_board.proofs.GivenStates.{states_of_cells}
use Rattle.ar_board.proofs.board.Board.finish.Goals as goal

pub first_lost-lost-requires-clause-inside : goal.first_lost-lost-requires-clause-inside
first_lost-lost-requires-clause-inside g c =
    let cells = of_cells g.M.BundleName.bundle g.M.BundleName.workers _ _ _ _ _ _ _ _ _ c.args.self.ready.histories c.close_cell.ensures.given c.close_cell-2.ensures.given c.close_cell-3.ensures.given c.close_cell-4.ensures.given in
    are_inside g.M.BundleName.bundle g.M.BundleName.workers _ _ cells

pub returns-in-None-clause-closed : goal.returns-in-None-clause-closed
returns-in-None-clause-closed g c =
    let histories : List (List Entry) = c.close_cell-4.new.all.histories.items in
    let same : c.finish-finished.result.histories ≡ histories = c.finish-finished.ensures.histories ∙ ap (λ (runs : Runs). runs.histories.items) c.first_lost-lost.ensures.runs in
    let cells = of_cells g.M.BundleName.bundle g.M.BundleName.workers _ _ _ _ _ _ _ _ _ c.args.self.ready.histories c.close_cell.ensures.given c.close_cell-2.ensures.given c.close_cell-3.ensures.given c.close_cell-4.ensures.given in
    let hold : FirstLost g.M.BundleName.bundle histories (receipts_of c.args.seats.items) None = subst (λ (receipts : List (List Receipt)). FirstLost g.M.BundleName.bundle histories receipts None) c.gather-all.ensures.lists c.in-None.ensures.least in
    subst (IsClosed g.M.BundleName.bundle (receipts_of c.args.seats.items)) (sym same)
    (is_closed g.M.BundleName.bundle g.M.BundleName.workers _ histories (receipts_of c.args.seats.items) c.close_cell.ensures.bundle cells hold
    (λ lock. as_many_under g.M.BundleName.bundle g.M.BundleName.workers _ histories cells lock ∙ (ap (λ (shares : Held). at_lock shares.amounts lock) c.all.view_is ∙ c.gather-all.ensures.counted lock)))

pub returns-in-Some-clause-lost : goal.returns-in-Some-clause-lost
returns-in-Some-clause-lost g c =
    let histories : List (List Entry) = c.close_cell-4.new.all.histories.items in
    let same : c.finish-finished.result.histories ≡ histories = c.finish-finished.ensures.histories ∙ ap (λ (runs : Runs). runs.histories.items) c.first_lost-lost.ensures.runs in
    let cells = of_cells g.M.BundleName.bundle g.M.BundleName.workers _ _ _ _ _ _ _ _ _ c.args.self.ready.histories c.close_cell.ensures.given c.close_cell-2.ensures.given c.close_cell-3.ensures.given c.close_cell-4.ensures.given in
    let lost : FirstLost g.M.BundleName.bundle histories (receipts_of c.args.seats.items) (Some c.in-Some.number) = subst (λ (receipts : List (List Receipt)). FirstLost g.M.BundleName.bundle histories receipts (Some c.in-Some.number)) c.gather-all.ensures.lists c.in-Some.ensures.least in
    let receipts : lists_of c.first_lost-lost.new.self.receipts.items ≡ receipts_of c.args.seats.items = ap (λ (receipts : Vec (Vec Receipt Global) Global). lists_of receipts.items) c.first_lost-lost.ensures.receipts ∙ c.gather-all.ensures.lists in
    subst (λ (histories : List (List Entry)). IsLost g.M.BundleName.bundle (receipts_of c.args.seats.items) (record { number = c.in-Some.number; histories = histories; receipts = c.first_lost-lost.new.self.receipts })) (sym same)
    (is_lost g.M.BundleName.bundle g.M.BundleName.workers _ histories (receipts_of c.args.seats.items) c.first_lost-lost.new.self.receipts c.in-Some.number cells receipts lost
    (λ lock. as_many_under g.M.BundleName.bundle g.M.BundleName.workers _ histories cells lock ∙ (ap (λ (shares : Held). at_lock shares.amounts lock) c.all.view_is ∙ c.gather-all.ensures.counted lock)))

pub returns-in-None-clause-states : goal.returns-in-None-clause-states
returns-in-None-clause-states g c =
    let runs : Runs = c.close_cell-4.new.all in
    let histories : c.finish-finished.result.histories ≡ runs.histories.items = c.finish-finished.ensures.histories ∙ ap (λ (runs : Runs). runs.histories.items) c.first_lost-lost.ensures.runs in
    let states : c.finish-finished.result.states.items ≡ runs.states.items = c.finish-finished.ensures.states ∙ ap (λ (runs : Runs). runs.states.items) c.first_lost-lost.ensures.runs in
    let are = states_of_cells g.M.BundleName.bundle g.M.BundleName.workers _ _ _ _ _ _ _ _ _ c.args.self.ready.histories c.args.self.ready.states c.close_cell.ensures.given c.close_cell-2.ensures.given c.close_cell-3.ensures.given c.close_cell-4.ensures.given in
    subst (λ (histories : List (List Entry)). AreStatesOf g.M.BundleName.bundle histories c.finish-finished.result.states.items) (sym histories)
    (subst (λ (states : List Standing). AreStatesOf g.M.BundleName.bundle runs.histories.items states) (sym states) are)

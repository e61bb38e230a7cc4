use Rattle.std.proofs.Common.{rules, arith, sym, subst, List, Vec, Global}
use Rattle.std.proofs.lemmas.Grind.{common_steps}
use Rattle.ar_board.proofs.Marks.{all_marked_first, all_marked_next, own_there}
use Rattle.ar_board.specs.Private.Closing.{AreMarked, AreOwn}
use Rattle.ar_board.specs.declared.cell.receipt.Receipt.{Receipt}
use Rattle.ar_board.proofs.closing.note_all_unmet.Goals as goal

pub note_unmet-requires-clause-own : goal.note_unmet-requires-clause-own
note_unmet-requires-clause-own g c =
    subst (AreOwn g.M.BundleName.bundle) (sym c.as_slice.ensures.value) (own_there (λ (own : Vec Receipt Global). own.items) g.M.BundleName.bundle c.args.receipts.now c.loop-own.own-index c.own-item.result c.requires.own c.loop-own-test.true c.own-item.is)

pub loop-own-preserved : goal.loop-own-preserved
loop-own-preserved g c =
    all_marked_next (λ (own : Vec Receipt Global). own.items) g.M.BundleName.bundle c.args.histories.now c.args.receipts.now c.loop-own.own-index c.own-item.result c.loop-own.unmet.items c.note_unmet.new.unmet.items c.loop-own-test.true c.own-item.is c.loop-own.invariant
    (subst (λ (own : List Receipt). AreMarked c.args.histories.now own c.loop-own.unmet.items c.note_unmet.new.unmet.items) c.as_slice.ensures.value c.note_unmet.ensures)

pub loop-own-init : goal.loop-own-init
loop-own-init g c = search (rules, all_marked_first, all_marked_next, own_there)

pub returns : goal.returns
returns g c = grind (arith, common_steps)

use Rattle.std.proofs.Common.{rules, List, subst}
use Rattle.ar_board.proofs.Stored.{all_stored_first, inside_there, all_stored_end, all_stored_next}
use Rattle.ar_bundle.specs.Lawful.{numbers_of, times_in}
use Rattle.ar_bundle.specs.declared.history.Entry.{Entry}
use Rattle.ar_board.specs.Private.Closing.{AreStored}
use Rattle.ar_board.proofs.closing.note_all_stored.Goals as goal

pub loop-history-preserved : goal.loop-history-preserved
loop-history-preserved c =
    all_stored_next c.args.histories.now c.loop-history.history-index c.history-item.result c.args.stored.now.items c.loop-history.stored.items c.note_stored.new.stored.items c.loop-history-test.true c.history-item.is c.loop-history.invariant
    (subst (λ (history : List Entry). AreStored (λ number. times_in number (numbers_of history)) c.loop-history.stored.items c.note_stored.new.stored.items) c.entries.ensures c.note_stored.ensures)

pub returns : goal.returns
returns c = all_stored_end c.args.histories.now c.loop-history.history-index c.args.stored.now.items c.loop-history.stored.items c.loop-history-test.false c.loop-history.auto.history-index-end c.loop-history.invariant

pub note_stored-requires : goal.note_stored-requires
note_stored-requires c = search (rules, all_stored_first, all_stored_next, inside_there)

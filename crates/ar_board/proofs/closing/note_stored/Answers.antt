use Rattle.ar_board.proofs.Stored.{stored_end, stored_next}
use Rattle.ar_board.proofs.closing.note_stored.Goals as goal

pub loop-entry-preserved : goal.loop-entry-preserved
loop-entry-preserved c = stored_next c.args.history.now c.loop-entry.entry-index _ c.args.stored.now.items c.loop-entry.stored.items c.loop-entry-test.true c.requires.inside c.loop-entry.invariant

pub returns : goal.returns
returns c = stored_end c.args.history.now c.loop-entry.entry-index c.args.stored.now.items c.loop-entry.stored.items c.loop-entry-test.false c.loop-entry.auto.entry-index-end c.loop-entry.invariant

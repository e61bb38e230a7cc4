use Rattle.std.proofs.Common.{rules, arith, get_or, subst, sym}
use Rattle.std.proofs.lemmas.Grind.{common_steps}
use Rattle.ar_board.proofs.Shows.{agree_at_first, agree_skip, agree_next}
use Rattle.std.proofs.lemmas.Option.{get_or_from_slice_get, slice_get-get_or}
use Rattle.ar_board.specs.Private.KeptRuns.{IsNextOwn}
use Rattle.ar_board.specs.declared.cell.receipt.Receipt.{Receipt}
use Rattle.ar_board.proofs.cell.kept_run.KeptRun.agrees.Goals as goal

pub loop-receipt-preserved : goal.loop-receipt-preserved
loop-receipt-preserved c =
    let none : Receipt = record { run = 0; number = 0; place = 0 } in
    let receipt : Receipt = get_or c.args.receipts.now c.loop-receipt.receipt-index none in
    let read = sym (get_or_from_slice_get c.args.receipts.now c.loop-receipt.receipt-index receipt receipt (slice_get-get_or c.args.receipts.now c.loop-receipt.receipt-index none c.loop-receipt-test.true)) in
    let next = subst (IsNextOwn c.args.worker c.args.self.now.run.entries.items c.args.self.now.authors.items c.loop-receipt.from) c.in-Some.is c.next_own.ensures in
    let same = (c.is_of.ensures next.0 next.1).0 c.if-is_of.true in
    agree_next c.args.run c.args.worker c.args.self.now.run.entries.items c.args.self.now.authors.items c.args.receipts.now c.loop-receipt.from c.loop-receipt.receipt-index c.in-Some.place receipt next.0
    c.loop-receipt-test.true read c.if-receipt-run.false next.2 same.0 same.1 c.loop-receipt.invariant

pub loop-receipt-preserved-then-receipt-run : goal.loop-receipt-preserved-then-receipt-run
loop-receipt-preserved-then-receipt-run c = search (rules, agree_at_first, agree_skip)

pub returns-in_default : goal.returns-in_default
returns-in_default c = grind (arith, common_steps)

pub returns-in_default-2 : goal.returns-in_default-2
returns-in_default-2 c = grind (arith, common_steps)

pub returns : goal.returns
returns c = grind (arith, common_steps)

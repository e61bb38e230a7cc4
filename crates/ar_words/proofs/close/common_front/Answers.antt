use Rattle.std.proofs.Common.{arith, sym}
use Rattle.std.proofs.lemmas.Grind.{common_steps}
use Rattle.ar_words.proofs.Nearly.{one_more, differs, one_ends, other_ends}
use Rattle.ar_words.proofs.close.common_front.Goals as goal

pub loop-count-preserved : goal.loop-count-preserved
loop-count-preserved c =
    ((omega (arith, c.loop-count-test.true), omega (arith, c.if-count-other.true)), one_more c.args.one.now c.args.other.now _ c.loop-count.count c.loop-count-test.true c.if-count-other.true (grind (arith, common_steps)) c.loop-count.invariant.1)

pub returns-else-one-count-clause-count : goal.returns-else-one-count-clause-count
returns-else-one-count-clause-count c = sym (differs c.args.one.now c.args.other.now _ c.loop-count.count c.loop-count-test.true c.if-count-other.true (grind (arith, common_steps)) c.loop-count.invariant.1)

pub returns-else-count-other-clause-count : goal.returns-else-count-other-clause-count
returns-else-count-other-clause-count c = sym (other_ends c.args.one.now c.args.other.now _ c.loop-count.count (omega (arith, c.if-count-other.false)) c.loop-count.invariant.1)

pub returns-after-loop-count-clause-count : goal.returns-after-loop-count-clause-count
returns-after-loop-count-clause-count c = sym (one_ends c.args.one.now c.args.other.now _ c.loop-count.count (omega (arith, c.loop-count-test.false)) c.loop-count.invariant.1)

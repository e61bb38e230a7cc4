use Rattle.std.proofs.Common.{arith, sym}
use Rattle.std.proofs.lemmas.Grind.{common_steps}
use Rattle.ar_words.proofs.Nearly.{one_more_back, differs_back, other_ends_back}
use Rattle.ar_words.proofs.close.common_end.Goals as goal

pub loop-count-preserved : goal.loop-count-preserved
loop-count-preserved c =
    ((omega (arith, c.loop-count-test.true), omega (arith, c.if-count-others.true)), one_more_back c.args.one.now c.args.other.now _ c.loop-count.count c.loop-count-test.true c.if-count-others.true (grind (arith, common_steps)) c.loop-count.invariant.1)

pub returns-else-one-length-clause-count : goal.returns-else-one-length-clause-count
returns-else-one-length-clause-count c = sym (differs_back c.args.one.now c.args.other.now _ c.loop-count.count c.loop-count-test.true c.if-count-others.true (grind (arith, common_steps)) c.loop-count.invariant.1)

pub returns-else-count-others-clause-count : goal.returns-else-count-others-clause-count
returns-else-count-others-clause-count c = sym (other_ends_back c.args.one.now c.args.other.now _ c.loop-count.count (omega (arith, c.if-count-others.false)) c.loop-count.invariant.1)

use Rattle.std.proofs.Common.{◌∙◌, arith, rules, sym}
use Rattle.std.specs.Prelude.{slice_index_or}
use Rattle.ar_quote.specs.Private.Runs.{continues}
use Rattle.ar_quote.proofs.TokenBytes.{next_byte, no_byte, other_byte}
use Rattle.ar_quote.proofs.tokens.run_length.Goals as goal

pub returns-then-not-continues-clause-exact : goal.returns-then-not-continues-clause-exact
returns-then-not-continues-clause-exact c =
    other_byte (continues c.args.run) c.args.bytes.now c.loop-offset.offset (slice_index_or c.args.bytes.now c.loop-offset.offset 0) _ c.loop-offset-test.true (search rules)
    (sym c.continues.ensures ∙ c.if-not-continues.true) c.loop-offset.invariant.so_far

pub loop-offset-preserved : goal.loop-offset-preserved
loop-offset-preserved c = record {
  so_far = next_byte (continues c.args.run) c.args.bytes.now c.loop-offset.offset (slice_index_or c.args.bytes.now c.loop-offset.offset 0) _ c.loop-offset-test.true (search rules)
      (sym c.continues.ensures ∙ c.if-not-continues.false) c.loop-offset.invariant.so_far;
  within = omega (arith, c.loop-offset-test.true);
}

pub returns-clause-exact : goal.returns-clause-exact
returns-clause-exact c = no_byte (continues c.args.run) c.args.bytes.now c.loop-offset.offset _ c.loop-offset.invariant.within (omega (arith, c.loop-offset-test.false)) c.loop-offset.invariant.so_far

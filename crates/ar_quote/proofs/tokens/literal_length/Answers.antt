use Rattle.std.proofs.Common.{◌∙◌, arith, rules, sym}
use Rattle.std.specs.Prelude.{slice_index_or}
use Rattle.ar_quote.proofs.TokenBytes.{no_letter, last_letter, next_letter}
use Rattle.ar_quote.proofs.tokens.literal_length.Goals as goal

pub returns-then-is_plain-clause-exact : goal.returns-then-is_plain-clause-exact
returns-then-is_plain-clause-exact c =
    last_letter c.args.quote c.loop-offset.escaped c.args.bytes.now c.loop-offset.offset (slice_index_or c.args.bytes.now c.loop-offset.offset 0) _ c.loop-offset-test.true (search rules)
    (sym c.is_plain.ensures ∙ c.if-is_plain.true) c.loop-offset.invariant.so_far

pub loop-offset-preserved : goal.loop-offset-preserved
loop-offset-preserved c = record {
  so_far = rw (c.is_plain-escaped.ensures) (next_letter c.args.quote c.loop-offset.escaped c.args.bytes.now c.loop-offset.offset (slice_index_or c.args.bytes.now c.loop-offset.offset 0) _ c.loop-offset-test.true (search rules)
      (sym c.is_plain.ensures ∙ c.if-is_plain.false) c.loop-offset.invariant.so_far);
  within = omega (arith, c.loop-offset-test.true);
}

pub returns : goal.returns
returns c = grind (arith, next_letter, last_letter, no_letter) steps 2000000

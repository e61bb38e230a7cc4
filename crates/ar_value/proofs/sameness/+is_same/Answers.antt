use Rattle.std.proofs.Common.{arith}
use Rattle.ar_value.proofs.FieldLists.{unlike}
use Rattle.ar_value.proofs.Same.{other_name}
use Rattle.ar_value.proofs.sameness.+is_same.Goals as goal

pub are_fields_same-returns-then-ne : goal.are_fields_same-returns-then-ne
are_fields_same-returns-then-ne t c =
    other_name c.args.names.now c.args.shapes.now c.args.of.now c.args.others.now c.loop-index.index c.index-names-index.result c.index-of-index.result _
    (omega (arith, c.loop-index-test.true, c.min-count.ensures)) (omega (arith, c.loop-index-test.true, c.min-count.ensures))
    (omega (arith, c.loop-index-test.true, c.if-count-min.false, c.min.ensures)) (omega (arith, c.loop-index-test.true, c.if-count-min.false, c.min.ensures))
    c.index-names-index.is c.index-of-index.is (unlike c.ne.result _ c.ne.ensures c.if-ne.true) c.loop-index.invariant

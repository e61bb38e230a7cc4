use Rattle.std.proofs.Common.{arith, refl}
use Rattle.std.proofs.lemmas.List.{length_push}
use Rattle.ar_value.proofs.FieldLists.{alike, unlike}
use Rattle.ar_value.proofs.WidestLemmas.{widest_lists, object_widest, other_name, no_field_left, next_field}
use Rattle.ar_value.proofs.widening.+widest.Goals as goal

pub widest-returns-in-List-right : goal.widest-returns-in-List-right
widest-returns-in-List-right t c =
    rw (c.in-List.is, c.in-List-right.is, widest_lists c.in-List.item c.in-List-right.other c.in-List.max c.in-List-right.most, ← c.deref.ensures, ← c.deref-in-List-right.ensures, ← c.max.ensures) c.widest_list.ensures

pub widest_object-returns-in_ok-share-in-Some : goal.widest_object-returns-in_ok-share-in-Some
widest_object-returns-in_ok-share-in-Some t c =
    object_widest c.args.left.now c.args.right.now _ _ _ _ _ c.in_ok-share-in-Some.ensures c.as_slice.ensures.names c.as_slice-2.ensures.names c.deref.ensures.value c.deref-2.ensures.value
    (rw c.in-Some.is at c.in_ok-shapes.ensures)

pub widest_fields-returns-then-ne : goal.widest_fields-returns-then-ne
widest_fields-returns-then-ne t c =
    other_name c.args.names.now c.args.left.now c.args.of.now c.args.right.now c.loop-index.index c.index-names-index.result c.index-of-index.result
    (omega (arith, c.loop-index-test.true, c.min-count.ensures)) (omega (arith, c.loop-index-test.true, c.min-count.ensures))
    (omega (arith, c.loop-index-test.true, c.if-count-min.false, c.min.ensures)) (omega (arith, c.loop-index-test.true, c.if-count-min.false, c.min.ensures))
    c.index-names-index.is c.index-of-index.is c.loop-index.shapes.items _ c.loop-index.invariant.joined (unlike c.ne.result _ c.ne.ensures c.if-ne.true)

pub widest_fields-loop-index-preserved : goal.widest_fields-loop-index-preserved
widest_fields-loop-index-preserved t c = record {
  long = rw (c.in_ok-push-in-Some.ensures.items, length_push, c.loop-index.invariant.long) refl;
  joined = rw c.in_ok-push-in-Some.ensures.items
      (next_field c.args.names.now c.args.left.now c.args.of.now c.args.right.now c.loop-index.index c.index-names-index.result c.index-of-index.result c.index-left-index.result c.index-right-index.result
      (omega (arith, c.loop-index-test.true, c.min-count.ensures)) (omega (arith, c.loop-index-test.true, c.min-count.ensures))
      (omega (arith, c.loop-index-test.true, c.if-count-min.false, c.min.ensures)) (omega (arith, c.loop-index-test.true, c.if-count-min.false, c.min.ensures))
      c.index-names-index.is c.index-left-index.is c.index-of-index.is c.index-right-index.is
      c.loop-index.shapes.items c.in-Some.widest _ c.loop-index.invariant.long c.loop-index.invariant.joined (alike c.ne.result _ c.ne.ensures c.if-ne.false) (rw c.in-Some.is at c.in_ok-widest.ensures));
}

pub widest_fields-returns : goal.widest_fields-returns
widest_fields-returns t c =
    no_field_left c.args.names.now c.args.left.now c.args.of.now c.args.right.now c.loop-index.index c.loop-index.shapes.items _
    (omega (arith, c.if-count-min.false, c.min-count.ensures, c.min.ensures)) (omega (arith, c.loop-index-test.false, c.min-count.ensures)) c.loop-index.invariant.long c.loop-index.invariant.joined

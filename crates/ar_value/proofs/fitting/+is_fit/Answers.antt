use Rattle.std.proofs.Common.{rules, arith, drop, ap, sym, ◌∙◌, ◌+◌}
use Rattle.std.specs.Prelude.{◌&&◌}
use Rattle.ar_value.specs.Fits.{fits}
use Rattle.ar_value.specs.View.{shape_view}
use Rattle.std.proofs.lemmas.Grind.{common_steps}
use Rattle.ar_value.proofs.FieldLists.{alike}
use Rattle.ar_value.proofs.FitLemmas.{Fit, both_hold, list_within, next}
use Rattle.ar_value.proofs.fitting.+is_fit.Goals as goal

pub is_fit-returns-then-len-max : goal.is_fit-returns-then-len-max
is_fit-returns-then-len-max t c =
    list_within c.args.value.now c.args.shape.now c.in-List-value.list c.in-List.item c.in-List.max c.deref-then-len-max.result.now c.deref.result.now c.are_all_fit.result
    c.in-List-value.is c.in-List.is (omega (arith, c.if-len-max.true, c.len.ensures)) c.deref-then-len-max.ensures.value c.deref.ensures c.are_all_fit.ensures

pub are_all_fit-returns-then-not-is_fit : goal.are_all_fit-returns-then-not-is_fit
are_all_fit-returns-then-not-is_fit t c = grind (arith, common_steps)

pub are_all_fit-loop-item-preserved : goal.are_all_fit-loop-item-preserved
are_all_fit-loop-item-preserved t c = grind (arith, common_steps)

pub are_all_fit-returns : goal.are_all_fit-returns
are_all_fit-returns t c = grind (arith, common_steps)

pub are_fields_fit-loop-index-preserved : goal.are_fields_fit-loop-index-preserved
are_fields_fit-loop-index-preserved t c =
    c.loop-index.invariant
    ∙ next c.loop-index.index c.args.names.now c.args.indices.now c.args.values.now c.args.of.now c.args.shapes.now c.index-names-index.result c.index-of-index.result c.index-shapes-index.result
    (omega (arith, c.loop-index-test.true)) (omega (arith, c.loop-index-test.true, c.if-names-min.false, c.min.ensures)) (omega (arith, c.loop-index-test.true, c.if-names-min.false, c.min.ensures))
    c.index-names-index.is c.index-of-index.is c.index-shapes-index.is
    ∙ ap (λ here. here && Fit (c.loop-index.index + 1) (drop (c.loop-index.index + 1) c.args.names.now) c.args.indices.now c.args.values.now (drop (c.loop-index.index + 1) c.args.of.now) (drop (c.loop-index.index + 1) c.args.shapes.now))
    (both_hold (alike c.ne.result _ c.ne.ensures c.if-ne.false) (sym (c.is_field_fit.ensures ∙ ap (λ value. fits value (shape_view c.index-shapes-index.result)) c.value_at.ensures) ∙ search rules))

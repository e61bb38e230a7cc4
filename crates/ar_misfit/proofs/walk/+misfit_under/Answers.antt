use Rattle.std.proofs.Common.{arith, Some, sym, ◌∙◌, ap, option_map, rules}
use Rattle.serde_json.proofs.Views.{view-Array}
use Rattle.serde_json.specs.View.{view}
use Rattle.ar_value.specs.View.{shape_view}
use denote.Param.Weighed.{most}
use Rattle.ar_value.specs.declared.shape.Shape.{List as ListShape, Object, Optional, size-Shape}
use Rattle.ar_misfit.specs.Misfit.{Misfit, misfit_as}
use Rattle.ar_misfit.specs.Private.Inward.{inward_view}
use Rattle.ar_misfit.proofs.Sizes.{before_end, itself, list_deeper, lower, object_deeper, one_of_all, optional_deeper, part_below, parts_below}
use Rattle.ar_misfit.proofs.Walked.{field_found, field_passed, item_passed, list_short, no_field_left, too_long_list}
use Rattle.ar_misfit.proofs.walk.+misfit_under.Goals as goal

pub list_misfit-returns-then-len-max : goal.list_misfit-returns-then-len-max
list_misfit-returns-then-len-max t c =
    ap (λ (found : Misfit). Some found) c.here.ensures
    ∙ sym (too_long_list (shape_view c.args.expected.now) (shape_view c.args.item.now) c.args.max (view c.args.json.now) c.in-Array.items.items
    (ap view c.in-Array.is ∙ view-Array c.in-Array.items) (omega (arith, c.len.ensures, c.if-len-max.true)))

pub list_misfit-returns-else-len-max : goal.list_misfit-returns-else-len-max
list_misfit-returns-else-len-max t c =
    rw (c.in-Array.is, view-Array c.in-Array.items, list_short (λ d. misfit_as (shape_view c.args.item.now) (shape_view c.args.item.now) d) (shape_view c.args.expected.now) c.args.max c.in-Array.items.items (omega (arith, c.len.ensures, c.if-len-max.false)))
    (search rules)

pub fields_misfit-returns-in-Some : goal.fields_misfit-returns-in-Some
fields_misfit-returns-in-Some t c =
    field_found c.args.names.now c.args.of.now (view c.args.json.now) c.loop-index.index c.as_str-name.result.now
    (omega (arith, c.loop-index-test.true, c.min-index-end.ensures)) (omega (arith, c.loop-index-test.true, c.min-index-end.ensures)) (rw c.as_str-name.ensures c.index-names-index.is)
    (option_map (λ inner. view inner.now) c.get-found.result) c.get-found.ensures
    (inward_view c.in-Some.misfit) (inward_view c.in_ok-after.field-0) c.loop-index.invariant
    (λ shape is. sym (ap (option_map inward_view) c.in-Some.is) ∙ c.in_ok-misfit.ensures shape is)
    c.in_ok-after.ensures

pub fields_misfit-loop-index-preserved : goal.fields_misfit-loop-index-preserved
fields_misfit-loop-index-preserved t c =
    field_passed c.args.names.now c.args.of.now (view c.args.json.now) c.loop-index.index c.as_str-name.result.now
    (omega (arith, c.loop-index-test.true, c.min-index-end.ensures)) (omega (arith, c.loop-index-test.true, c.min-index-end.ensures)) (rw c.as_str-name.ensures c.index-names-index.is)
    (option_map (λ inner. view inner.now) c.get-found.result) c.get-found.ensures
    c.loop-index.invariant (λ shape is. sym (ap (option_map inward_view) c.in_default.is) ∙ c.in_ok-misfit.ensures shape is)

pub fields_misfit-returns : goal.fields_misfit-returns
fields_misfit-returns t c =
    no_field_left c.args.names.now c.args.of.now (view c.args.json.now) c.loop-index.index (omega (arith, c.loop-index-test.false, c.min-index-end.ensures)) c.loop-index.invariant

pub items_misfit-loop-index-preserved : goal.items_misfit-loop-index-preserved
items_misfit-loop-index-preserved t c =
    item_passed (λ d. misfit_as (shape_view c.args.item.now) (shape_view c.args.item.now) d) c.args.items.now c.loop-index.index c.index-items-index.result c.loop-index-test.true c.index-items-index.is
    c.loop-index.invariant (sym (ap (option_map inward_view) c.in_default.is) ∙ c.in_ok-misfit.ensures)

pub misfit_under-list_misfit-requires : goal.misfit_under-list_misfit-requires
misfit_under-list_misfit-requires t c = (part_below 2 c.deref.result.now c.in-List.item.value c.args.shape.now (ListShape c.in-List.item c.in-List.max) t (omega arith) c.deref.ensures c.in-List.is (list_deeper c.in-List.item c.in-List.max) c.decreases, tt)

pub misfit_under-optional_misfit-requires : goal.misfit_under-optional_misfit-requires
misfit_under-optional_misfit-requires t c = (part_below 1 c.deref-in-Optional.result.now c.in-Optional.plain.value c.args.shape.now (Optional c.in-Optional.plain) t (omega arith) c.deref-in-Optional.ensures c.in-Optional.is (optional_deeper c.in-Optional.plain) c.decreases, tt)

pub optional_misfit-misfit_under-requires : goal.optional_misfit-misfit_under-requires
optional_misfit-misfit_under-requires t c = (itself 1 (size-Shape c.args.plain.now) t (omega arith) c.decreases, tt)

pub list_misfit-items_misfit-requires : goal.list_misfit-items_misfit-requires
list_misfit-items_misfit-requires t c = (lower 1 2 (size-Shape c.args.item.now) t (omega arith) c.decreases, tt)

pub items_misfit-misfit_under-requires : goal.items_misfit-misfit_under-requires
items_misfit-misfit_under-requires t c = (itself 1 (size-Shape c.args.item.now) t (omega arith) c.decreases, tt)

pub record_misfit-fields_misfit-requires : goal.record_misfit-fields_misfit-requires
record_misfit-fields_misfit-requires t c = (lower 2 3 (most size-Shape c.args.of.now) t (omega arith) c.decreases, tt)

pub misfit_under-record_misfit-requires : goal.misfit_under-record_misfit-requires
misfit_under-record_misfit-requires t c = (parts_below 3 (most size-Shape c.deref-in-Object.result.now) c.args.shape.now (Object c.in-Object.fields) t (omega arith) c.in-Object.is (object_deeper c.in-Object.fields c.deref-in-Object.result.now c.deref-in-Object.ensures.value) c.decreases, tt)

pub fields_misfit-nth_misfit-requires : goal.fields_misfit-nth_misfit-requires
fields_misfit-nth_misfit-requires t c = (lower 1 2 (most size-Shape c.args.of.now) t (omega arith) c.decreases, before_end _ _ _ _ c.loop-index-test.true c.min-index-end.ensures)

pub nth_misfit-misfit_under-requires : goal.nth_misfit-misfit_under-requires
nth_misfit-misfit_under-requires t c = (one_of_all c.args.of.now c.args.index c.index-of-index.result t c.requires c.index-of-index.is c.decreases, tt)

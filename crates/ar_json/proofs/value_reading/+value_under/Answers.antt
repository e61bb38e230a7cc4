use Rattle.std.proofs.Common.{rules, ap, ◌∙◌}
use Rattle.ar_json.proofs.NeedsLemmas.{first_need, needs_at, not_longer}
use Rattle.ar_json.proofs.ReadLemmas.{list_too_long, next_item, no_item_left, item_fails, list_short, nth_gives, record_fails, record_read}
use Rattle.ar_json.proofs.ReadSteps.{ends, ends_missing, other_member, index_fails, index_inside, index_missing, index_read, starts}
use Rattle.ar_json.specs.Private.Needs.{needs_inside, needs_view, required_indices}
use Rattle.ar_value.proofs.FieldLists.{Of}
use Rattle.ar_value.proofs.Steps.{refuses_same}
use Rattle.serde_json.proofs.Views.{view-Array}
use Rattle.std.proofs.lemmas.Result.{err_from_is_err_and}
use Rattle.serde_json.specs.View.{items_view, members_view, view}
use Rattle.ar_json.specs.Reading.{fields_read, is_reading_memory, items_read, read}
use Rattle.ar_value.specs.View.{shape_view}
use Rattle.ar_value.proofs.Views.{shape_view-list}
use Rattle.ar_value.specs.declared.value.Value.{the_lemmas}
use Rattle.ar_json.proofs.value_reading.+value_under.Goals as goal

pub list_under-returns : goal.list_under-returns
list_under-returns t c =
    list_short (λ d. read (shape_view c.args.item.now) d) c.args.max c.args.json.now c.if-json-max.false ∙ rw c.in_ok-items.ensures (search (rules, the_lemmas))

pub value_under-returns-in-List-Array : goal.value_under-returns-in-List-Array
value_under-returns-in-List-Array t c =
    rw (c.in-List-Array.is-0, c.in-List-Array.is-1, shape_view-list c.in-List-Array.item c.in-List-Array.max, view-Array c.in-List-Array.items, ← c.deref.ensures, ← c.deref-in-List-Array.ensures.value) c.list_under.ensures

pub items_under-returns-in_err-value_under : goal.items_under-returns-in_err-value_under
items_under-returns-in_err-value_under t c =
    let p = err_from_is_err_and c.from_residual-in_err-value_under.result c.from_residual-in_err-value_under.ensures.1 in
    rw (p.1, p.2)
    (item_fails (shape_view c.args.item.now) c.args.json.now c.loop-json.json-index c.json-item.result c.loop-json.items.items c.in_err-value_under.field-0.0
    (items_read (λ d. read (shape_view c.args.item.now) d) (items_view c.args.json.now))
    c.loop-json-test.true c.json-item.is c.loop-json.invariant c.in_err-value_under.ensures)

pub items_under-loop-json-preserved : goal.items_under-loop-json-preserved
items_under-loop-json-preserved t c = search (rules, next_item, item_fails, no_item_left)

pub items_under-returns : goal.items_under-returns
items_under-returns t c = search (rules, next_item, item_fails, no_item_left)

pub list_under-returns-then-json-max : goal.list_under-returns-then-json-max
list_under-returns-then-json-max t c = search (rules, list_too_long, list_short)

pub list_under-returns-in_err-items : goal.list_under-returns-in_err-items
list_under-returns-in_err-items t c = search (rules, list_too_long, list_short)

pub nth_under-returns : goal.nth_under-returns
nth_under-returns t c =
    λ shape is. nth_gives c.args.shapes.now c.args.index c.index-shapes-index.result shape (view c.args.json.now) c.value_under.result c.requires.0 c.index-shapes-index.is is c.value_under.ensures

pub fields_under-loop-name-init : goal.fields_under-loop-name-init
fields_under-loop-name-init t c =
    starts c.args.names.now c.args.shapes.now c.required-required.result.now c.args.members.now.entries c.into_iter-name-iterator.result c.in_ok-present.present.indices c.in_ok-present.present.values.items
    (search rules) c.in_ok-present.ensures.0 c.in_ok-present.ensures.1 (search rules) (c.required-required.ensures ∙ ap required_indices c.requires.needs)

pub fields_under-returns-in_err-next : goal.fields_under-returns-in_err-next
fields_under-returns-in_err-next t c =
    let p = err_from_is_err_and c.from_residual-in_err-next.result c.from_residual-in_err-next.ensures.1 in
    rw (p.1, p.2)
    (refuses_same (is_reading_memory c.in_err-next.field-0.0) c.in_err-next.field-0.0 (fields_read (Of c.args.names.now c.args.shapes.now) (members_view c.args.members.now.entries))
    (index_missing c.requires.long c.in-Some.ensures.steps c.loop-name.invariant c.as_slice-count.ensures.rise
    c.in-Some-index_from.index (rw c.as_str.ensures.value at c.in-Some-index_from.ensures) c.in_err-next.field-0.0 c.in_err-next.ensures))

pub fields_under-nth_under-requires : goal.fields_under-nth_under-requires
fields_under-nth_under-requires t c =
    let inside = index_inside c.requires.long c.in-Some.ensures.steps c.loop-name.invariant c.as_slice-count.ensures.rise
    c.in-Some-index_from.index (rw c.as_str.ensures.value at c.in-Some-index_from.ensures) in
    (search rules, needs_at c.args.names.now c.args.shapes.now c.inner-inner.result.now c.in-Some-index_from.index c.requires.long inside (c.inner-inner.ensures ∙ ap needs_inside c.requires.needs))

pub fields_under-returns-in_err-value : goal.fields_under-returns-in_err-value
fields_under-returns-in_err-value t c =
    let p = err_from_is_err_and c.from_residual-in_err-value.result c.from_residual-in_err-value.ensures.1 in
    rw (p.1, p.2)
    (index_fails c.requires.long c.in-Some.ensures.steps c.loop-name.invariant c.as_slice-count.ensures.rise
    c.in-Some-index_from.index (rw c.as_str.ensures.value at c.in-Some-index_from.ensures) c.in_ok-next.next c.in_ok-next.ensures c.in_err-value.field-0.0 c.in_err-value.ensures)

pub fields_under-overflow_add-from : goal.fields_under-overflow_add-from
fields_under-overflow_add-from t c =
    let inside = index_inside c.requires.long c.in-Some.ensures.steps c.loop-name.invariant c.as_slice-count.ensures.rise
    c.in-Some-index_from.index (rw c.as_str.ensures.value at c.in-Some-index_from.ensures) in
    search (rules, inside)

pub fields_under-loop-name-preserved-in-Some-index_from : goal.fields_under-loop-name-preserved-in-Some-index_from
fields_under-loop-name-preserved-in-Some-index_from t c =
    rw (c.in_ok-add.ensures.indices, c.in_ok-add.ensures.values)
    (index_read c.requires.long c.in-Some.ensures.steps c.loop-name.invariant c.as_slice-count.ensures.rise
    c.in-Some-index_from.index (rw c.as_str.ensures.value at c.in-Some-index_from.ensures) c.in_ok-next.next c.in_ok-next.ensures c.in_ok-value.value c.in_ok-value.ensures)

pub fields_under-loop-name-preserved : goal.fields_under-loop-name-preserved
fields_under-loop-name-preserved t c =
    other_member c.requires.long c.in-Some.ensures.steps c.loop-name.invariant
    (rw c.as_str.ensures.value at c.in_default.ensures)

pub fields_under-returns-in_err-passed : goal.fields_under-returns-in_err-passed
fields_under-returns-in_err-passed t c =
    let p = err_from_is_err_and c.from_residual-in_err-passed.result c.from_residual-in_err-passed.ensures.1 in
    rw (p.1, p.2)
    (refuses_same (is_reading_memory c.in_err-passed.field-0.0) c.in_err-passed.field-0.0 (fields_read (Of c.args.names.now c.args.shapes.now) (members_view c.args.members.now.entries))
    (ends_missing c.requires.long c.in-None.ensures.steps.0 c.loop-name.invariant c.in_err-passed.field-0.0 (rw c.as_slice-count.ensures.names at c.in_err-passed.ensures)))

pub fields_under-returns : goal.fields_under-returns
fields_under-returns t c =
    ends c.requires.long c.in-None.ensures.steps.0 c.loop-name.invariant c.in_ok-passed.field-0 (rw c.as_slice-count.ensures.names at c.in_ok-passed.ensures)

pub record_under-fields_under-requires : goal.record_under-fields_under-requires
record_under-fields_under-requires t c =
    (search rules, (not_longer c.in_ok-names.names c.args.of.now c.args.shapes.now c.in_ok-names.ensures, first_need c.in_ok-names.names c.args.of.now c.args.shapes.now (needs_view c.args.needs.now) c.in_ok-names.ensures c.requires))

pub record_under-returns : goal.record_under-returns
record_under-returns t c =
    record_read c.args.of.now c.args.shapes.now (members_view c.args.members.now.entries) _ c.in_ok-new.field-0 c.in_ok-new.ensures.ok c.in_ok-names.ensures c.in_ok-present.ensures

pub record_under-returns-in_err-present : goal.record_under-returns-in_err-present
record_under-returns-in_err-present t c =
    let p = err_from_is_err_and c.from_residual-in_err-present.result c.from_residual-in_err-present.ensures.1 in
    rw (p.1, p.2)
    (record_fails c.args.of.now c.in_ok-names.names c.args.shapes.now (members_view c.args.members.now.entries) c.in_err-present.field-0.0 c.in_ok-names.ensures c.in_err-present.ensures)

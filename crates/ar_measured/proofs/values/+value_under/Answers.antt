use Rattle.std.proofs.Common.{rules, ◌∙◌}
use Rattle.std.proofs.lemmas.Result.{err_from_is_err_and}
use Rattle.json.proofs.Trees.{view-Array}
use Rattle.json.specs.Value.{items_view as borrowed_items}
use Rattle.serde_json.specs.Read.{of_items}
use Rattle.ar_value.proofs.Views.{shape_view-list}
use Rattle.ar_value.specs.View.{shape_view}
use Rattle.ar_value.specs.declared.value.Value.{the_lemmas}
use Rattle.ar_json.specs.Reading.{is_memory_under, read}
use Rattle.ar_json.proofs.ReadLemmas.{under_is_memory}
use Rattle.ar_measured.proofs.Measures.{array_read, item_refused, items_end, list_refused, list_short, list_too_long, next_item}
use Rattle.ar_measured.proofs.values.+value_under.Goals as goal

pub items_under-returns-in_err-value_under : goal.items_under-returns-in_err-value_under
items_under-returns-in_err-value_under t c =
    let p = err_from_is_err_and c.from_residual-in_err-value_under.result c.from_residual-in_err-value_under.ensures.1 in
    rw (p.1, p.2)
    (item_refused (λ d. read (shape_view c.args.item.now) d) c.args.json.now c.loop-json.json-index c.loop-json.items.items _
    (is_memory_under (shape_view c.args.item.now) c.in_err-value_under.field-0.0) c.json-item.result c.in_err-value_under.field-0.0
    (under_is_memory (shape_view c.args.item.now) c.in_err-value_under.field-0.0) c.loop-json-test.true c.json-item.is c.loop-json.invariant c.in_err-value_under.ensures)

pub items_under-loop-json-preserved : goal.items_under-loop-json-preserved
items_under-loop-json-preserved t c =
    next_item (λ d. read (shape_view c.args.item.now) d) c.args.json.now c.loop-json.json-index c.loop-json.items.items _ c.json-item.result c.in_ok-value_under.field-0 c.push.new.self.items
    c.loop-json-test.true c.json-item.is c.in_ok-push.ensures.items c.loop-json.invariant c.in_ok-value_under.ensures

pub items_under-returns : goal.items_under-returns
items_under-returns t c =
    items_end (λ d. read (shape_view c.args.item.now) d) c.args.json.now c.loop-json.json-index c.loop-json.items.items _ c.loop-json-test.false c.loop-json.invariant

pub list_under-returns-then-json-max : goal.list_under-returns-then-json-max
list_under-returns-then-json-max t c = list_too_long (λ d. read (shape_view c.args.item.now) d) c.args.max c.args.json.now c.if-json-max.true

pub list_under-returns-in_err-items : goal.list_under-returns-in_err-items
list_under-returns-in_err-items t c =
    let p = err_from_is_err_and c.from_residual.result c.from_residual.ensures.1 in
    rw (p.1, p.2)
    (list_refused (λ d. read (shape_view c.args.item.now) d) c.args.max c.args.json.now c.in_err-items.field-0.0 c.if-json-max.false c.in_err-items.ensures)

pub list_under-returns : goal.list_under-returns
list_under-returns t c =
    list_short (λ d. read (shape_view c.args.item.now) d) c.args.max c.args.json.now c.if-json-max.false ∙ rw c.in_ok-items.ensures (search (rules, the_lemmas))

pub value_under-returns-in-List-Array : goal.value_under-returns-in-List-Array
value_under-returns-in-List-Array t c =
    rw (c.in-List-Array.is-0, c.in-List-Array.is-1, shape_view-list c.in-List-Array.item c.in-List-Array.max, view-Array c.in-List-Array.items, array_read (shape_view c.in-List-Array.item.value) c.in-List-Array.max (of_items (borrowed_items c.in-List-Array.items.items)), ← c.deref.ensures, ← c.deref-in-List-Array.ensures.value) c.list_under.ensures

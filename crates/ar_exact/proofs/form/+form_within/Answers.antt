use Rattle.std.proofs.Common.{◌≡◌, ◌+◌, ◌∷◌, drop, map, sym, ap, ◌∙◌, add-one, arith}
use Rattle.std.proofs.Math.ListN.{drop_of_length-le}
use Rattle.serde_json.specs.Data.{array}
use Rattle.serde_json.specs.View.{items_of, view}
use Rattle.serde_json.proofs.Views.{view-Array}
use Rattle.ar_value.specs.Value as values
use Rattle.ar_machine.specs.Operand.{list_values, value_of}
use Rattle.ar_exact.specs.Exact.{forms, items_room}
use Rattle.ar_exact.proofs.Room.{before_none, fits_room, next_item}
use Rattle.ar_exact.proofs.form.+form_within.Goals as goal

pub list_form-loop-index-preserved : goal.list_form-loop-index-preserved
list_form-loop-index-preserved t c =
    let l = c.loop-index in
    let vs = list_values c.args.list in
    let here : drop l.index vs ≡ value_of c.item.result ∷ drop (l.index + 1) vs = rw (add-one l.index) c.item.ensures in
    let made = rw c.in-Some.is at c.in_ok-form.ensures in
    rw c.in_ok-push.ensures.items (next_item vs l.index (value_of c.item.result) l.items.items c.in-Some.form.json c.args.room l.left c.in-Some.form.left here made l.invariant)

pub list_form-returns : goal.list_form-returns
list_form-returns t c =
    let l = c.loop-index in
    let vs = list_values c.args.list in
    let none = drop_of_length-le vs {i = l.index} (omega (arith, c.loop-index-test.false, c.len-index-end.ensures.all)) in
    let whole = rw none at l.invariant in
    let made : array (items_of (map view l.items.items)) ≡ array (forms (values.items_of vs)) = ap array (sym (before_none (map view l.items.items)) ∙ whole.0) in
    rw (view-Array l.items, ← made) (fits_room (array (items_of (map view l.items.items))) (items_room (values.items_of vs)) c.args.room l.left (omega (arith, whole.1)))

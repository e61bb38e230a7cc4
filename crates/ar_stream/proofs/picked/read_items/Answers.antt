use Rattle.std.proofs.Common.{◌≡◌, ◌∙◌, None, if◌then◌else◌, ap, arith}
use Rattle.std.proofs.lemmas.Result.{err_from_is_err_and}
use Rattle.json.specs.Json.{after_end_array, parse_map, value}
use Rattle.serde_json.specs.Data.{null}
use Rattle.ar_value.proofs.Steps.{leads}
use Rattle.ar_stream.specs.Error.{is_stream_memory}
use Rattle.ar_stream.proofs.Picking.{all_picked, none_picked, one_picked}
use Rattle.ar_stream.proofs.Taken.{item_refused, items_before}
use Rattle.ar_stream.proofs.picked.read_items.Goals as goal

pub items-init : goal.items-init
items-init c = none_picked c.args.picks.now c.args.levels c.args.reader.now c.args.reader.now c.args.picks.now c.new-kept.result.items c.new-kept.ensures.items

pub returns-in_err-item-clause-refused : goal.returns-in_err-item-clause-refused
returns-in_err-item-clause-refused c =
    let l = c.items in
    let going : (after_end_array l.reader ≡ None) × (c.take_end_array.new.self ≡ l.reader) = grind arith in
    let error = err_from_is_err_and c.from_residual.result c.from_residual.ensures.1 in
    rw (error.1, error.2)
    (leads (is_stream_memory c.in_err-item.field-0.0)
    (λ none. l.invariant.reads ∙ ap (parse_map (items_before l.invariant.done)) (item_refused (value c.args.levels) l.invariant.n l.reader going.0 (rw going.1 at none)))
    c.in_err-item.ensures.refused)

pub items-preserved : goal.items-preserved
items-preserved c =
    let l = c.items in
    let going : (after_end_array l.reader ≡ None) × (c.take_end_array.new.self ≡ l.reader) = grind arith in
    let read = c.in_ok-item.ensures.read in
    rw (c.next_pick-pick.ensures.later, c.in_ok-try_push.ensures)
    (one_picked c.args.picks.now c.args.levels c.args.reader.now l.reader l.left.now l.kept.items l.invariant c.read_item.new.reader read.0 c.in_ok-item.item going.0
    (rw going.1 at read.1) (rw going.1 at c.in_ok-item.ensures.shorter) (read.2 ∙ ap (λ pick. if pick then read.0 else null) c.next_pick-pick.ensures.first))

pub returns-clause-read : goal.returns-clause-read
returns-clause-read c = all_picked c.args.picks.now c.args.levels c.args.reader.now c.items.reader c.items.left.now c.items.kept.items c.items.invariant c.take_end_array.new.self (grind arith)

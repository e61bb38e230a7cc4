use Rattle.std.proofs.Common.{◌≡◌, None, arith}
use Rattle.std.proofs.lemmas.Result.{err_from_is_err_and}
use Rattle.json.specs.Json.{after_end_array}
use Rattle.ar_value.proofs.Steps.{leads}
use Rattle.ar_stream.specs.Error.{is_stream_memory}
use Rattle.ar_document.proofs.Measuring.{no_list, none_listed, one_listed, whole_list}
use Rattle.ar_document.proofs.measurements.read_list.Goals as goal

pub items-init : goal.items-init
items-init c = none_listed c.args.opened.now c.args.levels c.args.reader.now c.new-listed.result (c.new-listed.ensures c.args.opened.now)

pub returns-in_err-listed-clause-refused : goal.returns-in_err-listed-clause-refused
returns-in_err-listed-clause-refused c =
    let l = c.items in
    let going : (after_end_array l.reader ≡ None) × (c.take_end_array.new.self ≡ l.reader) = grind arith in
    let error = err_from_is_err_and c.from_residual.result c.from_residual.ensures.1 in
    rw (error.1, error.2)
    (leads (is_stream_memory c.in_err-listed.field-0.0)
    (λ none. no_list c.args.opened.now c.args.levels c.args.reader.now l.reader l.listed l.invariant going.0 (rw going.1 at none))
    c.in_err-listed.ensures.refused)

pub items-preserved : goal.items-preserved
items-preserved c =
    one_listed c.args.opened.now c.args.levels c.args.reader.now c.items.reader c.take_end_array.new.self c.with_next.new.reader c.items.listed c.in_ok-listed.listed (grind arith) c.in_ok-listed.ensures.read c.in_ok-listed.ensures.shorter c.items.invariant

pub returns-clause-read : goal.returns-clause-read
returns-clause-read c =
    let l = c.items in
    whole_list c.args.opened.now c.args.levels c.args.reader.now l.reader c.take_end_array.new.self l.listed l.invariant (grind arith)

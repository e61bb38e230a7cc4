use Rattle.std.proofs.Common.{◌∙◌, ap}
use Rattle.std.proofs.lemmas.Result.{err_from_is_err_and}
use Rattle.json.specs.Json.{parse_map}
use Rattle.serde_json.specs.Data.{array}
use Rattle.serde_json.proofs.Views.{view-Array}
use Rattle.ar_value.proofs.Steps.{leads}
use Rattle.ar_stream.specs.Error.{is_stream_memory}
use Rattle.ar_stream.proofs.Taken.{array_at}
use Rattle.ar_stream.proofs.picked.read_array.Goals as goal

pub returns-in_err-read_items-in-Array-clause-refused : goal.returns-in_err-read_items-in-Array-clause-refused
returns-in_err-read_items-in-Array-clause-refused c =
    let entered = rw c.in-Array.is at c.in_ok-enter.ensures.value in
    let error = err_from_is_err_and c.from_residual-in_err-read_items-in-Array.result c.from_residual-in_err-read_items-in-Array.ensures.1 in
    rw (error.1, error.2)
    (leads (is_stream_memory c.in_err-read_items-in-Array.field-0.0)
    (λ none. array_at c.args.levels c.args.reader.now c.enter.new.reader entered.0 entered.1 ∙ ap (parse_map array) none)
    c.in_err-read_items-in-Array.ensures.refused)

pub returns-in_ok-read_items-in-Array-clause-read : goal.returns-in_ok-read_items-in-Array-clause-read
returns-in_ok-read_items-in-Array-clause-read c =
    let entered = rw c.in-Array.is at c.in_ok-enter.ensures.value in
    let read = c.in_ok-read_items-in-Array.ensures.read in (
      array read.0,
      array_at c.args.levels c.args.reader.now c.enter.new.reader entered.0 entered.1 ∙ ap (parse_map array) read.1,
      view-Array c.in_ok-read_items-in-Array.field-0 ∙ ap array read.2,
    )

use Rattle.std.proofs.Common.{refl}
use Rattle.json.proofs.Grammar.{left_some}
use Rattle.ar_stream.specs.Passing.{data_at}
use Rattle.ar_document.proofs.measurements.with_passed.Goals as goal

pub returns-clause-read : goal.returns-clause-read
returns-clause-read c =
    let given = left_some (data_at c.args.levels c.args.reader.now) c.pass_value.new.reader c.in_ok-pass_value.ensures.value in
    (given.0, given.1, refl)

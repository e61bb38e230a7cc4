use Rattle.json.specs.Value.{value_view}
use Rattle.ar_document.proofs.Measuring.{next_found}
use Rattle.ar_document.proofs.measurements.with_next_entry.Goals as goal

pub returns-clause-read : goal.returns-clause-read
returns-clause-read c =
    next_found c.args.levels c.args.reader.now c.read_borrowed.new.reader (value_view c.in_ok-item.item) _ c.with_entry.result c.in_ok-item.ensures.read c.with_entry.ensures.exact

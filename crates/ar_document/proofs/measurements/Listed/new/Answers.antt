use Rattle.ar_document.proofs.Measuring.{nothing_read}
use Rattle.ar_document.proofs.measurements.Listed.new.Goals as goal

pub returns : goal.returns
returns c opened = nothing_read opened c.new.result c.new.ensures.items

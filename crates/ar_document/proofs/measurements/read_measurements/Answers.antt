use Rattle.serde_json.specs.Data.{null}
use Rattle.ar_document.proofs.Measuring.{list_given, list_refused, none_given, other_given, some_found}
use Rattle.ar_document.proofs.measurements.read_measurements.Goals as goal

pub returns-in-Null-clause-read : goal.returns-in-Null-clause-read
returns-in-Null-clause-read c = some_found c.enter.new.reader _ null _ (rw c.in-Null.is at c.in_ok-enter.ensures.value) (none_given c.args.opened.now c.new.result c.new.ensures.items)

pub returns-in-Other-clause-read : goal.returns-in-Other-clause-read
returns-in-Other-clause-read c =
    let other = rw c.in-Other.is at c.in_ok-enter.ensures.value in
    some_found c.enter.new.reader _ other.is _ other.found (other_given c.args.opened.now other.is other.no_array other.no_null)

pub returns-in-Array-clause-read : goal.returns-in-Array-clause-read
returns-in-Array-clause-read c =
    let entered = rw c.in-Array.is at c.in_ok-enter.ensures.value in
    list_given c.args.levels c.args.reader.now c.enter.new.reader entered.0 entered.1 c.args.opened.now c.read_list.new.reader c.read_list.result c.read_list.ensures.read

pub returns-in-Array-clause-refused : goal.returns-in-Array-clause-refused
returns-in-Array-clause-refused c =
    let entered = rw c.in-Array.is at c.in_ok-enter.ensures.value in
    list_refused c.args.levels c.args.reader.now c.enter.new.reader entered.0 entered.1 c.read_list.result c.read_list.ensures.refused

use Rattle.serde_json.specs.Read.{number_of}
use Rattle.ar_measured.proofs.Numbers.{decimal_read}
use Rattle.ar_measured.proofs.parts.whole_as_decimal.Goals as goal

pub returns : goal.returns
returns c = decimal_read (number_of c.args.digits.now) c.integer_of.result c.decimal_of_whole.result c.integer_of.ensures c.decimal_of_whole.ensures

use Rattle.serde_json.specs.Read.{number_of}
use Rattle.ar_measured.proofs.Numbers.{whole_read}
use Rattle.ar_measured.proofs.parts.whole_value.Goals as goal

pub returns : goal.returns
returns c = whole_read (number_of c.args.digits.now) c.integer_of.result c.whole_of.result c.integer_of.ensures c.whole_of.ensures

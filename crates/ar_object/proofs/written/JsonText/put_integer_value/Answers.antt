use Rattle.ar_object.proofs.Texts.{integer_written}
use Rattle.ar_object.proofs.written.JsonText.put_integer_value.Goals as goal

pub returns : goal.returns
returns c = integer_written c.args.integer c.args.self.now.written c.put_integer.new.self.written c.ranges.integer c.put_integer.ensures

use Rattle.ar_object.proofs.Texts.{named}
use Rattle.ar_reason.proofs.data.put_change.Goals as goal

pub returns : goal.returns
returns c = rw c.in-Some.is (named c.put_key.ensures c.write_change.ensures)

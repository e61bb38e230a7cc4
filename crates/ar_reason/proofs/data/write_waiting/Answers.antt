use Rattle.std.proofs.Common.{refl}
use Rattle.ar_object.proofs.Texts.{last, named, object_is, then}
use Rattle.ar_reason.proofs.data.write_waiting.Goals as goal

pub returns : goal.returns
returns c =
    let written = object_is c.begin_object.ensures (then (named c.put_key.ensures c.write_metric.ensures) (then c.put_settled.ensures (then c.put_waits.ensures (last c.end_object.ensures)))) refl in
    rw (c.settled_by.ensures, c.waits_for.ensures) at written

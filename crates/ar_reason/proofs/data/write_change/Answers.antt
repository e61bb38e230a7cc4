use Rattle.std.proofs.Common.{refl}
use Rattle.ar_object.proofs.Texts.{last, named, object_is, then}
use Rattle.ar_reason.proofs.data.write_change.Goals as goal

pub returns : goal.returns
returns c =
    object_is c.begin_object.ensures (then (named c.put_key.ensures c.write_counts.ensures) (then (named c.put_key-2.ensures c.write_counts-2.ensures) (then (named c.put_key-3.ensures c.write_limits.ensures) (last c.end_object.ensures)))) refl

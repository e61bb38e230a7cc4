use Rattle.std.proofs.Common.{refl}
use Rattle.ar_object.proofs.Texts.{last, object_is, then}
use Rattle.ar_reason.proofs.data.write_awaited.Goals as goal

pub returns : goal.returns
returns c =
    object_is c.begin_object.ensures (then c.put_count_if_there.ensures (then c.put_measured.ensures (then c.put_text.ensures (last c.end_object.ensures)))) refl

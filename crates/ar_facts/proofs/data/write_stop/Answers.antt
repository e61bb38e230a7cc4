use Rattle.std.proofs.Common.{refl}
use Rattle.ar_object.proofs.Texts.{last, object_is, then}
use Rattle.ar_facts.proofs.data.write_stop.Goals as goal

pub returns : goal.returns
returns c =
    rw (← c.effect_name.ensures, ← c.closed_as.ensures)
    (object_is c.begin_object.ensures (then c.put_null.ensures (then c.put_text.ensures (then c.put_null-2.ensures (then c.put_null-3.ensures (then c.put_count.ensures (then c.put_text_if_there.ensures (then c.put_flag.ensures (then c.put_null-4.ensures (last c.end_object.ensures))))))))) refl)

use Rattle.std.proofs.Common.{refl}
use Rattle.ar_object.proofs.Texts.{last, object_is, then}
use Rattle.ar_facts.proofs.data.write_judged.Goals as goal

pub returns : goal.returns
returns c =
    rw (← c.cause_if_error.ensures, ← c.effect_name.ensures, ← c.fault_if_error.ensures, ← c.closed_as.ensures, ← c.verdict_name.ensures)
    (object_is c.begin_object.ensures (then c.put_text_if_there.ensures (then c.put_text.ensures (then c.put_text_if_there-2.ensures (then c.put_text-2.ensures (then c.put_count.ensures (then c.put_text_if_there-3.ensures (then c.put_flag.ensures (then c.put_text-3.ensures (last c.end_object.ensures))))))))) refl)

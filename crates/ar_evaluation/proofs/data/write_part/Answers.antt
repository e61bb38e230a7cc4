use Rattle.std.proofs.Common.{refl}
use Rattle.ar_object.proofs.Texts.{last, object_is, then}
use Rattle.ar_evaluation.proofs.data.write_part.Goals as goal

pub returns : goal.returns
returns c =
    let written = object_is c.begin_object.ensures (then c.put_flag.ensures (then c.put_gap.ensures (then c.put_apart.ensures (then c.put_text_if_there.ensures (then c.put_items.ensures (then c.put_flag-2.ensures (then c.put_text_if_there-2.ensures (then c.put_text.ensures (then c.put_text_if_there-3.ensures (then c.put_value.ensures (last c.end_object.ensures))))))))))) refl in
    rw (c.converts.ensures, c.failure_if_there.ensures, c.deref.ensures.value, c.was_needed.ensures, c.operands_if_there.ensures, c.deref-2.ensures, c.in_ok-part.ensures, c.shown_if_there.ensures) at written

use Rattle.std.proofs.Common.{refl}
use Rattle.ar_object.proofs.Texts.{last, list_member, named, object_is, then}
use Rattle.ar_reason.proofs.data.write_reason_of.Goals as goal

pub returns : goal.returns
returns c =
    let conditions = list_member c.begin_list.ensures c.in_ok-write_evaluated.ensures c.end_list.ensures in
    let event = named c.put_key.ensures c.write_event.ensures in
    rw (← c.lacks_conditions.ensures, ← c.why_of.ensures)
    (object_is c.begin_object.ensures (then conditions (then c.put_change.ensures (then c.put_error.ensures (then event (then c.in_ok-put_misfit.ensures (then c.put_flag.ensures (then c.put_why.ensures (then c.in_ok-put_shown.ensures (then c.in_ok-put_value.ensures (last c.end_object.ensures)))))))))) refl)

use Rattle.std.proofs.Common.{refl}
use Rattle.ar_object.proofs.Texts.{last, object_is, then}
use Rattle.ar_reason.proofs.why_data.write_why_members.Goals as goal

pub returns : goal.returns
returns c =
    object_is c.begin_object.ensures (then c.put_number_if_there.ensures (then c.put_number_if_there-2.ensures (then c.put_text.ensures (then c.put_text_if_there.ensures (then c.put_text_if_there-2.ensures (then c.put_number_if_there-3.ensures (last c.end_object.ensures))))))) refl

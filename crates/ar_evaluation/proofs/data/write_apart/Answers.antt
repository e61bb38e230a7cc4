use Rattle.std.proofs.Common.{refl}
use Rattle.ar_object.proofs.Texts.{last, object_is, then}
use Rattle.ar_evaluation.proofs.data.write_apart.Goals as goal

pub returns : goal.returns
returns c =
    let written = object_is c.begin_object.ensures (then c.put_count.ensures (then c.put_text.ensures (then c.put_text-2.ensures (last c.end_object.ensures)))) refl in
    rw (c.deref.ensures, c.deref-2.ensures) at written

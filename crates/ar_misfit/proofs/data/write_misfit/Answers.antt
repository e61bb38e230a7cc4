use Rattle.std.proofs.Common.{refl}
use Rattle.ar_object.proofs.Texts.{last, object_is, then}
use Rattle.ar_misfit.proofs.data.write_misfit.Goals as goal

pub returns : goal.returns
returns c =
    let written = object_is c.begin_object.ensures (then c.put_text.ensures (then c.put_text-2.ensures (then c.put_text-3.ensures (then c.in_ok-put_hint.ensures (then c.put_path.ensures (then c.put_text-4.ensures (last c.end_object.ensures))))))) refl in
    rw (c.deref-2.ensures, c.in_ok-expected.ensures, c.name.ensures, c.deref-3.ensures, c.in_ok-found.ensures, c.advice_on.ensures, c.deref-4.ensures.value, c.deref-5.ensures, c.in_ok-pointer.ensures, c.deref.ensures.value) at written

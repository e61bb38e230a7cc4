use Rattle.std.proofs.Common.{refl}
use Rattle.ar_object.proofs.Texts.{last, object_is, then}
use Rattle.ar_evaluation.proofs.data.write_evaluation.Goals as goal

pub returns : goal.returns
returns c =
    let written = object_is c.begin_object.ensures (then c.put_answer.ensures (then c.put_text.ensures (then c.put_apart.ensures (then c.put_count.ensures (then c.put_text_if_there.ensures (then c.in_ok-put_parts.ensures (then c.put_text-2.ensures (last c.end_object.ensures)))))))) refl in
    rw c.operands_if_there.ensures at written

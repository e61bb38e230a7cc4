use Rattle.std.proofs.Common.{refl}
use Rattle.ar_object.proofs.Texts.{last, object_is, then}
use Rattle.ar_report.proofs.json.write_answer.Goals as goal
use Rattle.ar_report.proofs.json.write_answer.Goals.{in-Err, in-Ok}

pub returns : goal.returns
returns c =
    let ends = then c.put_count.ensures (last c.end_object.ensures) in
    elim c.match-answer.branch [
      | in-Ok w ↦ rw w.in-Ok.is (object_is c.begin_object.ensures (then w.put_flag.ensures (then w.put_null.ensures (rw w.json-is at ends))) refl)
      | in-Err w ↦ rw (w.in-Err.is, ← w.name.ensures) (object_is c.begin_object.ensures (then w.put_null-in-Err.ensures (then w.put_text.ensures (rw w.json-is at ends))) refl)
    ]

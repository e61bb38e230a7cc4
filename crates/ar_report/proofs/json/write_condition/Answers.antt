use Rattle.std.proofs.Common.{refl}
use Rattle.ar_object.proofs.Texts.{last, object_is, then}
use Rattle.ar_report.proofs.json.write_condition.Goals as goal

pub returns : goal.returns
returns c =
    let written = object_is c.begin_object.ensures (then c.put_count.ensures (then c.put_text.ensures (then c.put_count-2.ensures (then c.put_text-2.ensures (then c.put_count-3.ensures (then c.put_text-3.ensures (last c.end_object.ensures))))))) refl in
    rw (c.budget.ensures.budget, c.depth.ensures.depth, c.ops.ensures.ops, c.code.ensures.code) at written

use Rattle.std.proofs.Common.{refl}
use Rattle.ar_object.proofs.Texts.{last, object_is, then}
use Rattle.ar_report.proofs.json.write_most.Goals as goal

pub returns : goal.returns
returns c = object_is c.begin_object.ensures (then c.put_count.ensures (then c.put_count-2.ensures (then c.put_count-3.ensures (then c.put_count-4.ensures (then c.put_count-5.ensures (then c.put_count-6.ensures (last c.end_object.ensures))))))) refl

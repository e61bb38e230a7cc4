use Rattle.std.proofs.Common.{refl}
use Rattle.ar_object.proofs.Texts.{last, object_is, then}
use Rattle.ar_evaluation.proofs.data.write_gap.Goals as goal

pub returns : goal.returns
returns c = object_is c.begin_object.ensures (then c.put_count.ensures (then c.put_count-2.ensures (last c.end_object.ensures))) refl

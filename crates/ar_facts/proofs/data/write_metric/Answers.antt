use Rattle.std.proofs.Common.{refl}
use Rattle.ar_object.proofs.Texts.{last, named, object_is, then}
use Rattle.ar_facts.proofs.data.write_metric.Goals as goal

pub returns : goal.returns
returns c =
    rw (← c.phase_name.ensures, ← c.as_str.ensures) (object_is c.begin_object.ensures (then (named c.put_key.ensures c.write_counts.ensures) (then c.put_flag.ensures (then (named c.put_key-2.ensures c.write_limits.ensures) (then c.put_text.ensures (then c.put_text-2.ensures (last c.end_object.ensures)))))) refl)

use Rattle.ar_object.proofs.Texts.{list_member}
use Rattle.ar_evaluation.proofs.Lists.{all_parts}
use Rattle.ar_evaluation.proofs.data.put_parts.Goals as goal

pub returns : goal.returns
returns c =
    let written =
    list_member c.begin_list.ensures (all_parts _ _ _ _ _ _ _ _ c.as_slices.ensures.items c.in_ok-write_parts.ensures c.in_ok-write_parts-2.ensures c.in_ok-write_parts-3.ensures) c.end_list.ensures in
    rw c.deref.ensures.value at written

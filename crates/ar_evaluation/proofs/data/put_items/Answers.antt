use Rattle.std.proofs.Common.{arith}
use Rattle.std.proofs.lemmas.List.{drop_all, drop_more}
use Rattle.ar_object.proofs.Texts.{all_remain, list_member, next_value, none_remains}
use Rattle.ar_object.specs.Object.{count_data}
use Rattle.ar_evaluation.proofs.data.put_items.Goals as goal

pub loop-item-init : goal.loop-item-init
loop-item-init c = all_remain _ _

pub loop-item-preserved : goal.loop-item-preserved
loop-item-preserved c =
    let l = c.loop-item in
    next_value count_data _ _ _ _ _ _ _ (drop_more c.args.items.now l.item-index 0 (omega arith)) c.put_count_value.ensures l.invariant

pub returns : goal.returns
returns c =
    let l = c.loop-item in
    list_member c.begin_list.ensures (none_remains count_data _ _ _ _ (drop_all l.item-index c.args.items.now (omega arith)) l.invariant) c.end_list.ensures

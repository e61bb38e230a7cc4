use Rattle.std.proofs.Common.{arith, rules}
use Rattle.ar_object.proofs.Texts.{all_remain, list_member}
use Rattle.ar_report.proofs.Shown.{next_condition, no_condition}
use Rattle.ar_report.proofs.json.put_conditions.Goals as goal

pub loop-condition-init : goal.loop-condition-init
loop-condition-init c = all_remain _ _

pub loop-condition-preserved : goal.loop-condition-preserved
loop-condition-preserved c = search (rules, next_condition)

pub returns : goal.returns
returns c =
    let l = c.loop-condition in
    list_member c.begin_list.ensures (no_condition c.args.conditions.now l.condition-index _ _ _ (omega arith) l.invariant) c.end_list.ensures

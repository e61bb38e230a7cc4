use Rattle.std.proofs.Common.{arith, rules}
use Rattle.ar_object.proofs.Texts.{all_remain, list_member}
use Rattle.ar_misfit.proofs.Steps.{next_object, no_object_left}
use Rattle.ar_misfit.proofs.data.put_path.Goals as goal

pub loop-step-init : goal.loop-step-init
loop-step-init c = all_remain _ _

pub loop-step-preserved : goal.loop-step-preserved
loop-step-preserved c = search (rules, next_object)

pub returns : goal.returns
returns c =
    let l = c.loop-step in
    list_member c.begin_list.ensures (no_object_left c.args.path.now l.step-index _ _ _ (omega arith) l.invariant) c.end_list.ensures

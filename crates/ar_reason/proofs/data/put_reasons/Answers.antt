use Rattle.std.proofs.Common.{arith, rules}
use Rattle.serde_json.specs.View.{view}
use Rattle.ar_object.proofs.Texts.{all_remain, list_member}
use Rattle.ar_reason.proofs.Events.{is_found_read}
use Rattle.ar_evaluation.proofs.Lists.{next_object, no_object_left}
use Rattle.ar_reason.specs.Reason.{reason_of}
use Rattle.ar_reason.specs.ReasonData.{reason_data}
use Rattle.ar_reason.proofs.data.put_reasons.Goals as goal

pub loop-step-init : goal.loop-step-init
loop-step-init c = all_remain _ _

pub write_reason-requires-clause-found : goal.write_reason-requires-clause-found
write_reason-requires-clause-found c = is_found_read c.args.bundle.now c.args.run c.args.steps.now c.loop-step.step-index _ c.requires.found c.loop-step-test.true

pub loop-step-preserved : goal.loop-step-preserved
loop-step-preserved c = search (rules, next_object (reason_of (view c.args.document.now) c.args.bundle.now) reason_data)

pub returns : goal.returns
returns c =
    let l = c.loop-step in
    list_member c.begin_list.ensures (no_object_left (reason_of (view c.args.document.now) c.args.bundle.now) reason_data c.args.steps.now l.step-index _ _ _ (omega arith) l.invariant) c.end_list.ensures

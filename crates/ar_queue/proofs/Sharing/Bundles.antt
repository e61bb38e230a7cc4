-- Bundles can be shared between threads.
use denote.Param.Send.{IsSend, IsSync, sendable}
use denote.Param.SendFields.{declared_send, declared_sync, variants_sync}
use Rattle.std.proofs.Crossing.{crosses, Arc-sync}
use Rattle.ar_op.specs.contracts.code.Code as Code
use Rattle.ar_op.specs.contracts.op.Op as Op
use Rattle.ar_safety.specs.contracts.verified.Verified as Verified
use Rattle.ar_safety.specs.contracts.verified.Verified.TheInside as VerifiedInside
use Rattle.ar_judge.specs.contracts.condition.Condition as Condition
use Rattle.ar_judge.specs.contracts.condition.Condition.TheInside as ConditionInside
use Rattle.ar_judge.specs.contracts.judge.Judge as Judge
use Rattle.ar_judge.specs.contracts.sample.Sample as Sample
use Rattle.ar_judge.specs.contracts.shared_condition.SharedCondition as SharedCondition
use Rattle.ar_judge.specs.contracts.shared_condition.SharedCondition.TheInside as SharedConditionInside
use Rattle.ar_bundle.specs.contracts.bundle.Bundle as Bundle
use Rattle.ar_bundle.specs.contracts.bundle.EventPart as EventPart
use Rattle.ar_bundle.specs.contracts.bundle.Judges as Judges
use Rattle.ar_bundle.specs.contracts.bundle.MetricPart as MetricPart
use Rattle.ar_bundle.specs.contracts.bundle.RunLimits as RunLimits
use Rattle.ar_bundle.specs.contracts.bundle.RunPart as RunPart
use Rattle.ar_bundle.specs.contracts.bundle.What as What
use Rattle.ar_limits.specs.contracts.limits.Limits as Limits
use Rattle.ar_queue.proofs.Sharing.Shapes.{shared_shape_send, shared_shape_sync, text_send, text_sync}
use Rattle.ar_queue.proofs.Sharing.Values.{value_sync}

op_sync : IsSync Op.the_row
op_sync = search (crosses, sendable) depth 200 fits 20000

code_sync : IsSync Code.the_row
code_sync = let op = op_sync in search (crosses, sendable) depth 20

verified_sync : IsSync Verified.the_row
verified_sync = let inside : IsSync VerifiedInside.the_row = declared_sync VerifiedInside.the_type (code_sync, (shared_shape_sync, (search (crosses, sendable), (search (crosses, sendable), tt)))) in search sendable

condition_sync : IsSync Condition.the_row
condition_sync = let inside : IsSync ConditionInside.the_row = declared_sync ConditionInside.the_type (text_sync, (verified_sync, tt)) in search sendable

op_send : IsSend Op.the_row
op_send = search (crosses, sendable) depth 200 fits 20000

code_send : IsSend Code.the_row
code_send = let op = op_send in search (crosses, sendable) depth 20

verified_send : IsSend Verified.the_row
verified_send = let inside : IsSend VerifiedInside.the_row = declared_send VerifiedInside.the_type (code_send, (shared_shape_send, (search (crosses, sendable), (search (crosses, sendable), tt)))) in search sendable

condition_send : IsSend Condition.the_row
condition_send = let inside : IsSend ConditionInside.the_row = declared_send ConditionInside.the_type (text_send, (verified_send, tt)) in search sendable

shared_condition_sync : IsSync SharedCondition.the_row
shared_condition_sync = let inside : IsSync SharedConditionInside.the_row = declared_sync SharedConditionInside.the_type (Arc-sync Condition.the_row condition_send condition_sync, tt) in search sendable

judge_sync : IsSync Judge.the_row
judge_sync = let condition = shared_condition_sync in search (crosses, sendable) depth 20

judges_sync : IsSync Judges.the_row
judges_sync = let judge = judge_sync in search (crosses, sendable) depth 20

limits_sync : IsSync Limits.the_row
limits_sync = search (crosses, sendable) depth 20

run_limits_sync : IsSync RunLimits.the_row
run_limits_sync = let limits = limits_sync in search (crosses, sendable) depth 20

run_sync : IsSync RunPart.the_row
run_sync = declared_sync RunPart.the_type (text_sync, (judges_sync, (run_limits_sync, tt)))

sample_sync : IsSync Sample.the_row
sample_sync = variants_sync Sample.enum (tt, ((search (crosses, sendable) depth 20, tt), ((value_sync, tt), tt)))

what_sync : IsSync What.the_row
what_sync = variants_sync What.enum ((search (crosses, sendable) depth 20, (sample_sync, tt)), (tt, tt))

event_sync : IsSync EventPart.the_row
event_sync = declared_sync EventPart.the_type (search (crosses, sendable) depth 20, (what_sync, tt))

metric_sync : IsSync MetricPart.the_row
metric_sync = declared_sync MetricPart.the_type (text_sync, (shared_shape_sync, tt))

pub bundle_sync : IsSync Bundle.the_row
bundle_sync =
    let metrics = metric_sync in
    let events = event_sync in
    let runs = run_sync in
    search (crosses, sendable) depth 20

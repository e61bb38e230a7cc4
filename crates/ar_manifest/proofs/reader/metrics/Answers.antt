use Rattle.std.proofs.Common.{refl}
use Rattle.std.proofs.lemmas.Result.{err_from_is_err_and}
use Rattle.serde_json.specs.View.{view}
use Rattle.ar_manifest.specs.Template.{metric_of}
use Rattle.ar_manifest.proofs.Steps.{step_end, step_fault, step_more}
use Rattle.ar_manifest.proofs.reader.metrics.Goals as goal

pub returns-in_err-metric : goal.returns-in_err-metric
returns-in_err-metric c =
    let error = err_from_is_err_and c.from_residual.result c.from_residual.ensures.1 in
    let refused = rw c.deref.ensures.value at c.in_err-metric.ensures in
    rw (error.1, error.2)
    (step_fault (λ json. view json) metric_of c.args.list.now c.loop-json.json-index c.loop-json.metrics.items _ c.json-item.result c.in_err-metric.field-0.0 c.loop-json-test.true c.json-item.is refused c.loop-json.invariant)

pub loop-json-preserved : goal.loop-json-preserved
loop-json-preserved c =
    let makes = rw c.deref.ensures.value at c.in_ok-metric.ensures in
    step_more (λ json. view json) metric_of c.args.list.now c.loop-json.json-index c.loop-json.metrics.items _ c.json-item.result c.in_ok-metric.metric c.try_push.new.list.items c.loop-json-test.true c.json-item.is makes c.in_ok-try_push.ensures c.loop-json.invariant

pub returns : goal.returns
returns c = step_end (λ json. view json) metric_of c.args.list.now c.loop-json.json-index c.loop-json.metrics.items _ c.loop-json.metrics.items c.loop-json-test.false refl c.loop-json.invariant

use Rattle.std.proofs.Common.{arith, ◌≡◌, ◌+◌, Ok, Err, length, length-append, refl}
use Rattle.std.proofs.lemmas.Grind.{common_steps}
use Rattle.std.proofs.lemmas.Result.{err_from_is_err_and}
use Rattle.ar_value.specs.Answer.{Unless}
use Rattle.ar_manifest.specs.Refusals.{is_memory}
use Rattle.ar_manifest.specs.Bound.{IsPlain}
use Rattle.ar_manifest.specs.Private.Within.{next_kept}
use Rattle.ar_manifest.proofs.First.{at_first, bound_first, none_first, refused_item}
use Rattle.ar_manifest.proofs.Steps.{step_end, step_fault, step_more}
use Rattle.ar_manifest.proofs.binder.metrics.Goals as goal

pub returns-in_err-bound-clause-exact : goal.returns-in_err-bound-clause-exact
returns-in_err-bound-clause-exact c =
    let error = err_from_is_err_and c.from_residual.result c.from_residual.ensures.1 in
    let number : c.len.result ≡ length c.loop-metric.metrics.items = omega arith in
    let refused : Unless (is_memory c.in_err-bound.field-0.0) (next_kept c.args.arguments.now c.args.own.now c.args.shortens c.loop-metric.metrics.items c.metric-item.result ≡ Err c.in_err-bound.field-0.0) =
    rw (← number) c.in_err-bound.ensures.exact
    in
    rw (error.1, error.2)
    (step_fault (λ metric. metric) (next_kept c.args.arguments.now c.args.own.now c.args.shortens) c.args.list.now c.loop-metric.metric-index c.loop-metric.metrics.items _ c.metric-item.result c.in_err-bound.field-0.0 c.loop-metric-test.true c.metric-item.is refused c.loop-metric.invariant.so_far)

pub returns-in_err-bound-clause-first : goal.returns-in_err-bound-clause-first
returns-in_err-bound-clause-first c = λ first rest is_list plain refusal refused.
    let error = err_from_is_err_and c.from_residual.result c.from_residual.ensures.1 in
    let number : c.len.result ≡ c.loop-metric.metric-index = omega (arith, c.loop-metric.invariant.count) in
    let is_first : c.metric-item.result ≡ first =
    at_first c.args.arguments.now c.args.own.now c.args.list.now c.loop-metric.metric-index c.loop-metric.invariant.stays c.metric-item.result c.len.result number c.metric-item.is first rest is_list refusal refused
    in
    let at_zero = c.loop-metric.invariant.stays first rest is_list refusal refused in
    let zeroth : c.len.result ≡ 0 = omega (arith, number, at_zero) in
    let plain_item : IsPlain c.args.arguments.now c.args.own.now c.len.result c.metric-item.result = rw (is_first, zeroth) plain in
    let refused_here =
    refused_item c.args.arguments.now c.args.own.now c.args.list.now c.loop-metric.metric-index c.loop-metric.invariant.stays c.metric-item.result c.len.result number c.metric-item.is first rest is_list refusal refused
    in
    let answered = c.in_err-bound.ensures.plain plain_item refusal refused_here in
    let same : c.in_err-bound.field-0.0 ≡ refusal = cc in
    rw (error.1, error.2, same) refl

pub loop-metric-preserved : goal.loop-metric-preserved
loop-metric-preserved c =
    let number : c.len.result ≡ length c.loop-metric.metrics.items = omega arith in
    let index : c.len.result ≡ c.loop-metric.metric-index = omega (arith, c.loop-metric.invariant.count) in
    let makes : next_kept c.args.arguments.now c.args.own.now c.args.shortens c.loop-metric.metrics.items c.metric-item.result ≡ Ok c.in_ok-bound.bound = rw (← number) c.in_ok-bound.ensures.exact in
    let grown : length c.try_push.new.list.items ≡ length c.loop-metric.metrics.items + 1 = rw c.in_ok-try_push.ensures (length-append _ _) in
    record {
      so_far = step_more (λ metric. metric) (next_kept c.args.arguments.now c.args.own.now c.args.shortens) c.args.list.now c.loop-metric.metric-index c.loop-metric.metrics.items _ c.metric-item.result c.in_ok-bound.bound c.try_push.new.list.items c.loop-metric-test.true c.metric-item.is makes c.in_ok-try_push.ensures c.loop-metric.invariant.so_far;
      count = omega (arith, grown, c.loop-metric.invariant.count);
      stays = λ first rest is_list refusal refused. absurd
          (bound_first c.args.arguments.now c.args.own.now c.args.list.now c.loop-metric.metric-index c.loop-metric.invariant.stays c.args.shortens c.metric-item.result c.len.result c.in_ok-bound.bound index c.metric-item.is c.in_ok-bound.ensures.exact first rest is_list refusal refused);
    }

pub returns-clause-exact : goal.returns-clause-exact
returns-clause-exact c = step_end (λ metric. metric) (next_kept c.args.arguments.now c.args.own.now c.args.shortens) c.args.list.now c.loop-metric.metric-index c.loop-metric.metrics.items _ c.from.result (omega arith) c.from.ensures c.loop-metric.invariant.so_far

pub returns-clause-first : goal.returns-clause-first
returns-clause-first c = λ first rest is_list plain refusal refused.
    absurd (none_first c.args.arguments.now c.args.own.now c.args.list.now c.loop-metric.metric-index c.loop-metric.invariant.stays c.loop-metric-test.false first rest is_list refusal refused)

pub loop-metric-init : goal.loop-metric-init
loop-metric-init c = grind (arith, common_steps)

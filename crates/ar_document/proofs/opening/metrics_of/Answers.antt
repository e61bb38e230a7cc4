use Rattle.std.proofs.Common.{◌≡◌, ◌+◌, ◌∙◌, ap, length, length-append, map, List, [], arith}
use Rattle.std.specs.Prelude.{option_map}
use Rattle.std.proofs.lemmas.List.{length-map, map-id}
use Rattle.std.proofs.lemmas.Result.{err_from_is_err_and}
use Rattle.serde_json.specs.View.{view}
use Rattle.ar_manifest.specs.declared.template.Metric.{Metric}
use Rattle.ar_value.specs.Answer.{each_after}
use Rattle.ar_document.specs.Opening.{metric_view, with_shape}
use Rattle.ar_document.proofs.Steps.{step_end, step_fault, step_more}
use Rattle.ar_document.proofs.opening.metrics_of.Goals as goal

pub returns-in_err-part-clause-exact : goal.returns-in_err-part-clause-exact
returns-in_err-part-clause-exact c =
    let error = err_from_is_err_and c.from_residual-in_err-part.result c.from_residual-in_err-part.ensures.1 in
    let step = with_shape (option_map (λ json. view json.now) c.args.shapes) in
    let refused = c.in_err-part.ensures (map metric_view c.loop-number.parts.items) (length-map c.loop-number.parts.items metric_view ∙ c.loop-number.invariant.each) in
    let all = ap (λ (metrics : List Metric). each_after step [] metrics) (map-id c.args.metrics.now) in
    rw (error.1, error.2)
    (step_fault (λ (metric : Metric). metric) metric_view step c.args.metrics.now c.loop-number.number c.loop-number.parts.items _ c.index-metrics-number.result c.in_err-part.field-0.0 c.loop-number-test.true c.index-metrics-number.is refused (c.loop-number.invariant.made ∙ all))

pub loop-number-preserved : goal.loop-number-preserved
loop-number-preserved c =
    let step = with_shape (option_map (λ json. view json.now) c.args.shapes) in
    let makes = c.in_ok-part.ensures (map metric_view c.loop-number.parts.items) (length-map c.loop-number.parts.items metric_view ∙ c.loop-number.invariant.each) in
    let grown : length c.try_push.new.list.items ≡ length c.loop-number.parts.items + 1 = rw c.in_ok-try_push.ensures (length-append _ _) in
    record {
      made = step_more (λ (metric : Metric). metric) metric_view step c.args.metrics.now c.loop-number.number c.loop-number.parts.items _ c.index-metrics-number.result c.in_ok-part.part c.try_push.new.list.items c.loop-number-test.true c.index-metrics-number.is makes c.in_ok-try_push.ensures c.loop-number.invariant.made;
      each = omega (arith, grown, c.loop-number.invariant.each);
    }

pub returns-clause-exact : goal.returns-clause-exact
returns-clause-exact c =
    let step = with_shape (option_map (λ json. view json.now) c.args.shapes) in
    let all = ap (λ (metrics : List Metric). each_after step [] metrics) (map-id c.args.metrics.now) in
    step_end (λ (metric : Metric). metric) metric_view step c.args.metrics.now c.loop-number.number c.loop-number.parts.items _ c.loop-number-test.false (c.loop-number.invariant.made ∙ all)

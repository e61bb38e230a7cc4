use Rattle.std.proofs.Common.{arith, ◌∷◌, [], map, take, ap, sym, ◌∙◌}
use Rattle.std.proofs.lemmas.Grind.{common_steps}
use Rattle.std.proofs.lemmas.List.{map-append}
use Rattle.ar_bundle.specs.declared.bundle.MetricPart.{MetricPart}
use Rattle.ar_document.proofs.Growing.{taken_next}
use Rattle.ar_document.proofs.opening.measurers_of.Goals as goal

pub loop-metric-preserved : goal.loop-metric-preserved
loop-metric-preserved c =
    let metrics = c.args.metrics.now in
    let taken = ap (map (λ (metric : MetricPart). metric.shape)) (taken_next metrics c.loop-metric.metric-index c.metric-item.result c.loop-metric-test.true c.metric-item.is) ∙ map-append (λ (metric : MetricPart). metric.shape) (take c.loop-metric.metric-index metrics) (c.metric-item.result ∷ []) in
    c.in_ok-try_push.ensures ∙ rw (c.loop-metric.invariant, c.in_ok-measurer.ensures, c.in_ok-shape.ensures) (sym taken)

pub returns : goal.returns
returns c = grind (arith, common_steps)

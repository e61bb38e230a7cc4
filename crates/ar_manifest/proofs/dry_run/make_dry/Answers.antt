use Rattle.std.proofs.Common.{◌≡◌, map, get_or, ap, ◌∙◌}
use Rattle.std.specs.List.{list_any}
use Rattle.std.proofs.lemmas.List.Edits.{map_over_more}
use Rattle.ar_manifest.specs.DryRun.{names_metric, with_dry}
use Rattle.ar_manifest.proofs.DryRun.{list_any-of_map}
use Rattle.ar_manifest.proofs.dry_run.make_dry.Goals as goal

pub loop-metric-preserved : goal.loop-metric-preserved
loop-metric-preserved c =
    let names = map (λ name. name.now) c.args.names.now in
    let metric = get_or c.loop-metric.metrics c.loop-metric.metric-index c.metric-item.result in
    let named : c.is_dry-metric.result ≡ list_any (λ name. names_metric name.now metric) c.args.names.now = c.is_dry-metric.ensures in
    rw (named ∙ list_any-of_map (λ name. name.now) (λ name. names_metric name metric) c.args.names.now)
    (map_over_more (with_dry names) c.args.metrics.now c.loop-metric.metrics c.loop-metric.metric-index metric c.loop-metric-test.true c.loop-metric.invariant
    (ap (get_or c.loop-metric.metrics c.loop-metric.metric-index) c.metric-item.is))

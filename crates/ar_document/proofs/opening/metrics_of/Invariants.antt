use Rattle.std.proofs.Common.{◌≡◌, [], drop, map, length}
use Rattle.serde_json.specs.View.{view}
use Rattle.std.specs.Prelude.{option_map}
use Rattle.ar_value.specs.Answer.{each_after}
use Rattle.ar_document.specs.Opening.{metric_view, with_shape}
use Rattle.ar_manifest.specs.declared.template.Metric.{Metric}
use Rattle.ar_document.proofs.opening.metrics_of.Given as goal

-- the metrics so far, with those that are left after them, are all metrics
abbrev pub invariant-loop-number : goal.invariant-loop-number
invariant-loop-number l = record {
  made : each_after (with_shape (option_map (λ json. view json.now) l.shapes)) (map metric_view l.parts.items) (map (λ (metric : Metric). metric) (drop l.number l.metrics))
      ≡ each_after (with_shape (option_map (λ json. view json.now) l.shapes)) [] (map (λ (metric : Metric). metric) l.metrics);
  each : length l.parts.items ≡ l.number;
}

-- What was opened of a document, as the code keeps it.
use Rattle.std.specs.Prelude.{◌≡◌, ◌≤◌, ℕ, List, length, map}
use Rattle.ar_value.specs.Limits.{most_metrics, most_runs}
use Rattle.ar_manifest.specs.declared.template.Template.{Template}
use Rattle.ar_bundle.specs.declared.bundle.MetricPart.{MetricPart}
use Rattle.ar_document.specs.Opening.{Metric, Opened as Parts, metric_view, names_of, opened_as}
use Rattle.ar_document.specs.Private.Naming.{AreNumbers}
use Rattle.ar_document.specs.declared.opening.Opened.{Opened}
use Rattle.ar_document.specs.declared.runs.Run.{Run}

-- a template with its metrics and runs
abbrev pub opened_with : Template → List MetricPart → List Run → Parts
opened_with template metrics runs = opened_as template (map metric_view metrics) runs

abbrev pub opened_view : Opened → Parts
opened_view opened = opened_with opened.template opened.metrics.items opened.runs.items

abbrev pub metric_names : List Metric → List (List ℕ)
metric_names metrics = map (λ metric. metric.name) metrics

-- there are few metrics, one for each of the template's, each with its measurer, and few runs; their numbers are kept
-- by their names
pub record IsOpened (opened : Opened) : Type 0 where
  pub each : length opened.metrics.items ≡ length opened.template.metrics
  pub few_metrics : length opened.metrics.items ≤ most_metrics
  pub measurers : opened.measurers.items ≡ map (λ metric. metric.shape) opened.metrics.items
  pub few_runs : length opened.runs.items ≤ most_runs
  pub run_numbers : AreNumbers (names_of opened.runs.items) opened.run_numbers
  pub metric_numbers : AreNumbers (metric_names (map metric_view opened.metrics.items)) opened.metric_numbers

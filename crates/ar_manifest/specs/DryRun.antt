-- Which metrics `spec.dryRun` names: they are judged and counted, and decide nothing.
--
-- Argo Rollouts takes a regular expression for a name (documentation, page "Analysis & Progressive Delivery"). Here a
-- name is that of one metric, or `.*` for all.
use Rattle.std.specs.Prelude.{Bool, ◌||◌, List, [], length, map, codes, Option, Some, None, option_and_then, Result, Ok}
use Rattle.std.specs.List.{list_any}
use Rattle.std.specs.Str.{bytes_eq}
use Rattle.ar_value.specs.Terms.{Text}
use Rattle.serde_json.specs.Data.{Data}
use Rattle.ar_value.specs.Answer.{◌>>=◌, there_or, holds_or, each_after}
use Rattle.ar_json.specs.Members.{list_of, text_member, unless_empty}
use Rattle.ar_manifest.specs.declared.error.ManifestError.{ManifestError}
use Rattle.ar_manifest.specs.declared.error.ManifestError.TheVariants.{BadDryRun, UnknownDryRun}
use Rattle.ar_manifest.specs.declared.template.Metric.{Metric}

-- whether a name is the metric's, or means all
abbrev pub names_metric : Text → Metric → Bool
names_metric name metric = bytes_eq name (codes ".*") || bytes_eq name metric.name

-- an item has a text as `metricName` that isn't empty, and it names one of the metrics
unfoldable pub dry_name : List Metric → List Text → Data → Result Text ManifestError
dry_name metrics earlier d = do
  name ← there_or (BadDryRun (length earlier)) (option_and_then unless_empty (text_member (codes "metricName") d))
  known ← holds_or (UnknownDryRun (length earlier)) (list_any (names_metric name) metrics)
  Ok name

-- the names are a list, if they are there
abbrev pub dry_names : List Metric → Option Data → Result (List Text) ManifestError
dry_names metrics None = Ok []
dry_names metrics (Some d) = there_or (BadDryRun 0) (list_of d) >>= each_after (dry_name metrics) []

-- the metric, dry where one of the names is its own or means all
abbrev pub with_dry : List Text → Metric → Metric
with_dry names metric = record metric { dry = list_any (λ name. names_metric name metric) names }

-- the metrics, dry where they are named
abbrev pub with_dry_run : Option Data → List Metric → Result (List Metric) ManifestError
with_dry_run found metrics = dry_names metrics found >>= λ names. Ok (map (with_dry names) metrics)

-- Parts of templates, as they are read.
use Rattle.std.specs.Prelude.{ℕ, List, [], Option, Result, Ok, codes}
use Rattle.serde_json.specs.Data.{Data}
use Rattle.ar_value.specs.Answer.{◌>>=◌, each_after}
use Rattle.ar_json.specs.Members.{member, member_of_member}
use Rattle.ar_manifest.specs.DryRun.{with_dry_run}
use Rattle.ar_manifest.specs.Private.Early.{counted_of}
use Rattle.ar_manifest.specs.Template.{limit_or, metric_of}
use Rattle.ar_manifest.specs.declared.error.ManifestError.{ManifestError}
use Rattle.ar_manifest.specs.declared.template.Limit.{Limit}
use Rattle.ar_manifest.specs.declared.template.Metric.{Metric}

-- two limits of a metric, by their names
abbrev pub two_limits : ManifestError → (first second : List ℕ) → Data
    → Result (Option Limit × Option Limit) ManifestError
two_limits refusal first second d = do
  one ← limit_or refusal (member first d)
  other ← limit_or refusal (member second d)
  Ok (one, other)

-- the metrics of a template, dry where they are named
abbrev pub marked_metrics : Data → Result (List Metric) ManifestError
marked_metrics d = do
  items ← counted_of d
  metrics ← each_after metric_of [] items
  with_dry_run (member_of_member (codes "spec") (codes "dryRun") d) metrics

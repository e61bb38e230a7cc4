-- What a JSON document is as an AnalysisTemplate or a ClusterAnalysisTemplate of Argo Rollouts, or its first fault.
use Rattle.std.specs.Prelude.{◌≡◌, ℕ, nat_lt, Bool, true, false, not, ◌||◌, List, [], ◌∷◌, length, codes, Option, Some, None, is_some, is_none, option_and_then, Result, Ok, Err, if◌then◌else◌}
use Rattle.std.specs.List.{list_any}
use Rattle.std.specs.Str.{bytes_eq}
use Rattle.ar_value.specs.Terms.{Text}
use Rattle.serde_json.specs.Data.{Data, number, string}
use Rattle.serde_json.specs.Find.{as_str, as_u64}
use Rattle.ar_value.specs.Answer.{◌>>=◌, there_or, holds_or, each_after}
use Rattle.ar_value.specs.Limits.{most_metrics}
use Rattle.ar_manifest.specs.Arguments.{value_of}
use Rattle.ar_manifest.specs.DryRun.{with_dry_run}
use Rattle.ar_json.specs.Members.{list_of, member, member_of_member, text_member, text_or, unless_empty}
use Rattle.ar_manifest.specs.declared.error.ManifestError.{ManifestError}
use Rattle.ar_manifest.specs.declared.error.ManifestError.TheVariants.{WrongVersion, WrongKind, NameMissing, BadArgs, NoMetrics, TooManyMetrics, MetricNameMissing, DoubleMetric, BadField, Unsupported}
use Rattle.ar_manifest.specs.declared.template.Limit.{Limit}
use Rattle.ar_manifest.specs.declared.template.Limit.TheVariants as limits
use Rattle.ar_manifest.specs.declared.template.MetricLimits.{MetricLimits}
use Rattle.ar_manifest.specs.declared.template.Metric.{Metric}
use Rattle.ar_manifest.specs.declared.template.Template.{Template}

-- a template's arguments: names, each with its value if it has one
abbrev pub TemplateArguments : Type 0
TemplateArguments = List (Text × Option Text)

-- an argument has a text as name, which no earlier one has, and perhaps a text as value
unfoldable pub argument_of : TemplateArguments → Data → Result (Text × Option Text) ManifestError
argument_of earlier d = do
  name ← there_or (BadArgs (length earlier)) (text_member (codes "name") d)
  new ← holds_or (BadArgs (length earlier)) (is_none (value_of name earlier))
  value ← text_or (BadArgs (length earlier)) (member (codes "value") d)
  Ok (name, value)

-- the arguments are a list, if they are there
abbrev pub arguments_of : Option Data → Result TemplateArguments ManifestError
arguments_of None = Ok []
arguments_of (Some d) = there_or (BadArgs 0) (list_of d) >>= each_after argument_of []

-- a number as a limit: whether it is in range is checked when the template is bound
abbrev pub number_limit : Option ℕ → Limit
number_limit (Some n) = limits.Whole n
number_limit None = limits.OtherNumber

-- a limit that may be missing is a number or a text; any other value is refused
abbrev pub limit_or : ManifestError → Option Data → Result (Option Limit) ManifestError
limit_or refusal None = Ok None
limit_or refusal (Some (number n)) = Ok (Some (number_limit (as_u64 n)))
limit_or refusal (Some (string text)) = Ok (Some (limits.Text text))
limit_or refusal (Some d) = Err refusal

-- the limits of metric i
unfoldable pub metric_limits : ℕ → Data → Result MetricLimits ManifestError
metric_limits i d = do
  count ← limit_or (BadField i) (member (codes "count") d)
  failure ← limit_or (BadField i) (member (codes "failureLimit") d)
  inconclusive ← limit_or (BadField i) (member (codes "inconclusiveLimit") d)
  consecutive_error ← limit_or (BadField i) (member (codes "consecutiveErrorLimit") d)
  Ok (record { count = count; failure = failure; inconclusive = inconclusive; consecutive_error = consecutive_error })

-- whether there is a text that isn't empty; any value that is no text is refused
abbrev pub has_text_or : ManifestError → Option Data → Result Bool ManifestError
has_text_or refusal found = text_or refusal found >>= λ text. Ok (is_some (option_and_then unless_empty text))

-- metric i of this name, which isn't dry until `dryRun` is read
unfoldable pub named_metric : ℕ → Text → Data → Result Metric ManifestError
named_metric i name d = do
  success ← text_or (BadField i) (member (codes "successCondition") d)
  failure ← text_or (BadField i) (member (codes "failureCondition") d)
  has_interval ← has_text_or (BadField i) (member (codes "interval") d)
  limits ← metric_limits i d
  Ok (record {
    name = name;
    success_condition = success;
    failure_condition = failure;
    has_interval = has_interval;
    dry = false;
    limits = limits;
  })

-- whether a metric has the name
abbrev pub is_named : Text → Metric → Bool
is_named name metric = bytes_eq metric.name name

-- a metric has a text as name, which no earlier one has
abbrev pub new_name : List Metric → Data → Result Text ManifestError
new_name earlier d = do
  name ← there_or (MetricNameMissing (length earlier)) (text_member (codes "name") d)
  new ← holds_or (DoubleMetric (length earlier)) (not (list_any (is_named name) earlier))
  Ok name

-- a metric has a name of its own, and no `consecutiveSuccessLimit`
unfoldable pub metric_of : List Metric → Data → Result Metric ManifestError
metric_of earlier d = do
  name ← new_name earlier d
  metric ← named_metric (length earlier) name d
  supported ← holds_or (Unsupported (length earlier)) (is_none (member (codes "consecutiveSuccessLimit") d))
  Ok metric

-- there are 1 to 64 metrics
abbrev pub metrics_counted : List Data → Result (List Data) ManifestError
metrics_counted [] = Err NoMetrics
metrics_counted (d ∷ ds) = if nat_lt most_metrics (length (d ∷ ds)) then Err TooManyMetrics else Ok (d ∷ ds)

abbrev pub counted_metrics : Option Data → Result (List Data) ManifestError
counted_metrics found = there_or NoMetrics (option_and_then list_of found) >>= metrics_counted

abbrev pub is_some_empty : Option (List Data) → Bool
is_some_empty None = false
is_some_empty (Some []) = true
is_some_empty (Some (d ∷ ds)) = false

-- nothing, or an empty list
abbrev pub lists_nothing : Option Data → Bool
lists_nothing None = true
lists_nothing (Some d) = is_some_empty (list_of d)

-- whether there is such a text
abbrev pub is_text : Text → Option Text → Bool
is_text wanted None = false
is_text wanted (Some text) = bytes_eq text wanted

-- a template is one of a namespace or of a cluster
abbrev pub is_kind : Option Text → Bool
is_kind kind = is_text (codes "AnalysisTemplate") kind || is_text (codes "ClusterAnalysisTemplate") kind

-- a template's name is a text that isn't empty
abbrev pub template_name : Data → Option Text
template_name d =
    option_and_then unless_empty (option_and_then as_str (member_of_member (codes "metadata") (codes "name") d))

-- a template's name, after its version and kind
abbrev pub head_of : Data → Result Text ManifestError
head_of d = do
  version ← holds_or WrongVersion (is_text (codes "argoproj.io/v1alpha1") (text_member (codes "apiVersion") d))
  kind ← holds_or WrongKind (is_kind (text_member (codes "kind") d))
  there_or NameMissing (template_name d)

-- A template's version, kind and name are checked first, then its arguments, its metrics, and `dryRun`.
unfoldable pub template_of : Data → Result Template ManifestError
template_of d = do
  name ← head_of d
  arguments ← arguments_of (member_of_member (codes "spec") (codes "args") d)
  items ← counted_metrics (member_of_member (codes "spec") (codes "metrics") d)
  metrics ← each_after metric_of [] items
  marked ← with_dry_run (member_of_member (codes "spec") (codes "dryRun") d) metrics
  Ok (record { name = name; arguments = arguments; metrics = marked })

-- a document without arguments: its `spec.args` is missing or an empty list
abbrev pub HasNoArguments : Data → Type 0
HasNoArguments d = lists_nothing (member_of_member (codes "spec") (codes "args") d) ≡ true

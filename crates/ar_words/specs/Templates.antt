-- Refusals of templates, and of their binding to the arguments of a run.
use Rattle.std.specs.Prelude.{ℕ, Bool, ◌||◌, if◌then◌else◌, List, [], ◌++◌, codes, decimal, Option, Some, None, option_and_then, option_map, unwrap_or}
use Rattle.std.specs.Str.{bytes_eq}
use Rattle.serde_json.specs.Data.{Data}
use Rattle.serde_json.specs.Find.{get}
use Rattle.ar_value.specs.Terms.{Text}
use Rattle.ar_diagnostic.specs.Diagnostic.{expecting, plain_diagnostic}
use Rattle.ar_diagnostic.specs.declared.diagnostic.Diagnostic.{Diagnostic}
use Rattle.ar_diagnostic.specs.declared.place.Item.{Item}
use Rattle.ar_diagnostic.specs.declared.place.Member.TheVariants as members
use Rattle.ar_diagnostic.specs.declared.place.MetricField.{MetricField}
use Rattle.ar_diagnostic.specs.declared.place.MetricField.TheVariants as fields
use Rattle.ar_diagnostic.specs.declared.place.Place.{Place}
use Rattle.ar_diagnostic.specs.declared.place.Place.TheVariants as places
use Rattle.ar_diagnostic.specs.declared.place.SpecPart.TheVariants as spec
use Rattle.ar_diagnostic.specs.declared.place.TemplateField.{TemplateField}
use Rattle.ar_diagnostic.specs.declared.place.TemplateField.TheVariants as template
use Rattle.ar_diagnostic.specs.declared.place.Within.TheVariants as within
use Rattle.ar_json.specs.Members.{text_member}
use Rattle.ar_manifest.specs.Found.{field_name}
use Rattle.ar_manifest.specs.Refusals.{manifest_error_name}
use Rattle.ar_manifest.specs.declared.error.ManifestError.{ManifestError}
use Rattle.ar_manifest.specs.declared.error.ManifestError.TheVariants as errors
use Rattle.ar_manifest.specs.declared.found.LimitField.{LimitField}
use Rattle.ar_manifest.specs.declared.found.LimitField.TheVariants as limits
use Rattle.ar_manifest.specs.declared.found.LimitValue.{LimitValue}
use Rattle.ar_manifest.specs.declared.found.LimitValue.TheVariants as values
use Rattle.ar_manifest.specs.declared.found.RefusedLimit.{RefusedLimit}
use Rattle.ar_quote.specs.Shown.{quoted}
use Rattle.ar_words.specs.Bindings.{limit_in, unbound_of_run}
use Rattle.ar_words.specs.Fields.{FieldMisfit, metric_misfit}
use Rattle.ar_words.specs.Items.{named_item, metric_item, run_item}
use Rattle.ar_words.specs.Lists.{list_in, list_item, metrics, template_list, text_at}
use Rattle.ar_words.specs.Names.{nothing_named, those_there}

-- ---- the head of a template

abbrev pub is_list_kind : (kind : Text) → Bool
is_list_kind kind =
    bytes_eq kind (codes "List") || bytes_eq kind (codes "AnalysisTemplateList")
    || bytes_eq kind (codes "ClusterAnalysisTemplateList")

abbrev pub kind_of_list : (kind : Option Text) → Option Text
kind_of_list None = None
kind_of_list (Some kind) = if is_list_kind kind then Some kind else None

-- the kind of what has `items`, if it is one of lists
abbrev pub list_kind : Data → Option Text
list_kind d = option_and_then (λ items. kind_of_list (text_member (codes "kind") d)) (list_in (codes "items") d)

-- what is in place of a template, or is the whole document, may be a list of templates
abbrev pub given_kind : Data → Option Text
given_kind document = list_kind (unwrap_or (get (codes "manifest") document) document)

-- for a template that is the whole document
abbrev pub manifest_hint : (manifest : Option Data) → Option Text
manifest_hint None = Some (codes "the document has no member `manifest`, which takes the template")
manifest_hint (Some manifest) = None

-- a list of templates is in place of a template
abbrev pub list_diagnostic : (name kind : Text) → Diagnostic
list_diagnostic name kind =
    record (plain_diagnostic (places.Member members.Manifest) name) {
      found = Some (quoted kind ++ codes " is a list of templates");
      hint = Some (codes "`manifest` takes one of its `items`");
    }

-- the version or the kind is another one, as that of a list of templates is
abbrev pub head_diagnostic : Data → TemplateField → (name expected : Text) → (kind : Option Text) → Diagnostic
head_diagnostic document field name expected (Some kind) = list_diagnostic name kind
head_diagnostic document field name expected None =
    record (expecting (places.Template field) name expected) {
      hint = manifest_hint (get (codes "manifest") document);
    }

-- ---- the template

-- an argument, if there is one of the number, or all of them
abbrev pub argument_place : Item → (argument : Option Data) → Place
argument_place item None = places.Spec spec.Args
argument_place item (Some argument) = places.Argument item

abbrev pub arguments_diagnostic : (number : ℕ) → Option (List Data) → Diagnostic
arguments_diagnostic number arguments =
    expecting (argument_place (named_item number arguments) (list_item number arguments)) (codes "BadArgs")
    (codes "a list, and of argument "
    ++ (decimal number ++ codes " a text `name` of its own and no `value` but a text"))

-- a metric of a template, or a field of it
abbrev pub metric_place : Data → (metric : ℕ) → Option MetricField → Place
metric_place document metric field = places.Metric (within.Manifest field) (metric_item document metric)

-- where the field is known, what it holds is said
abbrev pub field_diagnostic : Data → (metric : ℕ) → Option FieldMisfit → Diagnostic
field_diagnostic document metric None =
    expecting (metric_place document metric None) (codes "BadField")
    (codes "texts for conditions and `interval`, numbers or texts for limits")
field_diagnostic document metric (Some misfit) =
    record (expecting (metric_place document metric (Some misfit.field)) (codes "BadField") misfit.expected) {
      found = Some misfit.found;
    }

-- an item of `dryRun`, if there is one of the number, or all of them
abbrev pub unnamed_place : (number : ℕ) → (item : Option Data) → Place
unnamed_place number None = places.Spec spec.DryRun
unnamed_place number (Some item) = places.UnnamedDryRun number

abbrev pub unnamed_dry_run : (number : ℕ) → Option (List Data) → Diagnostic
unnamed_dry_run number items =
    expecting (unnamed_place number (list_item number items)) (codes "BadDryRun")
    (codes "a list, and of item " ++ (decimal number ++ codes " a text `metricName` that isn't empty"))

-- no metric has the name, and those that there are
abbrev pub dry_run_hint : (name : Option Text) → Option (List Data) → Option Text
dry_run_hint (Some name) (Some found) =
    Some (nothing_named (codes "metric") name ++ (codes "; " ++ those_there (codes "metrics") found))
dry_run_hint name found = None

abbrev pub dry_run_diagnostic : Data → (number : ℕ) → Diagnostic
dry_run_diagnostic document number =
    record (expecting (places.DryRunName number) (codes "UnknownDryRun")
    (codes "a metric's whole name, or `.*` alone")) {
      hint = dry_run_hint (text_at (codes "metricName") number (template_list (codes "dryRun") document))
          (metrics document);
    }

-- something else is expected of a field of a metric
abbrev pub expecting_field : Data → (metric : ℕ) → MetricField → (name expected : Text) → Diagnostic
expecting_field document metric field name expected =
    expecting (metric_place document metric (Some field)) name expected

unfoldable pub metric_diagnostic : Data → ManifestError → Diagnostic
metric_diagnostic document (errors.MetricNameMissing metric) =
    expecting_field document metric fields.Name (codes "MetricNameMissing") (codes "a text `name`")
metric_diagnostic document (errors.DoubleMetric metric) =
    expecting_field document metric fields.Name (codes "DoubleMetric") (codes "a name that no earlier metric has")
metric_diagnostic document (errors.BadField metric) =
    field_diagnostic document metric (option_and_then metric_misfit (list_item metric (metrics document)))
metric_diagnostic document (errors.Unsupported metric) =
    expecting_field document metric fields.ConsecutiveSuccessLimit (codes "Unsupported")
    (codes "no `consecutiveSuccessLimit`")
metric_diagnostic document error = plain_diagnostic (places.Member members.Manifest) (manifest_error_name error)

unfoldable pub template_diagnostic : Data → ManifestError → Diagnostic
template_diagnostic document errors.WrongVersion =
    head_diagnostic document template.Version (codes "WrongVersion") (codes "`apiVersion` \"argoproj.io/v1alpha1\"")
    (given_kind document)
template_diagnostic document errors.WrongKind =
    head_diagnostic document template.Kind (codes "WrongKind")
    (codes "`kind` \"AnalysisTemplate\" or \"ClusterAnalysisTemplate\"") (given_kind document)
template_diagnostic document errors.NameMissing =
    expecting (places.Template template.Name) (codes "NameMissing") (codes "a text `metadata.name` that isn't empty")
template_diagnostic document (errors.BadArgs number) =
    arguments_diagnostic number (template_list (codes "args") document)
template_diagnostic document errors.NoMetrics =
    expecting (places.Template template.Metrics) (codes "NoMetrics")
    (codes "a list `spec.metrics` of at least one metric")
template_diagnostic document errors.TooManyMetrics =
    expecting (places.Template template.Metrics) (codes "TooManyMetrics") (codes "at most 64 metrics")
template_diagnostic document (errors.BadDryRun number) =
    unnamed_dry_run number (template_list (codes "dryRun") document)
template_diagnostic document (errors.UnknownDryRun number) = dry_run_diagnostic document number
template_diagnostic document error = metric_diagnostic document error

-- ---- its binding

-- a metric, or a field of it, with the arguments of a run
abbrev pub bound_place : Data → (run metric : ℕ) → Option MetricField → Place
bound_place document run metric field =
    places.BoundMetric (run_item document run) (metric_item document metric) field

-- words about the first reference in a metric's texts that has no value
abbrev pub reference_said : Data → (run metric : ℕ) → (words : Text) → Option Text
reference_said document run metric words =
    option_map (λ reference. quoted reference ++ words) (unbound_of_run document run metric)

abbrev pub value_said : LimitValue → Text
value_said (values.Whole n) = decimal n
value_said values.OtherNumber = codes "a number not of digits alone, or too large"
value_said (values.Text text) = quoted text
value_said values.LongText = codes "a text of more than 256 bytes"

abbrev pub limit_said : RefusedLimit → Text
limit_said limit = codes "`" ++ (field_name limit.field ++ (codes "` is " ++ value_said limit.value))

abbrev pub field_of_limit : LimitField → MetricField
field_of_limit limits.Count = fields.Count
field_of_limit limits.Failure = fields.FailureLimit
field_of_limit limits.Inconclusive = fields.InconclusiveLimit
field_of_limit limits.ConsecutiveError = fields.ConsecutiveErrorLimit

abbrev pub limit_field : RefusedLimit → MetricField
limit_field limit = field_of_limit limit.field

-- where the refused limit is known, its value is said
abbrev pub limit_diagnostic : Data → (run metric : ℕ) → Option RefusedLimit → Diagnostic
limit_diagnostic document run metric limit =
    record (expecting (bound_place document run metric (option_map limit_field limit)) (codes "BadLimit")
    (codes "0 to 1000000000 in one to ten digits")) {
      found = option_map limit_said limit;
    }

abbrev pub arguments_there : Data → Text
arguments_there document = those_there (codes "arguments") (unwrap_or (template_list (codes "args") document) [])

-- a text of a metric names no argument of the template
abbrev pub unknown_argument : Data → (run metric : ℕ) → Diagnostic
unknown_argument document run metric =
    record (expecting (bound_place document run metric None) (codes "UnknownArg")
    (codes "args.NAME with a name of `spec.args`")) {
      found = reference_said document run metric (codes " in braces");
      hint = Some (arguments_there document);
    }

-- a text of a metric names an argument that has no value
abbrev pub unvalued_argument : Data → (run metric : ℕ) → Diagnostic
unvalued_argument document run metric =
    record (expecting (bound_place document run metric None) (codes "NoValue")
    (codes "one from the run or the template")) {
      found = reference_said document run metric (codes " in braces has no value");
    }

unfoldable pub binding_diagnostic : Data → (run : ℕ) → ManifestError → Diagnostic
binding_diagnostic document run (errors.OpenBraces metric) =
    expecting (bound_place document run metric None) (codes "OpenBraces") (codes "}} after {{")
binding_diagnostic document run (errors.UnknownArg metric) = unknown_argument document run metric
binding_diagnostic document run (errors.NoValue metric) = unvalued_argument document run metric
binding_diagnostic document run (errors.BadLimit metric) =
    limit_diagnostic document run metric (limit_in document run metric)
binding_diagnostic document run (errors.IntervalMissing metric) =
    expecting (bound_place document run metric (Some fields.Interval)) (codes "IntervalMissing")
    (codes "an `interval` with a `count` above 1")
binding_diagnostic document run error = template_diagnostic document error

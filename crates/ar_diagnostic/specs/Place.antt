-- Where something is, as a line says it, and as a JSON Pointer (RFC 6901) into the document.
use Rattle.std.specs.Prelude.{ℕ, ◌==◌, if◌then◌else◌, List, [], ◌++◌, codes, decimal, flat_map, Option, Some, None}
use Rattle.std.specs.Char.{encode_utf8}
use Rattle.std.specs.Str.{chars}
use Rattle.ar_value.specs.Terms.{Text}
use Rattle.ar_quote.specs.Shown.{quoted}
use Rattle.ar_diagnostic.specs.declared.place.EntryPart.{EntryPart}
use Rattle.ar_diagnostic.specs.declared.place.EntryPart.TheVariants as entries
use Rattle.ar_diagnostic.specs.declared.place.Flag.{Flag}
use Rattle.ar_diagnostic.specs.declared.place.Flag.TheVariants as flags
use Rattle.ar_diagnostic.specs.declared.place.Item.{Item}
use Rattle.ar_diagnostic.specs.declared.place.Member.{Member}
use Rattle.ar_diagnostic.specs.declared.place.Member.TheVariants as members
use Rattle.ar_diagnostic.specs.declared.place.MetricField.{MetricField}
use Rattle.ar_diagnostic.specs.declared.place.MetricField.TheVariants as metric_field
use Rattle.ar_diagnostic.specs.declared.place.Place.{Place}
use Rattle.ar_diagnostic.specs.declared.place.Place.TheVariants as places
use Rattle.ar_diagnostic.specs.declared.place.SpecPart.{SpecPart}
use Rattle.ar_diagnostic.specs.declared.place.SpecPart.TheVariants as spec
use Rattle.ar_diagnostic.specs.declared.place.TemplateField.{TemplateField}
use Rattle.ar_diagnostic.specs.declared.place.TemplateField.TheVariants as template_field
use Rattle.ar_diagnostic.specs.declared.place.Within.{Within}
use Rattle.ar_diagnostic.specs.declared.place.Within.TheVariants as within

-- ---- names

abbrev pub flag_name : Flag → Text
flag_name flags.Workers = codes "--workers"
flag_name flags.Ordered = codes "--ordered"
flag_name flags.Output = codes "--output"
flag_name flags.Event = codes "--event"
flag_name flags.Run = codes "--run"
flag_name flags.Metric = codes "--metric"

abbrev pub member_name : Member → Text
member_name members.Condition = codes "condition"
member_name members.Shape = codes "shape"
member_name members.Value = codes "value"
member_name members.Manifest = codes "manifest"
member_name members.Runs = codes "runs"
member_name members.Measurements = codes "measurements"

abbrev pub template_field_name : TemplateField → Text
template_field_name template_field.Version = codes "apiVersion"
template_field_name template_field.Kind = codes "kind"
template_field_name template_field.Name = codes "name"
template_field_name template_field.Metrics = codes "metrics"

abbrev pub metric_field_name : MetricField → Text
metric_field_name metric_field.Name = codes "name"
metric_field_name metric_field.SuccessCondition = codes "successCondition"
metric_field_name metric_field.FailureCondition = codes "failureCondition"
metric_field_name metric_field.Interval = codes "interval"
metric_field_name metric_field.Count = codes "count"
metric_field_name metric_field.FailureLimit = codes "failureLimit"
metric_field_name metric_field.InconclusiveLimit = codes "inconclusiveLimit"
metric_field_name metric_field.ConsecutiveErrorLimit = codes "consecutiveErrorLimit"
metric_field_name metric_field.ConsecutiveSuccessLimit = codes "consecutiveSuccessLimit"

abbrev pub entry_part_name : EntryPart → Text
entry_part_name entries.Run = codes "run"
entry_part_name entries.Metric = codes "metric"
entry_part_name entries.Value = codes "value"

-- ---- in a line

abbrev pub after_blank : Option Text → Text
after_blank None = []
after_blank (Some name) = codes " " ++ quoted name

-- as `metric 3 "rate"`
abbrev pub item_place_text : (kind : Text) → Item → Text
item_place_text kind item = kind ++ (codes " " ++ (decimal item.number ++ after_blank item.name))

abbrev pub spec_text : SpecPart → Text
spec_text spec.Spec = codes "spec"
spec_text spec.Args = codes "manifest: spec.args"
spec_text spec.DryRun = codes "manifest: spec.dryRun"

abbrev pub within_text : Within → Text
within_text within.Template = []
within_text (within.Manifest field) = codes "manifest: "
within_text within.Shapes = codes "shapes: "

-- after a metric: the words that follow name any other field that is refused
abbrev pub condition_named : Option MetricField → Text
condition_named (Some metric_field.SuccessCondition) = codes ", successCondition"
condition_named (Some metric_field.FailureCondition) = codes ", failureCondition"
condition_named field = []

-- a metric, with the arguments of a run
abbrev pub bound_metric_text : (run metric : Item) → Option MetricField → Text
bound_metric_text run metric field =
    item_place_text (codes "run") run
    ++ (codes ", " ++ (item_place_text (codes "metric") metric ++ condition_named field))

abbrev pub entry_place_text : (number : ℕ) → Text
entry_place_text number = codes "measurements[" ++ (decimal number ++ codes "]")

abbrev pub place_text : Place → Text
place_text (places.CommandLine None) = codes "command line"
place_text (places.CommandLine (Some flag)) = codes "command line, " ++ flag_name flag
place_text places.CommandNumber = codes "command"
place_text places.Document = codes "document"
place_text (places.Member member) = member_name member
place_text (places.Template field) = codes "manifest"
place_text (places.Spec part) = spec_text part
place_text (places.Argument item) = codes "manifest: " ++ item_place_text (codes "argument") item
place_text (places.UnnamedDryRun number) = codes "manifest: spec.dryRun"
place_text (places.DryRunName number) = codes "manifest: spec.dryRun[" ++ (decimal number ++ codes "].metricName")
place_text (places.Metric part item) = within_text part ++ item_place_text (codes "metric") item
place_text (places.Run item) = codes "runs[" ++ (decimal item.number ++ codes "]")
place_text (places.BoundMetric run metric field) = bound_metric_text run metric field
place_text (places.Entry number) = entry_place_text number
place_text (places.EntryMember number part) = entry_place_text number ++ (codes "." ++ entry_part_name part)

-- ---- as a pointer

-- a character of a reference token: `~` and `/` are escaped
abbrev pub pointer_character : (character : ℕ) → List ℕ
pointer_character character =
    if character == 126 then codes "~0" else (if character == 47 then codes "~1" else encode_utf8 character)

abbrev pub pointer_token : (name : Text) → Text
pointer_token name = flat_map pointer_character (chars name)

abbrev pub template_pointer : TemplateField → Text
template_pointer template_field.Version = codes "/manifest/apiVersion"
template_pointer template_field.Kind = codes "/manifest/kind"
template_pointer template_field.Name = codes "/manifest/metadata/name"
template_pointer template_field.Metrics = codes "/manifest/spec/metrics"

abbrev pub spec_pointer : SpecPart → Text
spec_pointer spec.Spec = codes "/manifest/spec"
spec_pointer spec.Args = codes "/manifest/spec/args"
spec_pointer spec.DryRun = codes "/manifest/spec/dryRun"

-- a shape is a member of `shapes`, by its metric's name
abbrev pub shape_pointer : (name : Option Text) → Text
shape_pointer None = codes "/shapes"
shape_pointer (Some name) = codes "/shapes/" ++ pointer_token name

-- the name of a metric in an item of `dryRun`
abbrev pub dry_run_pointer : (number : ℕ) → Text
dry_run_pointer number = codes "/manifest/spec/dryRun/" ++ (decimal number ++ codes "/metricName")

-- a metric, or a field of it
abbrev pub metric_pointer : (number : ℕ) → Option MetricField → Text
metric_pointer number None = codes "/manifest/spec/metrics/" ++ decimal number
metric_pointer number (Some field) =
    codes "/manifest/spec/metrics/" ++ (decimal number ++ (codes "/" ++ metric_field_name field))

-- what has no place in the document has none
abbrev pub pointer : Place → Option Text
pointer (places.CommandLine flag) = None
pointer places.CommandNumber = None
pointer places.Document = Some []
pointer (places.Member member) = Some (codes "/" ++ member_name member)
pointer (places.Template field) = Some (template_pointer field)
pointer (places.Spec part) = Some (spec_pointer part)
pointer (places.Argument item) = Some (codes "/manifest/spec/args/" ++ decimal item.number)
pointer (places.UnnamedDryRun number) = Some (dry_run_pointer number)
pointer (places.DryRunName number) = Some (dry_run_pointer number)
pointer (places.Metric within.Template item) = Some (metric_pointer item.number None)
pointer (places.Metric (within.Manifest field) item) = Some (metric_pointer item.number field)
pointer (places.Metric within.Shapes item) = Some (shape_pointer item.name)
pointer (places.Run item) = Some (codes "/runs/" ++ decimal item.number)
pointer (places.BoundMetric run metric field) = Some (metric_pointer metric.number field)
pointer (places.Entry number) = Some (codes "/measurements/" ++ decimal number)
pointer (places.EntryMember number part) =
    Some (codes "/measurements/" ++ (decimal number ++ (codes "/" ++ entry_part_name part)))

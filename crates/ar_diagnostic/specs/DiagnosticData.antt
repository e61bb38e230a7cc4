-- Diagnostics as JSON (RFC 8259): one object for a refusal, and one for the warnings of a document (docs/use/json.md).
-- Members are in the byte order of their names.
use Rattle.std.specs.Prelude.{ℕ, true, false, List, codes, map, Option, Some, None, option_map, option_and_then}
use Rattle.std.specs.Option.{option_map_or}
use Rattle.serde_json.specs.Data.{Data, boolean, member, no_members, null, object, string}
use Rattle.ar_object.specs.Object.{array_of, count_data, count_or_null, text_or_null, version}
use Rattle.ar_value.specs.Terms.{Text}
use Rattle.ar_diagnostic.specs.Diagnostic.{refusal_text_of, warning_text_of}
use Rattle.ar_diagnostic.specs.Place.{entry_part_name, flag_name, member_name, metric_field_name, pointer, template_field_name}
use Rattle.ar_diagnostic.specs.declared.diagnostic.Diagnostic.{Diagnostic}
use Rattle.ar_diagnostic.specs.declared.diagnostic.Expected.{Expected}
use Rattle.ar_diagnostic.specs.declared.diagnostic.Expected.TheVariants.{Thing, Rule}
use Rattle.ar_diagnostic.specs.declared.diagnostic.Position.{Position}
use Rattle.ar_diagnostic.specs.declared.diagnostic.Position.TheVariants.{End, At}
use Rattle.ar_diagnostic.specs.declared.diagnostic.Spot.{Spot}
use Rattle.ar_diagnostic.specs.declared.place.Item.{Item}
use Rattle.ar_diagnostic.specs.declared.place.Place.{Place}
use Rattle.ar_diagnostic.specs.declared.place.Place.TheVariants as places
use Rattle.ar_diagnostic.specs.declared.place.SpecPart.{SpecPart}
use Rattle.ar_diagnostic.specs.declared.place.SpecPart.TheVariants as spec
use Rattle.ar_diagnostic.specs.declared.place.Within.{Within}
use Rattle.ar_diagnostic.specs.declared.place.Within.TheVariants as within

-- ---- the parts of a place

abbrev pub metric_part : Within → Text
metric_part within.Template = codes "manifest"
metric_part (within.Manifest field) = codes "manifest"
metric_part within.Shapes = codes "shapes"

-- the part of the input
abbrev pub place_part : Place → Text
place_part (places.CommandLine flag) = codes "command line"
place_part places.CommandNumber = codes "command"
place_part places.Document = codes "document"
place_part (places.Member of) = member_name of
place_part (places.Metric part item) = metric_part part
place_part (places.Run item) = codes "runs"
place_part (places.Entry number) = codes "measurements"
place_part (places.EntryMember number part) = codes "measurements"
place_part place = codes "manifest"

abbrev pub place_run : Place → Option Item
place_run (places.Run item) = Some item
place_run (places.BoundMetric run metric field) = Some run
place_run place = None

abbrev pub place_metric : Place → Option Item
place_metric (places.Metric part item) = Some item
place_metric (places.BoundMetric run metric field) = Some metric
place_metric place = None

abbrev pub place_argument : Place → Option Item
place_argument (places.Argument item) = Some item
place_argument place = None

-- the number of an item of `measurements`
abbrev pub place_entry : Place → Option ℕ
place_entry (places.Entry number) = Some number
place_entry (places.EntryMember number part) = Some number
place_entry place = None

abbrev pub spec_field : SpecPart → Option Text
spec_field spec.Spec = None
spec_field spec.Args = Some (codes "args")
spec_field spec.DryRun = Some (codes "dryRun")

abbrev pub within_field : Within → Option Text
within_field (within.Manifest field) = option_map metric_field_name field
within_field part = None

abbrev pub place_field : Place → Option Text
place_field (places.CommandLine flag) = option_map flag_name flag
place_field (places.Template field) = Some (template_field_name field)
place_field (places.Spec part) = spec_field part
place_field (places.UnnamedDryRun number) = Some (codes "metricName")
place_field (places.DryRunName number) = Some (codes "metricName")
place_field (places.Metric part item) = within_field part
place_field (places.BoundMetric run metric field) = option_map metric_field_name field
place_field (places.EntryMember number part) = Some (entry_part_name part)
place_field place = None

-- ---- objects

abbrev pub item_data : Item → Data
item_data item = object
    (member (codes "name") (text_or_null item.name)
    (member (codes "number") (count_data item.number) no_members))

abbrev pub item_or_null : Option Item → Data
item_or_null found = option_map_or item_data found null

unfoldable pub place_data : Place → Option Spot → Data
place_data place spot = object
    (member (codes "argument") (item_or_null (place_argument place))
    (member (codes "entry") (count_or_null (place_entry place))
    (member (codes "excerpt") (text_or_null (option_and_then (λ (spot : Spot). spot.excerpt) spot))
    (member (codes "field") (text_or_null (place_field place))
    (member (codes "metric") (item_or_null (place_metric place))
    (member (codes "offset") (count_or_null (option_map (λ (spot : Spot). spot.offset) spot))
    (member (codes "part") (string (place_part place))
    (member (codes "run") (item_or_null (place_run place)) no_members))))))))

abbrev pub position_data : Option Position → Data
position_data None = null
position_data (Some End) = object
    (member (codes "column") null
    (member (codes "end") (boolean true)
    (member (codes "line") null no_members)))
position_data (Some (At line column)) = object
    (member (codes "column") (count_data column)
    (member (codes "end") (boolean false)
    (member (codes "line") (count_data line) no_members)))

abbrev pub expected_words : Expected → Text
expected_words (Thing thing) = thing
expected_words (Rule rule) = rule

-- a diagnostic, with a line that says it
unfoldable pub diagnostic_with : (line : Text) → Diagnostic → Data
diagnostic_with line it = object
    (member (codes "expected") (text_or_null (option_map expected_words it.expected))
    (member (codes "found") (text_or_null it.found)
    (member (codes "hint") (text_or_null it.hint)
    (member (codes "name") (string it.name)
    (member (codes "place") (place_data it.place it.spot)
    (member (codes "pointer") (text_or_null (pointer it.place))
    (member (codes "position") (position_data it.position)
    (member (codes "text") (string line) no_members))))))))

unfoldable pub refusal_data : Diagnostic → Data
refusal_data it = object
    (member (codes "refusal") (diagnostic_with (refusal_text_of it) it)
    (member (codes "version") version no_members))

abbrev pub warning_data : Diagnostic → Data
warning_data it = diagnostic_with (warning_text_of it) it

unfoldable pub warnings_data : List Diagnostic → Data
warnings_data warnings = object
    (member (codes "version") version
    (member (codes "warnings") (array_of (map warning_data warnings)) no_members))

-- The field of a metric that holds a value of another kind than it takes.
use Rattle.std.specs.Prelude.{◌++◌, codes, Option, Some, None, option_and_then}
use Rattle.std.specs.Option.{option_or}
use Rattle.ar_value.specs.Terms.{Text}
use Rattle.serde_json.specs.Data.{Data, null, boolean, number, string, array, object}
use Rattle.ar_diagnostic.specs.Place.{metric_field_name}
use Rattle.ar_diagnostic.specs.declared.place.MetricField.{MetricField}
use Rattle.ar_diagnostic.specs.declared.place.MetricField.TheVariants as fields
use Rattle.ar_json.specs.Members.{member}

abbrev pub json_said : Data → Text
json_said null = codes "null"
json_said (boolean b) = codes "a boolean"
json_said (number n) = codes "a number"
json_said (string text) = codes "a text"
json_said (array items) = codes "a list"
json_said (object _) = codes "an object"

-- a field, what it holds, and what it takes
pub record FieldMisfit : Type 0 where
  pub field : MetricField
  pub found : Text
  pub expected : Text

abbrev pub misfit_of : MetricField → (value : Data) → (expected : Text) → FieldMisfit
misfit_of field value expected =
    record {
      field = field;
      found = codes "`" ++ (metric_field_name field ++ (codes "` is " ++ json_said value));
      expected = expected;
    }

abbrev pub unless_text : MetricField → (value : Data) → Option FieldMisfit
unless_text field (string text) = None
unless_text field value = Some (misfit_of field value (codes "a text"))

abbrev pub unless_limit : MetricField → (value : Data) → Option FieldMisfit
unless_limit field (number n) = None
unless_limit field (string text) = None
unless_limit field value = Some (misfit_of field value (codes "a number or a text"))

abbrev pub text_misfit : MetricField → (metric : Data) → Option FieldMisfit
text_misfit field metric = option_and_then (unless_text field) (member (metric_field_name field) metric)

abbrev pub limit_misfit : MetricField → (metric : Data) → Option FieldMisfit
limit_misfit field metric = option_and_then (unless_limit field) (member (metric_field_name field) metric)

abbrev pub texts_misfit : (metric : Data) → Option FieldMisfit
texts_misfit metric =
    option_or (text_misfit fields.SuccessCondition metric)
    (option_or (text_misfit fields.FailureCondition metric) (text_misfit fields.Interval metric))

abbrev pub limits_misfit : (metric : Data) → Option FieldMisfit
limits_misfit metric =
    option_or (limit_misfit fields.Count metric) (option_or (limit_misfit fields.FailureLimit metric)
    (option_or (limit_misfit fields.InconclusiveLimit metric) (limit_misfit fields.ConsecutiveErrorLimit metric)))

-- the first such field, in the order in which a template is read
abbrev pub metric_misfit : (metric : Data) → Option FieldMisfit
metric_misfit metric = option_or (texts_misfit metric) (limits_misfit metric)

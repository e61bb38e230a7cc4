-- For what the binding of a metric is refused: a reference that has no value, or a limit that isn't one.
use Rattle.std.specs.Prelude.{ℕ, nat_le, Bool, true, false, if◌then◌else◌, List, [], ◌∷◌, length, map, codes, Option, Some, None, option_map, option_and_then, slice_get, Result, Ok, Err, is_ok}
use Rattle.std.specs.Option.{option_or}
use Rattle.std.specs.Result.{result_ok}
use Rattle.ar_value.specs.Terms.{Text}
use Rattle.ar_manifest.specs.Binding.{RunArguments, bound_text, referred_value, trimmed}
use Rattle.ar_manifest.specs.Bound.{bound_limit}
use Rattle.ar_manifest.specs.Cut.{Parts, whole, unclosed, reference, parts_of}
use Rattle.ar_manifest.specs.Template.{TemplateArguments}
use Rattle.ar_manifest.specs.declared.error.ManifestError.{ManifestError}
use Rattle.ar_manifest.specs.declared.error.ManifestError.TheVariants.{BadLimit}
use Rattle.ar_manifest.specs.declared.found.LimitField.{LimitField}
use Rattle.ar_manifest.specs.declared.found.LimitField.TheVariants.{Count, Failure, Inconclusive, ConsecutiveError}
use Rattle.ar_manifest.specs.declared.found.LimitValue.{LimitValue}
use Rattle.ar_manifest.specs.declared.found.LimitValue.TheVariants as values
use Rattle.ar_manifest.specs.declared.found.RefusedLimit.{RefusedLimit}
use Rattle.ar_manifest.specs.declared.template.Limit.{Limit}
use Rattle.ar_manifest.specs.declared.template.Limit.TheVariants as limits
use Rattle.ar_manifest.specs.declared.template.Metric.{Metric}
use Rattle.ar_manifest.specs.declared.template.MetricLimits.{MetricLimits}
use Rattle.ar_manifest.specs.declared.template.Template.{Template}

-- ---- the order of `bind`

-- the first that is there
abbrev pub first_some : {A : Type 0} → List (Option A) → Option A
first_some [] = None
first_some (found ∷ rest) = option_or found (first_some rest)

-- the fields of limits
abbrev pub fields : List LimitField
fields = Count ∷ Failure ∷ Inconclusive ∷ ConsecutiveError ∷ []

abbrev pub field_name : LimitField → Text
field_name Count = codes "count"
field_name Failure = codes "failureLimit"
field_name Inconclusive = codes "inconclusiveLimit"
field_name ConsecutiveError = codes "consecutiveErrorLimit"

abbrev pub limit_at : MetricLimits → LimitField → Option Limit
limit_at limits Count = limits.count
limit_at limits Failure = limits.failure
limit_at limits Inconclusive = limits.inconclusive
limit_at limits ConsecutiveError = limits.consecutive_error

-- a limit's text, where it is one
abbrev pub limit_text : Option Limit → Option Text
limit_text (Some (limits.Text text)) = Some text
limit_text limit = None

-- the texts of a metric, each of which may be missing
abbrev pub texts_of : Metric → List (Option Text)
texts_of metric =
    metric.success_condition ∷ metric.failure_condition
    ∷ map (λ field. limit_text (limit_at metric.limits field)) fields

-- ---- references

-- the first reference, among the parts of a text, that has no value
unfoldable pub unbound_in : TemplateArguments → RunArguments → ℕ → Parts → Option Text
unbound_in arguments own i (whole text) = None
unbound_in arguments own i (unclosed before) = None
unbound_in arguments own i (reference before between parts) =
    if is_ok (referred_value arguments own i between) then unbound_in arguments own i parts else Some (trimmed between)

-- in a text that may be missing
abbrev pub unbound_in_text : TemplateArguments → RunArguments → ℕ → Option Text → Option Text
unbound_in_text arguments own i text = option_and_then (λ text. unbound_in arguments own i (parts_of text)) text

-- in the texts of a metric
abbrev pub unbound_in_metric : TemplateArguments → RunArguments → ℕ → Metric → Option Text
unbound_in_metric arguments own i metric = first_some (map (unbound_in_text arguments own i) (texts_of metric))

-- in metric i of a template
unfoldable pub unbound_reference : Template → RunArguments → ℕ → Option Text
unbound_reference template own i =
    option_and_then (unbound_in_metric template.arguments own i) (slice_get template.metrics i)

-- ---- limits

-- a bound text of at most this many bytes is shown
abbrev pub most_shown : ℕ
most_shown = 256

abbrev pub is_bad_limit : ManifestError → Bool
is_bad_limit (BadLimit i) = true
is_bad_limit refusal = false

-- whether a limit is refused by `BadLimit`
abbrev pub refuses_limit : {A : Type 0} → Result A ManifestError → Bool
refuses_limit (Ok x) = false
refuses_limit (Err refusal) = is_bad_limit refusal

-- a bound text, if it is shown
abbrev pub text_value : Text → LimitValue
text_value text = if nat_le (length text) most_shown then values.Text text else values.LongText

-- what a limit is once it is bound, if its references have values
abbrev pub bound_value : TemplateArguments → RunArguments → ℕ → Limit → Option LimitValue
bound_value arguments own i (limits.Whole n) = Some (values.Whole n)
bound_value arguments own i limits.OtherNumber = Some values.OtherNumber
bound_value arguments own i (limits.Text text) = option_map text_value (result_ok (bound_text arguments own i text))

-- what a limit that may be missing is once it is bound, if that is no limit
unfoldable pub refused_value : TemplateArguments → RunArguments → ℕ → Option Limit → Option LimitValue
refused_value arguments own i limit =
    if refuses_limit (bound_limit arguments own i limit) then option_and_then (bound_value arguments own i) limit
    else None

-- the limit of a field, if it is refused so
abbrev pub refused_in_field : TemplateArguments → RunArguments → ℕ → MetricLimits → LimitField → Option RefusedLimit
refused_in_field arguments own i limits field =
    option_map (λ value. record { field = field; value = value })
    (refused_value arguments own i (limit_at limits field))

-- the first limit of a metric that is refused
abbrev pub refused_in_metric : TemplateArguments → RunArguments → ℕ → Metric → Option RefusedLimit
refused_in_metric arguments own i metric = first_some (map (refused_in_field arguments own i metric.limits) fields)

-- of metric i of a template
unfoldable pub refused_limit : Template → RunArguments → ℕ → Option RefusedLimit
refused_limit template own i =
    option_and_then (refused_in_metric template.arguments own i) (slice_get template.metrics i)

-- Warnings of templates: a metric without a condition, which each measured value passes, and a field that is ignored
-- and close to one that is read.
use Rattle.std.specs.Prelude.{ℕ, Bool, true, false, ◌&&◌, if◌then◌else◌, List, [], ◌∷◌, ◌++◌, codes, flat_map, is_some, Option, Some, None, option_and_then, unwrap_or}
use Rattle.std.specs.Option.{option_map_or}
use Rattle.ar_value.specs.Terms.{Text}
use Rattle.serde_json.specs.Data.{Data}
use Rattle.ar_json.specs.Members.{list_of, member, member_of_member, text_member}
use Rattle.ar_diagnostic.specs.Diagnostic.{plain_diagnostic}
use Rattle.ar_diagnostic.specs.declared.diagnostic.Diagnostic.{Diagnostic}
use Rattle.ar_diagnostic.specs.declared.place.Place.{Place}
use Rattle.ar_diagnostic.specs.declared.place.Place.TheVariants as places
use Rattle.ar_diagnostic.specs.declared.place.SpecPart.TheVariants as spec_part
use Rattle.ar_diagnostic.specs.declared.place.Within.TheVariants as within
use Rattle.ar_warning.specs.Each.{each_from}

-- ---- names that are close to others

-- a name that is ignored, and the one that it is close to
pub record Close : Type 0 where
  pub name : Text
  pub meant : Text

abbrev pub close : (name meant : Text) → Close
close name meant = record { name = name; meant = meant }

-- of fields of `spec`
abbrev pub close_to_spec : List Close
close_to_spec =
    close (codes "dryrun") (codes "dryRun") ∷ close (codes "dryRuns") (codes "dryRun")
    ∷ close (codes "dry_run") (codes "dryRun") ∷ close (codes "DryRun") (codes "dryRun")
    ∷ close (codes "metric") (codes "metrics") ∷ close (codes "arg") (codes "args")
    ∷ close (codes "arguments") (codes "args") ∷ []

-- of fields of a metric
abbrev pub close_to_metric : List Close
close_to_metric =
    close (codes "sucessCondition") (codes "successCondition")
    ∷ close (codes "succesCondition") (codes "successCondition")
    ∷ close (codes "successcondition") (codes "successCondition")
    ∷ close (codes "successConditions") (codes "successCondition")
    ∷ close (codes "SuccessCondition") (codes "successCondition")
    ∷ close (codes "success_condition") (codes "successCondition")
    ∷ close (codes "condition") (codes "successCondition")
    ∷ close (codes "failurecondition") (codes "failureCondition")
    ∷ close (codes "failureConditions") (codes "failureCondition")
    ∷ close (codes "FailureCondition") (codes "failureCondition")
    ∷ close (codes "failure_condition") (codes "failureCondition")
    ∷ close (codes "failCondition") (codes "failureCondition")
    ∷ close (codes "failurelimit") (codes "failureLimit") ∷ close (codes "failureLimits") (codes "failureLimit")
    ∷ close (codes "failLimit") (codes "failureLimit")
    ∷ close (codes "inconclusivelimit") (codes "inconclusiveLimit")
    ∷ close (codes "consecutiveErrorLimits") (codes "consecutiveErrorLimit")
    ∷ close (codes "consecutiveerrorlimit") (codes "consecutiveErrorLimit")
    ∷ close (codes "errorLimit") (codes "consecutiveErrorLimit") ∷ close (codes "counts") (codes "count")
    ∷ close (codes "intervals") (codes "interval") ∷ []

-- ---- warnings

-- a field that isn't read
abbrev pub ignored : Place → Close → Diagnostic
ignored place field =
    record (plain_diagnostic place (codes "IgnoredField")) {
      found = Some (codes "\"" ++ (field.name ++ codes "\" is not read"));
      hint = Some (codes "did you mean \"" ++ (field.meant ++ codes "\"?"));
    }

-- a name that an object has
abbrev pub close_warning : Place → Data → Close → List Diagnostic
close_warning place fields name = if is_some (member name.name fields) then ignored place name ∷ [] else []

abbrev pub close_warnings : Place → List Close → Data → List Diagnostic
close_warnings place names fields = flat_map (close_warning place fields) names

-- a text that is missing or empty
abbrev pub is_left_out : Option Text → Bool
is_left_out None = true
is_left_out (Some []) = true
is_left_out (Some text) = false

abbrev pub has_no_condition : Data → Bool
has_no_condition metric =
    is_left_out (text_member (codes "successCondition") metric)
    && is_left_out (text_member (codes "failureCondition") metric)

abbrev pub unconditional : Place → Diagnostic
unconditional place =
    record (plain_diagnostic place (codes "NoCondition")) {
      found = Some (codes "no condition, so each measured value is Successful");
    }

abbrev pub condition_warning : Place → Data → List Diagnostic
condition_warning place metric = if has_no_condition metric then unconditional place ∷ [] else []

-- a metric, by its number and its name
abbrev pub metric_place : (number : ℕ) → Data → Place
metric_place number metric =
    places.Metric within.Template (record { number = number; name = text_member (codes "name") metric })

abbrev pub metric_warnings : (number : ℕ) → Data → List Diagnostic
metric_warnings number metric =
    close_warnings (metric_place number metric) close_to_metric metric
    ++ condition_warning (metric_place number metric) metric

-- of a `spec`, and then of its metrics in their order
abbrev pub spec_warnings : Data → List Diagnostic
spec_warnings spec =
    close_warnings (places.Spec spec_part.Spec) close_to_spec spec
    ++ each_from metric_warnings 0 (unwrap_or (option_and_then list_of (member (codes "metrics") spec)) [])

-- of the template of a document
abbrev pub template_warnings : Data → List Diagnostic
template_warnings document =
    option_map_or spec_warnings (member_of_member (codes "manifest") (codes "spec") document) []

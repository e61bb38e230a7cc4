-- Texts that are kept while they have few enough bytes, and bound metrics of such texts.
use Rattle.std.specs.Prelude.{ℕ, nat_le, Bool, true, false, if◌then◌else◌, List, ◌++◌, length, Option, Some, None, option_map, Result, Ok, Err}
use Rattle.ar_value.specs.Answer.{◌>>=◌}
use Rattle.ar_value.specs.Limits.{most_text_bytes}
use Rattle.ar_json.specs.Members.{unless_empty}
use Rattle.ar_manifest.specs.Binding.{RunArguments, bound_text}
use Rattle.ar_manifest.specs.Bound.{bound_condition, bound_metric, limit_of_text}
use Rattle.ar_manifest.specs.Shortened.{shortened, shortened_metric, spaces}
use Rattle.ar_manifest.specs.Template.{TemplateArguments}
use Rattle.ar_manifest.specs.declared.bound.BoundMetric.{BoundMetric}
use Rattle.ar_manifest.specs.declared.error.ManifestError.{ManifestError}
use Rattle.ar_manifest.specs.declared.error.ManifestError.TheVariants.{BadLimit}
use Rattle.ar_manifest.specs.declared.template.Metric.{Metric}

-- ---- texts

-- whether a text has at most `most` bytes, where that is limited
abbrev pub is_within : Option ℕ → List ℕ → Bool
is_within None text = true
is_within (Some most) text = nat_le (length text) most

-- a text, if it has at most `most` bytes
unfoldable pub within : Option ℕ → List ℕ → Option (List ℕ)
within most text = if is_within most text then Some text else None

-- a text that is kept, with a piece at its end, if it has at most `most` bytes then
unfoldable pub joined : Option ℕ → Option (List ℕ) → List ℕ → Option (List ℕ)
joined most None piece = None
joined most (Some front) piece = within most (front ++ piece)

-- a text of metric i, bound, if it has at most `most` bytes
unfoldable pub text_within : TemplateArguments → RunArguments → ℕ → Option ℕ → List ℕ
    → Result (Option (List ℕ)) ManifestError
text_within arguments own i most text = bound_text arguments own i text >>= λ bound. Ok (within most bound)

-- ---- limits

-- a text as a limit of metric i; one of too many bytes is none
unfoldable pub limit_within : ℕ → Option (List ℕ) → Result ℕ ManifestError
limit_within i None = Err (BadLimit i)
limit_within i (Some text) = limit_of_text i text

-- ---- conditions

-- how many bytes of a condition are kept, where it is shortened
abbrev pub most_kept : Bool → Option ℕ
most_kept false = None
most_kept true = Some most_text_bytes

-- a bound text as a condition, and one of too many bytes as spaces
unfoldable pub condition_within : Option (List ℕ) → Option (List ℕ)
condition_within None = Some (spaces 4097)
condition_within (Some text) = unless_empty text

-- a bound condition that may be missing, shortened or whole
abbrev pub kept : Bool → Option (List ℕ) → Option (List ℕ)
kept false condition = condition
kept true condition = option_map shortened condition

abbrev pub kept_condition : TemplateArguments → RunArguments → ℕ → Bool → Option (List ℕ)
    → Result (Option (List ℕ)) ManifestError
kept_condition arguments own i shortens condition =
    bound_condition arguments own i condition >>= λ bound. Ok (kept shortens bound)

-- ---- metrics

-- the conditions of metric i, bound, shortened or whole
abbrev pub kept_conditions : TemplateArguments → RunArguments → ℕ → Bool → Metric
    → Result (Option (List ℕ) × Option (List ℕ)) ManifestError
kept_conditions arguments own i shortens metric = do
  success ← kept_condition arguments own i shortens metric.success_condition
  failure ← kept_condition arguments own i shortens metric.failure_condition
  Ok (success, failure)

-- a bound metric, its conditions shortened or whole
abbrev pub kept_metric : Bool → BoundMetric → BoundMetric
kept_metric false metric = metric
kept_metric true metric = shortened_metric metric

-- metric i, bound so
abbrev pub kept_bound : TemplateArguments → RunArguments → ℕ → Bool → Metric → Result BoundMetric ManifestError
kept_bound arguments own i shortens metric =
    bound_metric arguments own i metric >>= λ bound. Ok (kept_metric shortens bound)

-- a metric after those that are bound so already
abbrev pub next_kept : TemplateArguments → RunArguments → Bool → List BoundMetric → Metric
    → Result BoundMetric ManifestError
next_kept arguments own shortens earlier metric = kept_bound arguments own (length earlier) shortens metric

-- Parts of bound metrics.
use Rattle.std.specs.Prelude.{ℕ, List, Option, Result, Ok, unwrap_or}
use Rattle.ar_value.specs.Answer.{◌>>=◌}
use Rattle.ar_manifest.specs.Binding.{RunArguments, bound_text}
use Rattle.ar_manifest.specs.Bound.{bound_condition, bound_limit, effective_count, limit_of_text}
use Rattle.ar_manifest.specs.Template.{TemplateArguments}
use Rattle.ar_manifest.specs.declared.binder.BoundLimits.{BoundLimits}
use Rattle.ar_manifest.specs.declared.error.ManifestError.{ManifestError}
use Rattle.ar_manifest.specs.declared.template.Metric.{Metric}

-- the conditions of metric i
abbrev pub bound_conditions : TemplateArguments → RunArguments → ℕ → Metric
    → Result (Option (List ℕ) × Option (List ℕ)) ManifestError
bound_conditions arguments own i metric = do
  success ← bound_condition arguments own i metric.success_condition
  failure ← bound_condition arguments own i metric.failure_condition
  Ok (success, failure)

-- a text as a limit
abbrev pub limit_in : TemplateArguments → RunArguments → ℕ → List ℕ → Result ℕ ManifestError
limit_in arguments own i text = bound_text arguments own i text >>= limit_of_text i

-- its limits
abbrev pub bound_limits : TemplateArguments → RunArguments → ℕ → Metric → Result BoundLimits ManifestError
bound_limits arguments own i metric = do
  count ← bound_limit arguments own i metric.limits.count
  failure ← bound_limit arguments own i metric.limits.failure
  inconclusive ← bound_limit arguments own i metric.limits.inconclusive
  consecutive_error ← bound_limit arguments own i metric.limits.consecutive_error
  effective ← effective_count i metric.has_interval count
  Ok (record {
    failure = unwrap_or failure 0;
    inconclusive = unwrap_or inconclusive 0;
    consecutive_error = unwrap_or consecutive_error 4;
    count = effective;
  })

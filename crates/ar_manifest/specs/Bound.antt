-- A template whose arguments are bound: conditions, limits, effective counts and dry marks of its metrics.
use Rattle.std.specs.Prelude.{◌≡◌, ℕ, zero, suc, nat_le, nat_lt, Bool, ◌&&◌, not, if◌then◌else◌, List, [], ◌∷◌, length, Option, Some, None, unwrap_or, Result, Ok, Err, IsOk, true, false, codes, refl}
use Rattle.std.specs.Char.{is_ascii_digit}
use Rattle.std.specs.List.{list_all}
use Rattle.std.specs.Str.Parse.{digits_value}
use Rattle.ar_value.specs.Terms.{Text}
use Rattle.ar_value.specs.Answer.{◌>>=◌, Refuses, each_after}
use Rattle.ar_manifest.specs.Binding.{RunArguments, bound_text}
use Rattle.ar_json.specs.Members.{unless_empty}
use Rattle.ar_manifest.specs.Template.{TemplateArguments}
use Rattle.ar_manifest.specs.declared.bound.BoundMetric.{BoundMetric}
use Rattle.ar_manifest.specs.declared.error.ManifestError.{ManifestError}
use Rattle.ar_manifest.specs.declared.error.ManifestError.TheVariants.{BadLimit, IntervalMissing}
use Rattle.ar_manifest.specs.declared.template.Limit.{Limit}
use Rattle.ar_manifest.specs.declared.template.Limit.TheVariants as limits
use Rattle.ar_manifest.specs.declared.template.Metric.{Metric}
use Rattle.ar_manifest.specs.declared.template.Template.{Template}

-- the greatest limit
abbrev pub most : ℕ
most = 1000000000

-- a number is a limit up to the greatest
abbrev pub limit_of_number : ℕ → ℕ → Result ℕ ManifestError
limit_of_number i n = if nat_le n most then Ok n else Err (BadLimit i)

-- a limit's text has one to ten digits, and nothing else
abbrev pub is_limit_text : Text → Bool
is_limit_text text = nat_le 1 (length text) && nat_le (length text) 10 && list_all is_ascii_digit text

unfoldable pub limit_of_text : ℕ → Text → Result ℕ ManifestError
limit_of_text i text = if is_limit_text text then limit_of_number i (digits_value 10 text) else Err (BadLimit i)

-- a limit that may be missing, bound
unfoldable pub bound_limit : TemplateArguments → RunArguments → ℕ → Option Limit → Result (Option ℕ) ManifestError
bound_limit arguments own i None = Ok None
bound_limit arguments own i (Some (limits.Whole n)) = limit_of_number i n >>= λ limit. Ok (Some limit)
bound_limit arguments own i (Some limits.OtherNumber) = Err (BadLimit i)
bound_limit arguments own i (Some (limits.Text text)) =
    bound_text arguments own i text >>= limit_of_text i >>= λ limit. Ok (Some limit)

-- a condition that may be missing, bound; an empty one counts as missing
unfoldable pub bound_condition : TemplateArguments → RunArguments → ℕ → Option Text
    → Result (Option Text) ManifestError
bound_condition arguments own i None = Ok None
bound_condition arguments own i (Some text) = bound_text arguments own i text >>= λ bound. Ok (unless_empty bound)

-- without a count a metric is measured once, or without end where it has an interval
abbrev pub count_without : Bool → Option ℕ
count_without has_interval = if has_interval then None else Some 1

-- A count of 0 counts as missing, and one above 1 needs an interval.
abbrev pub effective_count : ℕ → Bool → Option ℕ → Result (Option ℕ) ManifestError
effective_count i has_interval None = Ok (count_without has_interval)
effective_count i has_interval (Some zero) = Ok (count_without has_interval)
effective_count i has_interval (Some (suc n)) =
    if nat_lt 1 (suc n) && not has_interval then Err (IntervalMissing i) else Ok (Some (suc n))

-- metric i, bound
unfoldable pub bound_metric : TemplateArguments → RunArguments → ℕ → Metric → Result BoundMetric ManifestError
bound_metric arguments own i metric = do
  success ← bound_condition arguments own i metric.success_condition
  failure ← bound_condition arguments own i metric.failure_condition
  count ← bound_limit arguments own i metric.limits.count
  failure_limit ← bound_limit arguments own i metric.limits.failure
  inconclusive_limit ← bound_limit arguments own i metric.limits.inconclusive
  consecutive_error_limit ← bound_limit arguments own i metric.limits.consecutive_error
  effective ← effective_count i metric.has_interval count
  Ok (record {
    name = metric.name;
    success_condition = success;
    failure_condition = failure;
    failure_limit = unwrap_or failure_limit 0;
    inconclusive_limit = unwrap_or inconclusive_limit 0;
    consecutive_error_limit = unwrap_or consecutive_error_limit 4;
    count = effective;
    dry = metric.dry;
  })

-- a metric after those that are bound already
abbrev pub next_bound : TemplateArguments → RunArguments → List BoundMetric → Metric → Result BoundMetric ManifestError
next_bound arguments own earlier metric = bound_metric arguments own (length earlier) metric

-- the metrics of a template, bound one after another
unfoldable pub bound_of : Template → RunArguments → Result (List BoundMetric) ManifestError
bound_of template own = each_after (next_bound template.arguments own) [] template.metrics

-- a limit that is missing or a number, which takes no memory to bind
abbrev pub IsNumber : Option Limit → Type 0
IsNumber None = Unit {0}
IsNumber (Some (limits.Whole value)) = Unit {0}
IsNumber (Some limits.OtherNumber) = Unit {0}
IsNumber (Some (limits.Text text)) = ⊥

-- metric i, if no text is bound before it is refused: it has no condition, and a limit is a text only after one that is
-- refused
pub record IsPlain (arguments : TemplateArguments) (own : RunArguments) (i : ℕ) (metric : Metric) : Type 0 where
  pub success : metric.success_condition ≡ None
  pub failure : metric.failure_condition ≡ None
  pub count : IsNumber metric.limits.count
  pub failure_limit : IsOk (bound_limit arguments own i metric.limits.count) → IsNumber metric.limits.failure
  pub inconclusive_limit :
      IsOk (bound_limit arguments own i metric.limits.count) → IsOk (bound_limit arguments own i metric.limits.failure)
      → IsNumber metric.limits.inconclusive
  pub consecutive_error_limit :
      IsOk (bound_limit arguments own i metric.limits.count) → IsOk (bound_limit arguments own i metric.limits.failure)
      → IsOk (bound_limit arguments own i metric.limits.inconclusive) → IsNumber metric.limits.consecutive_error

-- The refusal of a plain first metric, as `BadLimit` of a number, is returned: out of memory is never returned
-- instead.
abbrev pub RefusesFirst : {X : Type 0} → TemplateArguments → RunArguments → List Metric → Result X ManifestError
    → Type 0
RefusesFirst arguments own metrics result =
    (first : Metric) (rest : List Metric) → metrics ≡ first ∷ rest → IsPlain arguments own 0 first
    → Refuses result (bound_metric arguments own 0 first)

-- ---- worked rows

measured_once : effective_count 0 false None ≡ Ok (Some 1)
measured_once = refl

without_end : effective_count 0 true (Some 0) ≡ Ok None
without_end = refl

two_without_interval : effective_count 0 false (Some 2) ≡ Err (IntervalMissing 0)
two_without_interval = refl

limit_as_text : limit_of_text 0 (codes "10") ≡ Ok 10
unfolding limit_of_text
limit_as_text = refl

limit_too_great : limit_of_text 0 (codes "1000000001") ≡ Err (BadLimit 0)
unfolding limit_of_text
limit_too_great = refl

-- What is made of parts.
use Rattle.std.proofs.Common.{◌≡◌, ℕ, Bool, true, false, List, [], Option, Result, Ok, Err, refl, sym, ◌∙◌, ap}
use Rattle.std.specs.Prelude.{codes, unwrap_or}
use Rattle.serde_json.specs.Data.{Data}
use Rattle.ar_value.specs.Answer.{◌>>=◌, Unless, each_after}
use Rattle.ar_value.proofs.Steps.{refuses_first}
use Rattle.ar_json.specs.Members.{member, member_of_member}
use Rattle.ar_manifest.specs.Binding.{RunArguments}
use Rattle.ar_manifest.specs.Bound.{bound_condition, bound_limit, bound_metric, effective_count}
use Rattle.ar_manifest.specs.DryRun.{with_dry_run}
use Rattle.ar_manifest.specs.Private.BoundParts.{bound_conditions, bound_limits}
use Rattle.ar_manifest.specs.Private.Early.{counted_of, first_counted}
use Rattle.ar_manifest.specs.Private.Within.{kept, kept_bound, kept_conditions, kept_metric}
use Rattle.ar_manifest.specs.Private.Made.{marked_metrics, two_limits}
use Rattle.ar_manifest.specs.Refusals.{is_memory}
use Rattle.ar_manifest.specs.Template.{TemplateArguments, arguments_of, head_of, limit_or, metric_limits, metric_of, template_of}
use Rattle.ar_manifest.specs.declared.binder.BoundLimits.{BoundLimits}
use Rattle.ar_manifest.specs.declared.bound.BoundMetric.{BoundMetric}
use Rattle.ar_manifest.specs.declared.error.ManifestError.{ManifestError}
use Rattle.ar_manifest.specs.declared.error.ManifestError.TheVariants.{BadField}
use Rattle.ar_manifest.specs.declared.template.Limit.{Limit}
use Rattle.ar_manifest.specs.declared.template.Metric.{Metric}
use Rattle.ar_manifest.specs.declared.template.MetricLimits.{MetricLimits}
use Rattle.ar_manifest.specs.declared.template.Template.{Template}

abbrev pair_of : {A B : Type 0} → A → B → A × B
pair_of x y = (x, y)

-- two answers, and what is made of them
paired : {A B C E : Type 0} (first : Result A E) (second : Result B E) (next : A → B → Result C E)
    → (first >>= λ x. second >>= λ y. next x y) ≡ ((first >>= λ x. second >>= λ y. Ok (pair_of x y)) >>= λ both. next both.0 both.1)
paired (Ok x) (Ok y) next = refl
paired (Ok x) (Err e) next = refl
paired (Err e) second next = refl

-- ---- a template

-- a template of its metrics
abbrev pub template_with : List ℕ → TemplateArguments → List Metric → Template
template_with name arguments metrics = record { name = name; arguments = arguments; metrics = metrics }

module _ {A B C D E : Type 0} (each : A → Result B E) (mark : B → Result C E) (next : C → Result D E) where
  by_each : (metrics : Result B E) → (metrics >>= λ made. mark made >>= next) ≡ ((metrics >>= λ made. mark made) >>= next)
  by_each (Err e) = refl
  by_each (Ok made) = refl

  by_items : (items : Result A E) → (items >>= λ list. each list >>= λ made. mark made >>= next) ≡ ((items >>= λ list. each list >>= λ made. mark made) >>= next)
  by_items (Err e) = refl
  by_items (Ok list) = by_each (each list)

module _ (d : Data) where
  abbrev with_metrics : List ℕ → TemplateArguments → Result Template ManifestError
  with_metrics name arguments = marked_metrics d >>= λ metrics. Ok (template_with name arguments metrics)

  abbrev with_arguments : List ℕ → Result Template ManifestError
  with_arguments name = arguments_of (member_of_member (codes "spec") (codes "args") d) >>= with_metrics name

  by_arguments : (name : List ℕ) (arguments : Result TemplateArguments ManifestError)
      → (arguments >>= λ made. counted_of d >>= λ items. each_after metric_of [] items >>= λ metrics. with_dry_run (member_of_member (codes "spec") (codes "dryRun") d) metrics >>= λ marked. Ok (template_with name made marked))
      ≡ (arguments >>= with_metrics name)
  by_arguments name (Err e) = refl
  by_arguments name (Ok made) =
      by_items (each_after metric_of []) (with_dry_run (member_of_member (codes "spec") (codes "dryRun") d)) (λ marked. Ok (template_with name made marked)) (counted_of d)

  by_head : (head : Result (List ℕ) ManifestError)
      → (head >>= λ name. arguments_of (member_of_member (codes "spec") (codes "args") d) >>= λ made. counted_of d >>= λ items. each_after metric_of [] items
      >>= λ metrics. with_dry_run (member_of_member (codes "spec") (codes "dryRun") d) metrics >>= λ marked. Ok (template_with name made marked))
      ≡ (head >>= with_arguments)
  by_head (Err e) = refl
  by_head (Ok name) = by_arguments name (arguments_of (member_of_member (codes "spec") (codes "args") d))

  template_of-parts : template_of d ≡ (head_of d >>= with_arguments)
  unfolding template_of
  template_of-parts = by_head (head_of d)

  pub head_refused : (refusal : ManifestError) → head_of d ≡ Err refusal → template_of d ≡ Err refusal
  head_refused refusal refused = template_of-parts ∙ ap (λ head. head >>= with_arguments) refused

  after_head : (name : List ℕ) → head_of d ≡ Ok name → with_arguments name ≡ template_of d
  after_head name named = sym (template_of-parts ∙ ap (λ head. head >>= with_arguments) named)

  pub arguments_refused : (name : List ℕ) → head_of d ≡ Ok name → (refusal : ManifestError)
      → Unless (is_memory refusal) (arguments_of (member_of_member (codes "spec") (codes "args") d) ≡ Err refusal) → Unless (is_memory refusal) (template_of d ≡ Err refusal)
  arguments_refused name named refusal refused = refuses_first (is_memory refusal) refusal (arguments_of (member_of_member (codes "spec") (codes "args") d)) (with_metrics name) (template_of d) refused (after_head name named)

  after_arguments : (name : List ℕ) → head_of d ≡ Ok name → (arguments : TemplateArguments) → arguments_of (member_of_member (codes "spec") (codes "args") d) ≡ Ok arguments
      → with_metrics name arguments ≡ template_of d
  after_arguments name named arguments made = sym (ap (λ answer. answer >>= with_metrics name) made) ∙ after_head name named

  pub metrics_refused : (name : List ℕ) → head_of d ≡ Ok name → (arguments : TemplateArguments) → arguments_of (member_of_member (codes "spec") (codes "args") d) ≡ Ok arguments
      → (refusal : ManifestError) → Unless (is_memory refusal) (marked_metrics d ≡ Err refusal) → Unless (is_memory refusal) (template_of d ≡ Err refusal)
  metrics_refused name named arguments made refusal refused = refuses_first (is_memory refusal) refusal (marked_metrics d) (λ metrics. Ok (template_with name arguments metrics)) (template_of d) refused (after_arguments name named arguments made)

  pub template_made : (name : List ℕ) → head_of d ≡ Ok name → (arguments : TemplateArguments) → arguments_of (member_of_member (codes "spec") (codes "args") d) ≡ Ok arguments
      → (metrics : List Metric) → marked_metrics d ≡ Ok metrics → template_of d ≡ Ok (template_with name arguments metrics)
  template_made name named arguments made metrics marked =
      sym (after_arguments name named arguments made) ∙ ap (λ (answer : Result (List Metric) ManifestError). answer >>= λ found. Ok (template_with name arguments found)) marked

  pub counted_refused : (name : List ℕ) → head_of d ≡ Ok name → (refusal : ManifestError) → first_counted d ≡ Err refusal → counted_of d ≡ Err refusal
  counted_refused name named refusal refused = sym (ap (λ head. head >>= λ found. counted_of d) named) ∙ refused

-- ---- the limits of a metric

module _ (i : ℕ) (d : Data) where
  abbrev limits_with : (both others : Option Limit × Option Limit) → MetricLimits
  limits_with both others = record { count = both.0; failure = both.1; inconclusive = others.0; consecutive_error = others.1 }

  abbrev first_limits : Result (Option Limit × Option Limit) ManifestError
  first_limits = two_limits (BadField i) (codes "count") (codes "failureLimit") d

  abbrev other_limits : Result (Option Limit × Option Limit) ManifestError
  other_limits = two_limits (BadField i) (codes "inconclusiveLimit") (codes "consecutiveErrorLimit") d

  abbrev with_others : Option Limit × Option Limit → Result MetricLimits ManifestError
  with_others both = other_limits >>= λ others. Ok (limits_with both others)

  by_limits : {E : Type 0} (a b c e : Result (Option Limit) E)
      → (a >>= λ count. b >>= λ failure. c >>= λ inconclusive. e >>= λ error. Ok (limits_with (pair_of count failure) (pair_of inconclusive error)))
      ≡ ((a >>= λ count. b >>= λ failure. Ok (pair_of count failure)) >>= λ both. (c >>= λ inconclusive. e >>= λ error. Ok (pair_of inconclusive error)) >>= λ others. Ok (limits_with both others))
  by_limits (Ok x) (Ok y) c e = paired c e (λ z w. Ok (limits_with (pair_of x y) (pair_of z w)))
  by_limits (Ok x) (Err refusal) c e = refl
  by_limits (Err refusal) b c e = refl

  metric_limits-parts : metric_limits i d ≡ (first_limits >>= with_others)
  unfolding metric_limits
  metric_limits-parts = by_limits (limit_or (BadField i) (member (codes "count") d)) (limit_or (BadField i) (member (codes "failureLimit") d))
      (limit_or (BadField i) (member (codes "inconclusiveLimit") d)) (limit_or (BadField i) (member (codes "consecutiveErrorLimit") d))

  pub first_limits_refused : (refusal : ManifestError) → Unless (is_memory refusal) (first_limits ≡ Err refusal) → Unless (is_memory refusal) (metric_limits i d ≡ Err refusal)
  first_limits_refused refusal refused = refuses_first (is_memory refusal) refusal first_limits with_others (metric_limits i d) refused (sym metric_limits-parts)

  after_first : (both : Option Limit × Option Limit) → first_limits ≡ Ok both → with_others both ≡ metric_limits i d
  after_first both made = sym (metric_limits-parts ∙ ap (λ answer. answer >>= with_others) made)

  pub other_limits_refused : (both : Option Limit × Option Limit) → first_limits ≡ Ok both → (refusal : ManifestError)
      → Unless (is_memory refusal) (other_limits ≡ Err refusal) → Unless (is_memory refusal) (metric_limits i d ≡ Err refusal)
  other_limits_refused both made refusal refused = refuses_first (is_memory refusal) refusal other_limits (λ others. Ok (limits_with both others)) (metric_limits i d) refused (after_first both made)

  pub limits_made : (both : Option Limit × Option Limit) → first_limits ≡ Ok both → (others : Option Limit × Option Limit) → other_limits ≡ Ok others
      → metric_limits i d ≡ Ok (limits_with both others)
  limits_made both made others found =
      sym (after_first both made) ∙ ap (λ (answer : Result (Option Limit × Option Limit) ManifestError). answer >>= λ (others : Option Limit × Option Limit). Ok (limits_with both others)) found

-- ---- a bound metric

module _ (arguments : TemplateArguments) (own : RunArguments) (i : ℕ) (metric : Metric) where
  abbrev bound_with : Option (List ℕ) × Option (List ℕ) → BoundLimits → BoundMetric
  bound_with conditions limits = record {
    name = metric.name;
    success_condition = conditions.0;
    failure_condition = conditions.1;
    failure_limit = limits.failure;
    inconclusive_limit = limits.inconclusive;
    consecutive_error_limit = limits.consecutive_error;
    count = limits.count;
    dry = metric.dry;
  }

  abbrev with_limits : Option (List ℕ) × Option (List ℕ) → Result BoundMetric ManifestError
  with_limits conditions = bound_limits arguments own i metric >>= λ limits. Ok (bound_with conditions limits)

  module _ (made : Option ℕ → Option ℕ → Option ℕ → Option ℕ → BoundLimits) (last : Option ℕ → Result (Option ℕ) ManifestError) (next : BoundLimits → Result BoundMetric ManifestError) where
    by_last : (failure inconclusive error : Option ℕ) (count : Result (Option ℕ) ManifestError)
        → (count >>= λ effective. next (made failure inconclusive error effective)) ≡ ((count >>= λ effective. Ok (made failure inconclusive error effective)) >>= next)
    by_last failure inconclusive error (Ok effective) = refl
    by_last failure inconclusive error (Err e) = refl

    by_limits_bound : (a b c e : Result (Option ℕ) ManifestError)
        → (a >>= λ count. b >>= λ failure. c >>= λ inconclusive. e >>= λ error. last count >>= λ effective. next (made failure inconclusive error effective))
        ≡ ((a >>= λ count. b >>= λ failure. c >>= λ inconclusive. e >>= λ error. last count >>= λ effective. Ok (made failure inconclusive error effective)) >>= next)
    by_limits_bound (Ok count) (Ok failure) (Ok inconclusive) (Ok error) = by_last failure inconclusive error (last count)
    by_limits_bound (Ok count) (Ok failure) (Ok inconclusive) (Err refusal) = refl
    by_limits_bound (Ok count) (Ok failure) (Err refusal) e = refl
    by_limits_bound (Ok count) (Err refusal) c e = refl
    by_limits_bound (Err refusal) b c e = refl

  abbrev limits_of : Option ℕ → Option ℕ → Option ℕ → Option ℕ → BoundLimits
  limits_of failure inconclusive error effective =
      record { failure = unwrap_or failure 0; inconclusive = unwrap_or inconclusive 0; consecutive_error = unwrap_or error 4; count = effective }

  after_conditions : (conditions : Option (List ℕ) × Option (List ℕ))
      → (bound_limit arguments own i metric.limits.count >>= λ count. bound_limit arguments own i metric.limits.failure >>= λ failure. bound_limit arguments own i metric.limits.inconclusive
      >>= λ inconclusive. bound_limit arguments own i metric.limits.consecutive_error >>= λ error. effective_count i metric.has_interval count
      >>= λ effective. Ok (bound_with conditions (limits_of failure inconclusive error effective)))
      ≡ with_limits conditions
  after_conditions conditions =
      by_limits_bound limits_of (effective_count i metric.has_interval) (λ limits. Ok (bound_with conditions limits)) (bound_limit arguments own i metric.limits.count) (bound_limit arguments own i metric.limits.failure)
      (bound_limit arguments own i metric.limits.inconclusive) (bound_limit arguments own i metric.limits.consecutive_error)

  by_conditions : (success failure : Result (Option (List ℕ)) ManifestError)
      → (success >>= λ x. failure >>= λ y. bound_limit arguments own i metric.limits.count >>= λ count. bound_limit arguments own i metric.limits.failure >>= λ failures.
      bound_limit arguments own i metric.limits.inconclusive >>= λ inconclusive. bound_limit arguments own i metric.limits.consecutive_error >>= λ error. effective_count i metric.has_interval count
      >>= λ effective. Ok (bound_with (pair_of x y) (limits_of failures inconclusive error effective)))
      ≡ ((success >>= λ x. failure >>= λ y. Ok (pair_of x y)) >>= with_limits)
  by_conditions (Ok x) (Ok y) = after_conditions (pair_of x y)
  by_conditions (Ok x) (Err e) = refl
  by_conditions (Err e) failure = refl

  bound_metric-parts : bound_metric arguments own i metric ≡ (bound_conditions arguments own i metric >>= with_limits)
  unfolding bound_metric
  bound_metric-parts = by_conditions (bound_condition arguments own i metric.success_condition) (bound_condition arguments own i metric.failure_condition)

  module _ (shortens : Bool) where
    -- and so is one whose conditions are shortened or whole
    kept_bound-parts : kept_bound arguments own i shortens metric ≡ (kept_conditions arguments own i shortens metric >>= with_limits)
    kept_bound-parts =
        ap (λ answer. answer >>= λ bound. Ok (kept_metric shortens bound)) bound_metric-parts
        ∙ by_answers (bound_condition arguments own i metric.success_condition) (bound_condition arguments own i metric.failure_condition) (bound_limits arguments own i metric)
      where
        same_kept : (whole : Bool) (success failure : Option (List ℕ)) (limits : BoundLimits)
            → kept_metric whole (bound_with (pair_of success failure) limits) ≡ bound_with (pair_of (kept whole success) (kept whole failure)) limits
        same_kept false success failure limits = refl
        same_kept true success failure limits = refl

        by_answers : (success failure : Result (Option (List ℕ)) ManifestError) (limits : Result BoundLimits ManifestError)
            → (((success >>= λ x. failure >>= λ y. Ok (pair_of x y)) >>= λ both. limits >>= λ made. Ok (bound_with both made)) >>= λ bound. Ok (kept_metric shortens bound))
            ≡ (((success >>= λ x. Ok (kept shortens x)) >>= λ x. (failure >>= λ y. Ok (kept shortens y)) >>= λ y. Ok (pair_of x y)) >>= λ both. limits >>= λ made. Ok (bound_with both made))
        by_answers (Ok success) (Ok failure) (Ok limits) = ap (λ (bound : BoundMetric). Ok bound) (same_kept shortens success failure limits)
        by_answers (Ok success) (Ok failure) (Err refusal) = refl
        by_answers (Ok success) (Err refusal) limits = refl
        by_answers (Err refusal) failure limits = refl

    pub conditions_refused : (refusal : ManifestError) → Unless (is_memory refusal) (kept_conditions arguments own i shortens metric ≡ Err refusal)
        → Unless (is_memory refusal) (kept_bound arguments own i shortens metric ≡ Err refusal)
    conditions_refused refusal refused =
        refuses_first (is_memory refusal) refusal (kept_conditions arguments own i shortens metric) with_limits (kept_bound arguments own i shortens metric) refused (sym kept_bound-parts)

    -- a metric that is refused is refused whether its conditions are shortened or not
    pub kept_refused : (refusal : ManifestError) → bound_metric arguments own i metric ≡ Err refusal → kept_bound arguments own i shortens metric ≡ Err refusal
    kept_refused refusal refused = ap (λ answer. answer >>= λ bound. Ok (kept_metric shortens bound)) refused

    module _ (conditions : Option (List ℕ) × Option (List ℕ)) (are_bound : kept_conditions arguments own i shortens metric ≡ Ok conditions) where
      after_bound : with_limits conditions ≡ kept_bound arguments own i shortens metric
      after_bound = sym (kept_bound-parts ∙ ap (λ answer. answer >>= with_limits) are_bound)

      pub limits_refused : (refusal : ManifestError) → Unless (is_memory refusal) (bound_limits arguments own i metric ≡ Err refusal)
          → Unless (is_memory refusal) (kept_bound arguments own i shortens metric ≡ Err refusal)
      limits_refused refusal refused =
          refuses_first (is_memory refusal) refusal (bound_limits arguments own i metric) (λ limits. Ok (bound_with conditions limits)) (kept_bound arguments own i shortens metric) refused after_bound

      pub metric_made : (limits : BoundLimits) → bound_limits arguments own i metric ≡ Ok limits → kept_bound arguments own i shortens metric ≡ Ok (bound_with conditions limits)
      metric_made limits made = sym after_bound ∙ ap (λ (answer : Result BoundLimits ManifestError). answer >>= λ (found : BoundLimits). Ok (bound_with conditions found)) made

      -- a refusal after the conditions is one of the limits
      pub refused_by_limits : (refusal : ManifestError) → bound_metric arguments own i metric ≡ Err refusal → bound_limits arguments own i metric ≡ Err refusal
      refused_by_limits refusal refused = by_answer (bound_limits arguments own i metric) (after_bound ∙ kept_refused refusal refused)
        where
          by_answer : (answer : Result BoundLimits ManifestError) → (answer >>= λ limits. Ok (bound_with conditions limits)) ≡ Err refusal → answer ≡ Err refusal
          by_answer (Ok limits) e = cc
          by_answer (Err fault) e = let same : fault ≡ refusal = cc in ap (λ refused. Err refused) same

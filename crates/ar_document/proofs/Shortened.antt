-- Runs whose conditions were bound shortened have the result that they have whole.
use Rattle.std.proofs.Common.{◌≡◌, ℕ, List, [], ◌∷◌, length, map, take, Option, Some, None, Result, Ok, Err, refl, sym, ◌∙◌, ap, subst}
use Rattle.std.specs.Prelude.{IfOk, slice_get, option_map}
use Rattle.std.proofs.lemmas.List.{length-map, take-map}
use Rattle.std.proofs.lemmas.Option.{slice_get-map}
use Rattle.ar_value.specs.Answer.{◌>>=◌, IfRefused}
use Rattle.ar_value.specs.View.{shape_view}
use Rattle.ar_manifest.specs.Binding.{RunArguments}
use Rattle.ar_manifest.specs.Bound.{bound_of}
use Rattle.ar_manifest.specs.Shortened.{shortened_metric, shortened_of}
use Rattle.ar_manifest.specs.declared.bound.BoundMetric.{BoundMetric}
use Rattle.ar_manifest.specs.declared.error.ManifestError.{ManifestError}
use Rattle.ar_manifest.specs.declared.template.Template.{Template}
use Rattle.ar_judge.specs.Saying.{refused_as}
use Rattle.ar_judge.specs.Verdict.{Judge}
use Rattle.ar_judge.proofs.Shortened.{judges_whole, refuses_whole}
use Rattle.ar_limits.specs.declared.limits.Limits.{Limits}
use Rattle.ar_bundle.specs.declared.bundle.MetricPart.{MetricPart}
use Rattle.ar_document.specs.Opening.{Metric, Opened as Parts, metric_view}
use Rattle.ar_document.specs.Parts.{AreJudges, IsPart, RefusesRun, limits_of}
use Rattle.ar_document.specs.Private.Opened.{opened_with}
use Rattle.ar_document.specs.Private.Parts.{RefusesJudge, RefusesJudges, part_with}
use Rattle.ar_document.specs.declared.error.BundleError.{BundleError}
use Rattle.ar_document.specs.declared.error.BundleError.TheVariants.{Bind, Build}
use Rattle.ar_document.specs.declared.runs.Run.{Run}
use Rattle.ar_value.proofs.Steps.{leads}
use Rattle.ar_document.specs.Document.{is_bundle_memory}
use Rattle.ar_document.proofs.Refusing.{run_refused}
use Rattle.ar_document.proofs.Templates.{bound_many}

-- ---- the metrics of a run

-- the metrics of a template as they are bound whole, where they are bound shortened
pub record IsShortened (template : Template) (own : RunArguments) (bound : List BoundMetric) : Type 0 where
  pub whole : List BoundMetric
  pub is_bound : bound_of template own ≡ Ok whole
  pub shorter : bound ≡ map shortened_metric whole

pub is_shortened : (template : Template) (own : RunArguments) (bound : List BoundMetric) (number : ℕ) → refused_as (Bind number) (shortened_of template own) ≡ Ok bound → IsShortened template own bound
unfolding shortened_of
is_shortened template own bound number is = by_answer (bound_of template own) refl is
  where
    by_answer : (answer : Result (List BoundMetric) ManifestError) → bound_of template own ≡ answer → refused_as (Bind number) (answer >>= λ metrics. Ok (map shortened_metric metrics)) ≡ Ok bound
        → IsShortened template own bound
    by_answer (Ok whole) made same = record { whole = whole; is_bound = made; shorter = let shorter : bound ≡ map shortened_metric whole = cc in shorter }
    by_answer (Err refusal) made same = absurd cc

pub shortened_many : (template : Template) (own : RunArguments) (bound : List BoundMetric) → IsShortened template own bound → length bound ≡ length template.metrics
shortened_many template own bound is = ap length is.shorter ∙ length-map is.whole shortened_metric ∙ bound_many template own is.whole is.is_bound

same_limits : (whole : List BoundMetric) → map limits_of (map shortened_metric whole) ≡ map limits_of whole
same_limits [] = refl
same_limits (metric ∷ whole) = ap (λ (rest : List Limits). limits_of metric ∷ rest) (same_limits whole)

-- ---- judges

are_judges_whole : (metrics : List Metric) (whole : List BoundMetric) (judges : List Judge) → AreJudges metrics (map shortened_metric whole) judges → AreJudges metrics whole judges
are_judges_whole [] [] [] are = tt
are_judges_whole (metric ∷ metrics) (bound ∷ whole) (judge ∷ judges) are =
    (judges_whole metric.shape bound.success_condition bound.failure_condition judge are.0, are_judges_whole metrics whole judges are.1)
are_judges_whole [] [] (judge ∷ judges) are = absurd are
are_judges_whole [] (bound ∷ whole) judges are = absurd are
are_judges_whole (metric ∷ metrics) [] judges are = absurd are
are_judges_whole (metric ∷ metrics) (bound ∷ whole) [] are = absurd are

-- a part of a run with shortened conditions is its part
part_whole : (template : Template) (metrics : List MetricPart) (all : List Run) (run : Run) (bound : List BoundMetric) (judged : List Judge × List Limits) → IsShortened template run.own bound
    → AreJudges (map metric_view metrics) bound judged.0 → judged.1 ≡ map limits_of bound → IsPart (opened_with template metrics all) run (part_with run judged)
part_whole template metrics all run bound judged is are limits = record {
  bound = is.whole;
  is_bound = is.is_bound;
  name = refl;
  judges = are_judges_whole (map metric_view metrics) is.whole judged.0 (subst (λ (bound : List BoundMetric). AreJudges (map metric_view metrics) bound judged.0) is.shorter are);
  limits = limits ∙ ap (map limits_of) is.shorter ∙ same_limits is.whole;
}

pub judged_whole : (template : Template) (metrics : List MetricPart) (all : List Run) (run : Run) (bound : List BoundMetric) (result : Result (List Judge × List Limits) BundleError) → IsShortened template run.own bound
    → IfOk result (λ judged. AreJudges (map metric_view metrics) bound judged.0) → IfOk result (λ judged. judged.1 ≡ map limits_of bound) → IfOk result (λ judged. IsPart (opened_with template metrics all) run (part_with run judged))
judged_whole template metrics all run bound (Ok judged) is are limits = part_whole template metrics all run bound judged is are limits
judged_whole template metrics all run bound (Err refusal) is are limits = tt

-- ---- refusals

-- arguments that can't be bound
pub bind_refused : (opened : Parts) (number : ℕ) (run : Run) (error : BundleError) → refused_as (Bind number) (shortened_of opened.template run.own) ≡ Err error → RefusesRun opened number run error
unfolding shortened_of
bind_refused opened number run error is = by_answer (bound_of opened.template run.own) refl is
  where
    by_answer : (answer : Result (List BoundMetric) ManifestError) → bound_of opened.template run.own ≡ answer → refused_as (Bind number) (answer >>= λ metrics. Ok (map shortened_metric metrics)) ≡ Err error
        → RefusesRun opened number run error
    by_answer (Ok whole) made same = absurd cc
    by_answer (Err refusal) made same = let named : Bind number refusal ≡ error = cc in subst (RefusesRun opened number run) named (refl, made)

judge_refused : (run number : ℕ) (metric : MetricPart) (bound : BoundMetric) (error : BundleError) → RefusesJudge run number metric (shortened_metric bound) error → RefusesJudge run number metric bound error
judge_refused run number metric bound (Build named_run named error) refused =
    (refused.0, refused.1, refused.2, refuses_whole (shape_view metric.shape) bound.success_condition bound.failure_condition error refused.3)
judge_refused run number metric bound error refused = absurd refused

found_whole : (found : Option BoundMetric) (own : BoundMetric) → option_map shortened_metric found ≡ Some own → (whole : BoundMetric) × (found ≡ Some whole) × (shortened_metric whole ≡ own)
found_whole (Some whole) own is = (whole, refl, cc)
found_whole None own is = absurd cc

-- conditions that can't be built
judges_refused : (run : ℕ) (metrics : List MetricPart) (whole : List BoundMetric) (error : BundleError) → RefusesJudges run metrics (map shortened_metric whole) error → RefusesJudges run metrics whole error
judges_refused run metrics whole error refused =
    let own = found_whole (slice_get whole refused.number) refused.own (sym (slice_get-map shortened_metric whole refused.number) ∙ refused.own_is) in
    record {
      number = refused.number;
      earlier = refused.earlier;
      are_judges = are_judges_whole (map metric_view (take refused.number metrics)) (take refused.number whole) refused.earlier
          (subst (λ (bound : List BoundMetric). AreJudges (map metric_view (take refused.number metrics)) bound refused.earlier) (take-map shortened_metric refused.number whole) refused.are_judges);
      metric = refused.metric;
      metric_is = refused.metric_is;
      own = own.0;
      own_is = own.1;
      refused = judge_refused run refused.number refused.metric own.0 error (subst (λ (bound : BoundMetric). RefusesJudge run refused.number refused.metric bound error) (sym own.2) refused.refused);
    }

shortened_refused : (template : Template) (metrics : List MetricPart) (all : List Run) (number : ℕ) (run : Run) (bound : List BoundMetric) (error : BundleError) → IsShortened template run.own bound → RefusesJudges number metrics bound error
    → RefusesRun (opened_with template metrics all) number run error
shortened_refused template metrics all number run bound error is refused =
    run_refused template metrics all number run is.whole error is.is_bound
    (judges_refused number metrics is.whole error (subst (λ (bound : List BoundMetric). RefusesJudges number metrics bound error) is.shorter refused))

pub judged_refused : {A : Type 0} (template : Template) (metrics : List MetricPart) (all : List Run) (number : ℕ) (run : Run) (bound : List BoundMetric) (result : Result A BundleError) → IsShortened template run.own bound
    → IfRefused is_bundle_memory result (RefusesJudges number metrics bound) → IfRefused is_bundle_memory result (RefusesRun (opened_with template metrics all) number run)
judged_refused template metrics all number run bound (Ok judged) is refused = tt
judged_refused template metrics all number run bound (Err refusal) is refused = leads (is_bundle_memory refusal) (shortened_refused template metrics all number run bound refusal is) refused

-- The parts of a document are a bundle.
use Rattle.ar_judge.specs.Condition.{Condition}
use Rattle.std.proofs.Common.{◌≡◌, ◌≤◌, ℕ, suc, List, [], ◌∷◌, length, map, Option, Some, None, refl, ◌∙◌, ap}
use Rattle.std.specs.List.{AllByRecursion}
use Rattle.std.specs.Prelude.{IfSome}
use Rattle.std.proofs.lemmas.List.{length-map}
use Rattle.std.proofs.lemmas.List.Elements.{All-from_recursion}
use Rattle.ar_manifest.specs.declared.bound.BoundMetric.{BoundMetric}
use Rattle.ar_value.specs.Shape.{Shape}
use Rattle.ar_value.specs.View.{shape_view}
use Rattle.ar_limits.specs.declared.limits.Limits.{Limits}
use Rattle.ar_judge.specs.Verdict.{AreBuilt, IsJudge, Judge}
use Rattle.ar_bundle.specs.Sound.{IsOfShape, IsRun, JudgesEach, JudgesShape}
use Rattle.ar_bundle.specs.declared.bundle.MetricPart.{MetricPart}
use Rattle.ar_bundle.specs.declared.bundle.RunPart.{RunPart}
use Rattle.ar_document.specs.Opening.{metric_view}
use Rattle.ar_document.specs.Private.Opened.{opened_view}
use Rattle.ar_document.specs.Parts.{AreJudges, HaveParts, IsPart, limits_of}
use Rattle.ar_document.specs.declared.opening.Opened.{Opened}
use Rattle.ar_document.specs.declared.runs.Run.{Run}
use Rattle.ar_document.proofs.Templates.{IsPositive, positive_counts}

condition_of_shape : (shape : Shape) (text : Option (List ℕ)) (condition : Option Condition) → AreBuilt shape text condition → IsOfShape shape condition
condition_of_shape shape (Some text) (Some condition) is = is.shape_is
condition_of_shape shape None None is = tt
condition_of_shape shape (Some text) None is = absurd is
condition_of_shape shape None (Some condition) is = absurd is

of_shape : (shape : Shape) (success failure : Option (List ℕ)) (judge : Judge) → IsJudge shape success failure judge → JudgesShape shape judge
of_shape shape success failure judge is = (condition_of_shape shape success judge.success is.success_is, condition_of_shape shape failure judge.failure is.failure_is)

judges_each : (metrics : List MetricPart) (bound : List BoundMetric) (judges : List Judge) → AreJudges (map metric_view metrics) bound judges → JudgesEach metrics judges
judges_each [] [] [] are = tt
judges_each (metric ∷ metrics) (own ∷ bound) (judge ∷ judges) are = (of_shape (shape_view metric.shape) own.success_condition own.failure_condition judge are.0, judges_each metrics bound judges are.1)
judges_each [] [] (judge ∷ judges) are = absurd are
judges_each [] (own ∷ bound) judges are = absurd are
judges_each (metric ∷ metrics) [] judges are = absurd are
judges_each (metric ∷ metrics) (own ∷ bound) [] are = absurd are

as_many_bound : (metrics : List MetricPart) (bound : List BoundMetric) (judges : List Judge) → AreJudges (map metric_view metrics) bound judges → length bound ≡ length metrics
as_many_bound [] [] [] are = refl
as_many_bound (metric ∷ metrics) (own ∷ bound) (judge ∷ judges) are = ap (λ n. suc n) (as_many_bound metrics bound judges are.1)
as_many_bound [] [] (judge ∷ judges) are = absurd are
as_many_bound [] (own ∷ bound) judges are = absurd are
as_many_bound (metric ∷ metrics) [] judges are = absurd are
as_many_bound (metric ∷ metrics) (own ∷ bound) [] are = absurd are

positive_limits : (bound : List BoundMetric) → AllByRecursion (λ metric. IsPositive metric.count) bound → AllByRecursion (λ (limit : Limits). IfSome limit.count (λ count. 1 ≤ count)) (map limits_of bound)
positive_limits [] all = tt
positive_limits (metric ∷ bound) all = (all.0, positive_limits bound all.1)

-- the part of a run has a judge and limits for each metric
is_run : (opened : Opened) (run : Run) (part : RunPart) → IsPart (opened_view opened) run part → IsRun opened.metrics.items part
is_run opened run part is = record {
  judges = judges_each opened.metrics.items is.bound part.judges is.judges;
  limits = ap length is.limits ∙ length-map is.bound limits_of ∙ as_many_bound opened.metrics.items is.bound part.judges is.judges;
  counts = rw is.limits (All-from_recursion _ (map limits_of is.bound) (positive_limits is.bound (positive_counts opened.template run.own is.bound is.is_bound)));
}

pub are_runs : (opened : Opened) (runs : List Run) (parts : List RunPart) → HaveParts (opened_view opened) runs parts → AllByRecursion (IsRun opened.metrics.items) parts
are_runs opened [] [] are = tt
are_runs opened (run ∷ runs) (part ∷ parts) are = (is_run opened run part are.0, are_runs opened runs parts are.1)
are_runs opened [] (part ∷ parts) are = absurd are
are_runs opened (run ∷ runs) [] are = absurd are

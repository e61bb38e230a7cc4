-- Parts of runs, while they are made.
use Rattle.std.specs.Prelude.{◌≡◌, ◌≢◌, ℕ, List, map, take, slice_get, Some}
use Rattle.ar_value.specs.View.{shape_view}
use Rattle.ar_manifest.specs.declared.bound.BoundMetric.{BoundMetric}
use Rattle.ar_judge.specs.Verdict.{Judge, RefusesTexts}
use Rattle.ar_limits.specs.declared.limits.Limits.{Limits}
use Rattle.ar_judge.specs.declared.error.BuildError.TheVariants as build
use Rattle.ar_bundle.specs.declared.bundle.MetricPart.{MetricPart}
use Rattle.ar_bundle.specs.declared.bundle.RunPart.{RunPart}
use Rattle.ar_document.specs.Opening.{metric_view}
use Rattle.ar_document.specs.Parts.{AreJudges}
use Rattle.ar_document.specs.declared.error.BundleError.{BundleError}
use Rattle.ar_document.specs.declared.error.BundleError.TheVariants.{Build}
use Rattle.ar_document.specs.declared.runs.Run.{Run}

-- the part of a run with these judges and limits
abbrev pub part_with : Run → List Judge × List Limits → RunPart
part_with run judged = record { name = run.name; judges = judged.0; limits = judged.1 }

-- the conditions of the metric with a number can't be built
abbrev pub RefusesJudge : (run number : ℕ) → MetricPart → BoundMetric → BundleError → Type 0
RefusesJudge run number metric bound (Build named_run named error) =
    (named_run ≡ run) × (named ≡ number) × (error ≢ build.OutOfMemory)
    × RefusesTexts (shape_view metric.shape) bound.success_condition bound.failure_condition error
RefusesJudge run number metric bound error = ⊥

-- those of a metric can't be built, and those of the metrics before it can
pub record RefusesJudges (run : ℕ) (metrics : List MetricPart) (bound : List BoundMetric)
    (error : BundleError) : Type 0 where
  pub number : ℕ
  pub earlier : List Judge
  pub are_judges : AreJudges (map metric_view (take number metrics)) (take number bound) earlier
  pub metric : MetricPart
  pub metric_is : slice_get metrics number ≡ Some metric
  pub own : BoundMetric
  pub own_is : slice_get bound number ≡ Some own
  pub refused : RefusesJudge run number metric own error

-- What the runs of a document are read as: of each, its template is bound to its arguments, and each metric has a judge
-- and limits. Of the runs, and of the metrics of one, the first that is refused is named.
use Rattle.std.specs.Prelude.{◌≡◌, ◌≢◌, ℕ, List, [], ◌∷◌, map, take, slice_get, Some, Ok, Err}
use Rattle.ar_manifest.specs.Bound.{bound_of}
use Rattle.ar_manifest.specs.declared.bound.BoundMetric.{BoundMetric}
use Rattle.ar_judge.specs.Verdict.{IsJudge, Judge, RefusesTexts}
use Rattle.ar_judge.specs.declared.error.BuildError.{BuildError}
use Rattle.ar_judge.specs.declared.error.BuildError.TheVariants as build
use Rattle.ar_limits.specs.declared.limits.Limits.{Limits}
use Rattle.ar_bundle.specs.declared.bundle.RunPart.{RunPart}
use Rattle.ar_document.specs.Opening.{Metric, Opened}
use Rattle.ar_document.specs.declared.error.BundleError.{BundleError}
use Rattle.ar_document.specs.declared.error.BundleError.TheVariants.{Bind, Build}
use Rattle.ar_document.specs.declared.runs.Run.{Run}

-- ---- a run's part of the bundle

abbrev pub limits_of : BoundMetric → Limits
limits_of metric =
    record {
      failure = metric.failure_limit;
      inconclusive = metric.inconclusive_limit;
      consecutive_error = metric.consecutive_error_limit;
      count = metric.count;
      dry = metric.dry;
    }

-- each metric has the judge of its bound conditions under its shape
abbrev pub AreJudges : List Metric → List BoundMetric → List Judge → Type 0
AreJudges [] [] [] = Unit {0}
AreJudges (metric ∷ metrics) (bound ∷ others) (judge ∷ judges) =
    IsJudge metric.shape bound.success_condition bound.failure_condition judge × AreJudges metrics others judges
AreJudges metrics bound judges = ⊥

pub record IsPart (opened : Opened) (run : Run) (part : RunPart) : Type 0 where
  pub bound : List BoundMetric
  pub is_bound : bound_of opened.template run.own ≡ Ok bound
  pub name : part.name ≡ run.name
  pub judges : AreJudges opened.metrics bound part.judges
  pub limits : part.limits ≡ map limits_of bound

-- each run has its part
abbrev pub HaveParts : Opened → List Run → List RunPart → Type 0
HaveParts opened [] [] = Unit {0}
HaveParts opened (run ∷ runs) (part ∷ parts) = IsPart opened run part × HaveParts opened runs parts
HaveParts opened runs parts = ⊥

-- ---- the first refusal

-- the conditions of a metric can't be built, and those of the metrics before it can
pub record RefusesMetric (opened : Opened) (run : Run) (number : ℕ) (error : BuildError) : Type 0 where
  pub bound : List BoundMetric
  pub is_bound : bound_of opened.template run.own ≡ Ok bound
  pub earlier : List Judge
  pub are_judges : AreJudges (take number opened.metrics) (take number bound) earlier
  pub metric : Metric
  pub metric_is : slice_get opened.metrics number ≡ Some metric
  pub own : BoundMetric
  pub own_is : slice_get bound number ≡ Some own
  pub not_memory : error ≢ build.OutOfMemory
  pub refused : RefusesTexts metric.shape own.success_condition own.failure_condition error

-- run number so and so is refused
abbrev pub RefusesRun : Opened → (number : ℕ) → Run → BundleError → Type 0
RefusesRun opened number run (Bind named error) = (named ≡ number) × (bound_of opened.template run.own ≡ Err error)
RefusesRun opened number run (Build named metric error) = (named ≡ number) × RefusesMetric opened run metric error
RefusesRun opened number run error = ⊥

-- a run is refused, and those before it have their parts
pub record RefusesRuns (opened : Opened) (error : BundleError) : Type 0 where
  pub number : ℕ
  pub run : Run
  pub run_is : slice_get opened.runs number ≡ Some run
  pub earlier : List RunPart
  pub are_parts : HaveParts opened (take number opened.runs) earlier
  pub refused : RefusesRun opened number run error

-- What holds of every bundle, which of its numbers are judged whatever memory is left, and how many entries each run
-- has.
use Rattle.ar_judge.specs.Condition.{Condition}
use Rattle.std.specs.Prelude.{◌≡◌, ◌<◌, ◌≤◌, ◌==◌, ℕ, suc, true, List, [], ◌∷◌, length, slice_get, Option, Some, IfSome, count_by}
use Rattle.std.specs.List.{AllByRecursion}
use Rattle.ar_value.specs.Fits.{fits}
use Rattle.ar_value.specs.Shape.{Shape}
use Rattle.ar_value.specs.View.{shape_view}
use Rattle.ar_value.specs.Limits.{most_metrics, most_runs}
use Rattle.ar_limits.specs.Replay.{most_events}
use Rattle.ar_judge.specs.Judging.{TakesNoMemory, SampleFits}
use Rattle.ar_judge.specs.Verdict.{Judge, Sample, sample_view}
use Rattle.ar_limits.specs.Metric.{HasPositiveCounts}
use Rattle.ar_bundle.specs.declared.bundle.EventPart.{EventPart}
use Rattle.ar_bundle.specs.declared.bundle.MetricPart.{MetricPart}
use Rattle.ar_bundle.specs.declared.bundle.RunPart.{RunPart}
use Rattle.ar_bundle.specs.declared.bundle.What.{What}
use Rattle.ar_bundle.specs.declared.bundle.What.TheVariants.{Measure, Stop}
use Rattle.ar_bundle.specs.Bundle.{Bundle, judge_at}
use Rattle.ar_bundle.specs.Event.{EventNumber}

-- ---- which parts are a bundle

-- a condition that is there is for a shape
abbrev pub IsOfShape : Shape → Option Condition → Type 0
IsOfShape shape condition = IfSome condition (λ condition. shape_view condition.verified.shape ≡ shape)

-- the conditions of a judge are for a shape
abbrev pub JudgesShape : Shape → Judge → Type 0
JudgesShape shape judge = IsOfShape shape judge.success × IsOfShape shape judge.failure

-- one judge for each metric, of its shape
abbrev pub JudgesEach : List MetricPart → List Judge → Type 0
JudgesEach [] [] = Unit {0}
JudgesEach (metric ∷ metrics) (judge ∷ judges) = JudgesShape (shape_view metric.shape) judge × JudgesEach metrics judges
JudgesEach metrics judges = ⊥

-- one judge and one set of limits for each metric
pub record IsRun (metrics : List MetricPart) (run : RunPart) : Type 0 where
  pub judges : JudgesEach metrics run.judges
  pub limits : length run.limits ≡ length metrics
  pub counts : HasPositiveCounts run.limits

-- a measured value fits a shape, and a misfit is never out of memory
abbrev pub SampleSuits : Shape → Sample → Type 0
SampleSuits shape sample = SampleFits (λ value. fits value shape ≡ true) sample

-- a sample of a metric that is there
pub record SuitsMetric (metrics : List MetricPart) (metric : ℕ) (sample : Sample) : Type 0 where
  pub part : MetricPart
  pub there : slice_get metrics metric ≡ Some part
  pub suits : SampleSuits (shape_view part.shape) sample

-- an event of a bundle with these metrics: a sample that suits its metric, or a stop
abbrev pub CanHappen : List MetricPart → What → Type 0
CanHappen metrics (Measure metric sample) = SuitsMetric metrics metric (sample_view sample)
CanHappen metrics Stop = Unit {0}

pub record FitsBundle (metrics : List MetricPart) (runs : ℕ) (entry : EventPart) : Type 0 where
  pub run : entry.run < runs
  pub what : CanHappen metrics entry.what

pub record IsBundle (bundle : Bundle) : Type 0 where
  pub few_metrics : length bundle.metrics ≤ most_metrics
  pub few_runs : length bundle.runs ≤ most_runs
  pub few_events : length bundle.entries ≤ most_events
  pub runs : AllByRecursion (IsRun bundle.metrics) bundle.runs
  pub entries : AllByRecursion (FitsBundle bundle.metrics (length bundle.runs)) bundle.entries

-- what happens is found without memory: it is a stop, or judging its sample takes none
abbrev pub NeedsNoMemory : Bundle → (run : ℕ) → What → Type 0
NeedsNoMemory bundle run (Measure metric sample) =
    IfSome (judge_at bundle run metric) (λ judge. TakesNoMemory judge (sample_view sample))
NeedsNoMemory bundle run Stop = Unit {0}

-- and so is a number
abbrev pub FoundWithoutMemory : Bundle → (number : EventNumber) → Type 0
FoundWithoutMemory bundle number =
    IfSome (slice_get bundle.entries number) (λ entry. NeedsNoMemory bundle entry.run entry.what)

-- ---- how many entries the runs have

-- the entries of a run
abbrev pub count_of : List EventPart → (run : ℕ) → ℕ
count_of entries run = count_by (λ entry. entry.run == run) entries

abbrev pub entries_of : Bundle → (run : ℕ) → ℕ
entries_of bundle run = count_of bundle.entries run

-- how many entries each run has, counting runs from one
abbrev pub sizes_from : List EventPart → (from : ℕ) → List RunPart → List ℕ
sizes_from entries from [] = []
sizes_from entries from (run ∷ runs) = count_of entries from ∷ sizes_from entries (suc from) runs

abbrev pub sizes_of : Bundle → List ℕ
sizes_of bundle = sizes_from bundle.entries 0 bundle.runs

-- Conditions that the parts of earlier runs have, while those of later runs are made.
use Rattle.ar_judge.specs.Condition.{Condition}
use Rattle.std.specs.Prelude.{◌≡◌, ℕ, List, slice_get, Some}
use Rattle.ar_value.specs.View.{shape_view}
use Rattle.ar_judge.specs.Built.{IsBuilt}
use Rattle.ar_judge.specs.Judging.{condition_as}
use Rattle.ar_judge.specs.Verdict.{Judge}
use Rattle.ar_judge.specs.declared.judge.Which.{Which}
use Rattle.ar_bundle.specs.declared.bundle.MetricPart.{MetricPart}
use Rattle.ar_bundle.specs.declared.bundle.RunPart.{RunPart}

-- a run has the condition for the metric with a number
pub record IsOfRun (part : RunPart) (which : Which) (number : ℕ) (condition : Condition) : Type 0 where
  pub judge : Judge
  pub judge_is : slice_get part.judges number ≡ Some judge
  pub is : condition_as which judge ≡ Some condition

pub record IsOfEarlier (earlier : List RunPart) (which : Which) (number : ℕ) (condition : Condition) : Type 0 where
  pub run : ℕ
  pub part : RunPart
  pub part_is : slice_get earlier run ≡ Some part
  pub is : IsOfRun part which number condition

-- each such condition of a metric is built of its own text, under the metric's shape
abbrev pub AreOfTheirTexts : (number : ℕ) → MetricPart → (earlier : List RunPart) → Type 0
AreOfTheirTexts number metric earlier = (which : Which) (condition : Condition)
    → IsOfEarlier earlier which number condition → IsBuilt (shape_view metric.shape) condition.text condition

abbrev pub AllOfTheirTexts : List MetricPart → (earlier : List RunPart) → Type 0
AllOfTheirTexts metrics earlier = (number : ℕ) (metric : MetricPart) → slice_get metrics number ≡ Some metric
    → AreOfTheirTexts number metric earlier

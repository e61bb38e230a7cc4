-- Samples that suit the shape that a judge was built under.
use Rattle.ar_judge.specs.Condition.{Condition}
use Rattle.std.proofs.Common.{ℕ, List, Option, Some, None}
use Rattle.ar_value.specs.Shape.{Shape}
use Rattle.ar_judge.specs.Judging.{Suits}
use Rattle.ar_judge.specs.Verdict.{AreBuilt, IsJudge, Judge, Sample}
use Rattle.ar_bundle.specs.Sound.{IsOfShape, JudgesShape, SampleSuits}
use Rattle.ar_bundle.proofs.Bundles.{sample_suits}

condition_of_shape : (shape : Shape) (text : Option (List ℕ)) (condition : Option Condition) → AreBuilt shape text condition → IsOfShape shape condition
condition_of_shape shape (Some text) (Some condition) is = is.shape_is
condition_of_shape shape None None is = tt
condition_of_shape shape (Some text) None is = absurd is
condition_of_shape shape None (Some condition) is = absurd is

pub of_shape : (shape : Shape) (success failure : Option (List ℕ)) (judge : Judge) → IsJudge shape success failure judge → JudgesShape shape judge
of_shape shape success failure judge is = (condition_of_shape shape success judge.success is.success_is, condition_of_shape shape failure judge.failure is.failure_is)

pub suits : (shape : Shape) (judge : Judge) (sample : Sample) → JudgesShape shape judge → SampleSuits shape sample → Suits judge sample
suits shape judge sample is suit = sample_suits shape judge sample is suit

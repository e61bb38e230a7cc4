-- The trees of a run's conditions.
use Rattle.std.proofs.Common.{◌≡◌, ℕ, List, [], map, Option, None, Some, refl, sym, ◌∙◌, ap}
use Rattle.std.specs.Prelude.{option_and_then, option_map, slice_get}
use Rattle.std.specs.Option.{option_map_or}
use Rattle.std.proofs.lemmas.Option.{slice_get-map}
use Rattle.ar_bundle.specs.Bundle.{Bundle, judge_at}
use Rattle.ar_bundle.specs.declared.bundle.RunPart.{RunPart}
use Rattle.ar_evaluation.specs.Private.Trees.{JudgeTrees, trees_of, judge_trees_view}
use Rattle.ar_reason.specs.Private.Trees.{run_trees}
use Rattle.ar_evaluation.specs.declared.trees.JudgeTrees.{JudgeTrees as TreesCode}

-- the trees of a metric's conditions are those of its judge
pub trees_at : (bundle : Bundle) (run metric : ℕ) (trees : List TreesCode) → map judge_trees_view trees ≡ run_trees bundle run → option_map judge_trees_view (slice_get trees metric) ≡ option_map trees_of (judge_at bundle run metric)
trees_at bundle run metric trees are = sym (slice_get-map judge_trees_view trees metric) ∙ (ap (λ (all : List JudgeTrees). slice_get all metric) are ∙ by_part (slice_get bundle.runs run)) where
  by_part : (part : Option RunPart) → slice_get (option_map_or (λ (run : RunPart). map trees_of run.judges) part []) metric ≡ option_map trees_of (option_and_then (λ (run : RunPart). slice_get run.judges metric) part)
  by_part (Some part) = slice_get-map trees_of part.judges metric
  by_part None = refl

-- the trees of a run that is there
pub trees_are : (bundle : Bundle) (number : ℕ) (run : RunPart) (trees : List TreesCode) → slice_get bundle.runs number ≡ Some run → map judge_trees_view trees ≡ map trees_of run.judges → map judge_trees_view trees ≡ run_trees bundle number
trees_are bundle number run trees there are = are ∙ sym (ap (λ (part : Option RunPart). option_map_or (λ (run : RunPart). map trees_of run.judges) part []) there)

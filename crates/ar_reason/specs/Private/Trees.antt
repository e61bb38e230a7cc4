-- The trees of the conditions of a run.
use Rattle.std.specs.Prelude.{ℕ, List, [], map, slice_get}
use Rattle.std.specs.Option.{option_map_or}
use Rattle.ar_bundle.specs.Bundle.{Bundle}
use Rattle.ar_bundle.specs.declared.bundle.RunPart.{RunPart}
use Rattle.ar_evaluation.specs.Private.Trees.{JudgeTrees, trees_of}

-- of the judges of a run
abbrev pub run_trees : Bundle → (run : ℕ) → List JudgeTrees
run_trees bundle run = option_map_or (λ (run : RunPart). map trees_of run.judges) (slice_get bundle.runs run) []

-- The trees of conditions, each where the condition is there and its text has a tree.
use Rattle.std.specs.Prelude.{Option, Some, None, Result, Ok, Err, option_map}
use Rattle.ar_judge.specs.Condition.{Condition}
use Rattle.ar_judge.specs.Saying.{typed_text}
use Rattle.ar_judge.specs.Verdict.{Judge}
use Rattle.ar_judge.specs.declared.error.BuildCause.{BuildCause}
use Rattle.ar_evaluation.specs.declared.trees.JudgeTrees.{JudgeTrees as TreesCode}
use Rattle.ar_tree.specs.Typed.{Typed}
use Rattle.ar_tree.specs.Views.{typed_view}
use Rattle.ar_value.specs.View.{shape_view}

abbrev pub tree_in : Result Typed BuildCause → Option Typed
tree_in (Ok tree) = Some tree
tree_in (Err cause) = None

abbrev pub condition_tree : Option Condition → Option Typed
condition_tree None = None
condition_tree (Some condition) = tree_in (typed_text (shape_view condition.verified.shape) condition.text)

-- of both conditions of a judge
pub record JudgeTrees : Type 0 where
  pub success : Option Typed
  pub failure : Option Typed

abbrev pub trees_of : Judge → JudgeTrees
trees_of judge = record { success = condition_tree judge.success; failure = condition_tree judge.failure }

abbrev pub judge_trees_view : TreesCode → JudgeTrees
judge_trees_view trees =
    record { success = option_map typed_view trees.success; failure = option_map typed_view trees.failure }

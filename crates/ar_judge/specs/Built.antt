-- What a text is built to under the shape of the measured value.
use Rattle.ar_judge.specs.Condition.{Condition}
use Rattle.std.specs.Prelude.{◌≡◌, ◌≤◌}
use Rattle.ar_value.specs.Terms.{Text}
use Rattle.ar_value.specs.Shape.{Shape}
use Rattle.ar_value.specs.View.{shape_view}
use Rattle.ar_value.specs.Limits.{most_code_entries}
use Rattle.ar_tree.specs.Typed.{Typed}
use Rattle.ar_compile.specs.Compiled.{compiled}
use Rattle.ar_compile.specs.Length.{length_of}
use Rattle.ar_safety.specs.Verdict.{IsVerified}
use Rattle.ar_judge.specs.Text.{HasTree}

-- this is the condition of a text where `result` has a shape: the verifier accepts the code of its typed tree
pub record IsBuilt (shape : Shape) (text : Text) (condition : Condition) : Type 0 where
  pub text_is : condition.text ≡ text
  pub shape_is : shape_view condition.verified.shape ≡ shape
  pub tree : Typed
  pub has_tree : HasTree shape text tree
  pub short : length_of tree ≤ most_code_entries
  pub code_is : condition.verified.code ≡ compiled tree
  pub accepted : IsVerified (compiled tree) shape condition.verified.budget condition.verified.depth

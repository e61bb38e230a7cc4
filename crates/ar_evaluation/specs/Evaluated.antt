-- What came of the conditions of a metric on a value.
use Rattle.ar_judge.specs.Condition.{Condition}
use Rattle.std.specs.Prelude.{Bool, true, false, if◌then◌else◌, List, [], ◌∷◌, ◌++◌, codes, Option, Some, None, Result, Ok, Err}
use Rattle.std.specs.List.{list_any}
use Rattle.ar_value.specs.Terms.{Text}
use Rattle.ar_value.specs.Value.{Value}
use Rattle.ar_value.specs.View.{shape_view}
use Rattle.ar_tree.specs.Meaning.{mean}
use Rattle.ar_tree.specs.Typed.{Typed}
use Rattle.ar_judge.specs.Saying.{typed_text}
use Rattle.ar_judge.specs.Verdict.{Judge}
use Rattle.ar_judge.specs.declared.error.BuildCause.{BuildCause}
use Rattle.ar_explain.specs.Operands.{apart_on}
use Rattle.ar_explain.specs.Operands.{failed_on}
use Rattle.ar_explain.specs.Lines.{Explanation, Outcome, earlier_lines, explained, failed, is_item, outcome_of, passed, unneeded, valued}

-- a condition that was evaluated, its arguments put in
pub record EvaluatedCondition : Type 0 where
  -- success or failure
  pub which : Text
  pub text : Text
  pub tree : Typed
  pub parts : Explanation
  pub answer : Outcome

abbrev pub evaluated_with : (which text : Text) → Value → Typed → EvaluatedCondition
evaluated_with which text found tree = record {
  which = which;
  text = text;
  tree = tree;
  parts = explained (earlier_lines found None tree);
  answer = outcome_of (mean found None tree) (failed_on found None tree) (apart_on found None tree);
}

-- the conditions of a bundle have trees, so that all of them are there
abbrev pub evaluated : (which text : Text) → Value → Result Typed BuildCause → List EvaluatedCondition
evaluated which text found (Ok tree) = evaluated_with which text found tree ∷ []
evaluated which text found (Err cause) = []

abbrev pub evaluated_if_there : (which : Text) → Value → Option Condition → List EvaluatedCondition
evaluated_if_there which found None = []
evaluated_if_there which found (Some condition) =
    evaluated which condition.text found (typed_text (shape_view condition.verified.shape) condition.text)

abbrev pub is_failure : Outcome → Bool
is_failure (failed failure on) = true
is_failure (valued shown apart) = false
is_failure (is_item shown) = false
is_failure unneeded = false
is_failure (passed items held) = false

abbrev pub has_failed : EvaluatedCondition → Bool
has_failed condition = is_failure condition.answer

-- where the success condition fails, the failure condition isn't evaluated
abbrev pub after_success : (success failure : List EvaluatedCondition) → List EvaluatedCondition
after_success success failure = if list_any has_failed success then success else success ++ failure

abbrev pub conditions_on : Judge → Value → List EvaluatedCondition
conditions_on judge found = after_success (evaluated_if_there (codes "success") found judge.success)
    (evaluated_if_there (codes "failure") found judge.failure)

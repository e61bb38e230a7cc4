-- The code of a condition's text, and how it runs.
use Rattle.ar_judge.specs.Condition.{condition_with}
use Rattle.std.specs.Prelude.{◌≡◌, ◌≤◌, ℕ, Bool, true, List, Option, Some, None, Result, Ok, Err}
use Rattle.ar_value.specs.Fits.{fits}
use Rattle.ar_value.specs.Shape.{Shape}
use Rattle.ar_value.specs.Value.{Value}
use Rattle.ar_value.specs.View.{shape_view}
use Rattle.ar_value.specs.declared.fault.Fault.{Fault}
use Rattle.ar_value.specs.Limits.{most_code_entries}
use Rattle.ar_tree.specs.Meaning.{mean}
use Rattle.ar_tree.specs.Typed.{Typed}
use Rattle.ar_op.specs.Code.{Code}
use Rattle.ar_compile.specs.Compiled.{compiled}
use Rattle.ar_compile.specs.Ends.{EndsAsMeant}
use Rattle.ar_compile.specs.Length.{length_of}
use Rattle.ar_safety.specs.Bounds.{Verified}
use Rattle.ar_judge.specs.Saying.{IsRefused, typed_text}
use Rattle.ar_judge.specs.Headline.{HeadlineHolds}
use Rattle.ar_judge.specs.Verdict.{Said, absent, says}
use Rattle.ar_judge.specs.declared.error.BuildCause.{BuildCause}

-- what a condition that is there has answered
abbrev pub said_view : Option (Result Bool Fault) → Said
said_view None = absent
said_view (Some answer) = says answer

-- on each value of a shape, code ends with what a tree means
abbrev pub Means : Shape → Typed → Code → Type 0
Means shape tree code = (value : Value) → fits value shape ≡ true → EndsAsMeant code value (mean value None tree)

-- a text is typed so, verified code evaluates to what it means, and the headline holds
pub record IsReady (text : List ℕ) (verified : Verified) : Type 0 where
  pub tree : Typed
  pub typed : typed_text (shape_view verified.shape) text ≡ Ok tree
  pub means : Means (shape_view verified.shape) tree verified.code
  pub holds : HeadlineHolds (shape_view verified.shape) text (condition_with text verified)

-- the code of a text's tree where `result` has a shape, and what it evaluates to
pub record IsCodeOf (shape : Shape) (text : List ℕ) (code : Code) : Type 0 where
  pub tree : Typed
  pub typed : typed_text shape text ≡ Ok tree
  pub short : length_of tree ≤ most_code_entries
  pub code_is : code ≡ compiled tree
  pub means : Means shape tree code

-- such code, or why there is none
abbrev pub HasCode : Shape → List ℕ → Result Code BuildCause → Type 0
HasCode shape text (Ok code) = IsCodeOf shape text code
HasCode shape text (Err cause) = IsRefused shape text cause

-- Laws of what is shown of an event, each the contract of a function of `laws`.
use Rattle.std.specs.Prelude.{◌≡◌, if◌then◌else◌, List, [], ◌∷◌, codes, Option, Some, None, Err}
use Rattle.std.specs.Str.{bytes_eq}
use Rattle.serde_json.specs.Data.{Data}
use Rattle.ar_value.specs.Shape.{Shape}
use Rattle.ar_value.specs.Terms.{Text}
use Rattle.ar_value.specs.Value.{Value}
use Rattle.ar_tree.specs.Meaning.{answer_of, mean}
use Rattle.ar_json.specs.Reading.{read}
use Rattle.ar_json.specs.declared.value_reading.ShapeFault.{ShapeFault}
use Rattle.ar_judge.specs.Verdict.{IsJudge, Judge, Said, absent, measured, misfit as unfit, spoken, verdict, verdict_by}
use Rattle.ar_judge.specs.declared.verdict.Cause.TheVariants as causes
use Rattle.ar_judge.specs.declared.verdict.Verdict.TheVariants.{Error}
use Rattle.ar_misfit.specs.Misfit.{Misfit, misfit}
use Rattle.ar_evaluation.specs.Evaluated.{EvaluatedCondition, conditions_on}

-- ---- conditions

-- what the shown condition of a name says of a value, by the meaning of its tree
abbrev pub said_among : (which : Text) → Value → List EvaluatedCondition → Said
said_among which found [] = absent
said_among which found (condition ∷ conditions) =
    if bytes_eq condition.which which then spoken (answer_of (mean found None condition.tree))
    else said_among which found conditions

-- the verdict of a measured value is by what the conditions say that are shown for it; one that isn't shown, since the
-- success condition has failed, doesn't matter
abbrev pub VerdictIsByShown : Type 0
VerdictIsByShown = (shape : Shape) (success failure : Option Text) (judge : Judge) (found : Value)
    → IsJudge shape success failure judge
    → verdict judge (measured found)
    ≡ verdict_by (said_among (codes "success") found (conditions_on judge found))
    (said_among (codes "failure") found (conditions_on judge found))

-- ---- misfits

-- a JSON value that a shape refuses with this fault is shown by where it doesn't fit, with the fault of the verdict
pub record ShowsTheFault (judge : Judge) (shape : Shape) (json : Data) (fault : ShapeFault) : Type 0 where
  pub shown : Misfit
  pub is_there : misfit shape json ≡ Some shown
  pub verdict_is : verdict judge (unfit fault) ≡ Error (causes.Shape shown.fault)

abbrev pub MisfitIsOfVerdict : Type 0
MisfitIsOfVerdict = (judge : Judge) (shape : Shape) (json : Data) (fault : ShapeFault)
    → read shape json ≡ Err fault → ShowsTheFault judge shape json fault

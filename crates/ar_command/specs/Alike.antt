-- Bundles that are the same but for where their parts are in memory, and reports that are of the same runs.
use Rattle.ar_judge.specs.Condition.{Condition}
use Rattle.std.specs.Prelude.{◌≡◌, List, [], ◌∷◌, Option, map}
use Rattle.ar_value.specs.Answer.{BothOrNeither}
use Rattle.ar_value.specs.View.{shape_view}
use Rattle.ar_judge.specs.Verdict.{Judge}
use Rattle.ar_bundle.specs.Bundle.{Bundle}
use Rattle.ar_bundle.specs.declared.bundle.RunPart.{RunPart}
use Rattle.ar_document.specs.Entries.{entry_view}
use Rattle.ar_document.specs.Opening.{metric_view}
use Rattle.ar_facts.specs.Facts.{RunFacts}
use Rattle.ar_value.specs.Terms.{Text}
use Rattle.ar_command.specs.Serving.{IsReport}
use Rattle.ar_command_line.specs.declared.command_line.Format.TheVariants as formats

-- conditions with one text, code and shape, and with the same bounds
pub record IsSameCondition (one other : Condition) : Type 0 where
  pub text : one.text ≡ other.text
  pub code : one.verified.code ≡ other.verified.code
  pub shape : shape_view one.verified.shape ≡ shape_view other.verified.shape
  pub budget : one.verified.budget ≡ other.verified.budget
  pub depth : one.verified.depth ≡ other.verified.depth

abbrev pub AreSameConditions : (one other : Option Condition) → Type 0
AreSameConditions one other = BothOrNeither IsSameCondition one other

abbrev pub AreSameJudges : (some others : List Judge) → Type 0
AreSameJudges [] [] = Unit {0}
AreSameJudges (one ∷ some) (other ∷ others) =
    (AreSameConditions one.success other.success × AreSameConditions one.failure other.failure)
    × AreSameJudges some others
AreSameJudges some others = ⊥

pub record IsSameRun (one other : RunPart) : Type 0 where
  pub name : one.name ≡ other.name
  pub judges : AreSameJudges one.judges other.judges
  pub limits : one.limits ≡ other.limits

abbrev pub AreSameRuns : (some others : List RunPart) → Type 0
AreSameRuns [] [] = Unit {0}
AreSameRuns (one ∷ some) (other ∷ others) = IsSameRun one other × AreSameRuns some others
AreSameRuns some others = ⊥

pub record IsSameBundle (one other : Bundle) : Type 0 where
  pub metrics : map metric_view one.metrics ≡ map metric_view other.metrics
  pub runs : AreSameRuns one.runs other.runs
  pub entries : map entry_view one.entries ≡ map entry_view other.entries

-- a text report and a JSON report of the same facts of runs
pub record AreOfSameRuns (words object : Text) : Type 0 where
  pub runs : List RunFacts
  pub as_words : IsReport formats.Text runs words
  pub as_object : IsReport formats.Json runs object

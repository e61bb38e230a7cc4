-- The headline of a metric's judge: its verdict on a measured value is by what the machine returns on the code of its
-- conditions, which is what their texts say.
use Rattle.ar_judge.specs.Condition.{Condition}
use Rattle.std.specs.Prelude.{◌≡◌, Bool, true, Option, Some, None, Result, IfOk, IfErr, IsOk}
use Rattle.ar_value.specs.Terms.{Text}
use Rattle.ar_value.specs.Answer.{BothOrNeither}
use Rattle.ar_value.specs.Fits.{fits}
use Rattle.ar_value.specs.Shape.{Shape}
use Rattle.ar_value.specs.Value.{Value}
use Rattle.ar_value.specs.declared.fault.Fault.{Fault}
use Rattle.ar_op.specs.Machine.{Next, after, begin, ends}
use Rattle.ar_judge.specs.Saying.{said}
use Rattle.ar_judge.specs.Headline.{HeadlineHolds}
use Rattle.ar_judge.specs.Verdict.{HasNoText, IsJudge, Judge, RefusesTexts, measured, said_where, verdict, verdict_by}
use Rattle.ar_judge.specs.declared.error.BuildError.{BuildError}

-- what the machine has returned, if it has ended
abbrev pub answered : Next → Option (Result Bool Fault)
answered (ends answer cost) = Some answer
answered next = None

-- what it returns on a condition's code within the budget
abbrev pub run_answer : Value → Condition → Option (Result Bool Fault)
run_answer value condition = answered (after condition.verified.code value condition.verified.budget begin)

-- the headline of a metric's condition, where there is a text and so a condition
abbrev pub HoldsWhereThere : Shape → Option Text → Option Condition → Type 0
HoldsWhereThere shape text condition = BothOrNeither (HeadlineHolds shape) text condition

-- the verdict of a measured value
pub record JudgesAsMeant (shape : Shape) (success failure : Option Text) (judge : Judge) (value : Value) : Type 0 where
  -- is by what the machine returns on the code of the conditions that are there
  pub run : verdict judge (measured value)
      ≡ verdict_by (said_where (run_answer value) judge.success) (said_where (run_answer value) judge.failure)
  -- and by what their texts mean
  pub meant : verdict judge (measured value)
      ≡ verdict_by (said_where (λ text. said shape text value) success)
      (said_where (λ text. said shape text value) failure)

-- the headline of a judge that was built of a metric's texts under a shape
pub record JudgeHeadlineHolds (shape : Shape) (success failure : Option Text) (judge : Judge) : Type 0 where
  pub success_holds : HoldsWhereThere shape success judge.success
  pub failure_holds : HoldsWhereThere shape failure judge.failure
  pub verdicts : (value : Value) → fits value shape ≡ true → JudgesAsMeant shape success failure judge value

-- what building a judge of a metric's texts under a shape returns
pub record BuildsJudge (shape : Shape) (success failure : Option Text) (result : Result Judge BuildError) : Type 0 where
  -- the judge of these texts
  pub built : IfOk result (IsJudge shape success failure)
  -- on each value of the shape the code of its conditions ends within its budget, is never stuck, and returns what the
  -- texts mean; the verdict is by these answers
  pub headline : IfOk result (JudgeHeadlineHolds shape success failure)
  -- or, unless memory ran out, the first text that is refused, and why
  pub refused : IfErr result (RefusesTexts shape success failure)
  -- where there is no text, out of memory is never returned
  pub without_memory : HasNoText success failure → IsOk result

-- The result of a sample under a metric's conditions.
use Rattle.ar_judge.specs.Condition.{Condition}
use Rattle.std.specs.Prelude.{◌≡◌, ◌≢◌, Bool, if◌then◌else◌, Option, Some, None, Result, Ok, Err, true, false, refl}
use Rattle.ar_value.specs.Terms.{Text}
use Rattle.ar_value.specs.Answer.{BothOrNeither}
use Rattle.ar_value.specs.Shape.{Shape}
use Rattle.ar_value.specs.Value.{Value}
use Rattle.ar_value.specs.View.{shape_view, value_view}
use Rattle.ar_value.specs.declared.fault.Fault.{Fault}
use Rattle.ar_json.specs.declared.value_reading.ShapeFault.{ShapeFault}
use Rattle.ar_judge.specs.Built.{IsBuilt}
use Rattle.ar_judge.specs.Saying.{IsRefused, said}
use Rattle.ar_judge.specs.declared.error.BuildCause.{BuildCause}
use Rattle.ar_judge.specs.declared.error.BuildCause.TheVariants as causes
use Rattle.ar_judge.specs.declared.error.BuildError.{BuildError}
use Rattle.ar_judge.specs.declared.error.BuildError.TheVariants as errors
use Rattle.ar_judge.specs.declared.sample.Sample as code
use Rattle.ar_judge.specs.declared.sample.Sample.TheVariants as samples
use Rattle.ar_judge.specs.declared.verdict.Cause.TheVariants as error
use Rattle.ar_judge.specs.declared.verdict.Verdict.{Verdict}
use Rattle.ar_judge.specs.declared.verdict.Verdict.TheVariants.{Successful, Failed, Inconclusive, Error}
use Rattle.ar_value.specs.declared.fault.Fault.TheVariants.{DivisionByZero}

-- ---- samples

-- what a metric's provider gave: nothing, something that doesn't fit the declared shape, or a measured value
pub data Sample : Type 0 where
  provider : Sample
  misfit : ShapeFault → Sample
  measured : Value → Sample

abbrev pub sample_view : code.Sample → Sample
sample_view samples.Provider = provider
sample_view (samples.Misfit fault) = misfit fault
sample_view (samples.Measured value) = measured (value_view value)

-- ---- verdicts

-- what a metric's condition says: there is no condition, it has an answer, or it has no answer, which no condition of
-- a judge does
pub data Said : Type 0 where
  absent : Said
  says : Result Bool Fault → Said
  silent : Said

abbrev pub spoken : Option (Result Bool Fault) → Said
spoken (Some answer) = says answer
spoken None = silent

abbrev pub said_where : {A : Type 0} → (A → Option (Result Bool Fault)) → Option A → Said
said_where answer None = absent
said_where answer (Some condition) = spoken (answer condition)

-- by what the success condition and the failure condition say; a silent condition never lets a release pass
abbrev pub verdict_by : (success failure : Said) → Verdict
verdict_by (says (Err fault)) failure = Error (error.Success fault)
verdict_by silent failure = Failed
verdict_by absent (says (Err fault)) = Error (error.Failure fault)
verdict_by (says (Ok succeeded)) (says (Err fault)) = Error (error.Failure fault)
verdict_by absent silent = Failed
verdict_by (says (Ok succeeded)) silent = Failed
verdict_by absent absent = Successful
verdict_by (says (Ok succeeded)) absent = if succeeded then Successful else Failed
verdict_by absent (says (Ok failed)) = if failed then Failed else Successful
verdict_by (says (Ok succeeded)) (says (Ok failed)) =
    if failed then Failed else if succeeded then Successful else Inconclusive

-- a metric's conditions, each where it is there
pub record Judge : Type 0 where
  pub success : Option Condition
  pub failure : Option Condition

abbrev pub judge_of : (success failure : Option Condition) → Judge
judge_of success failure = record { success = success; failure = failure }

abbrev pub said_of : Value → Condition → Option (Result Bool Fault)
said_of value condition = said (shape_view condition.verified.shape) condition.text value

abbrev pub verdict : Judge → Sample → Verdict
verdict judge provider = Error error.Provider
verdict judge (misfit fault) = Error (error.Shape fault)
verdict judge (measured value) =
    verdict_by (said_where (said_of value) judge.success) (said_where (said_of value) judge.failure)

-- ---- judges of texts

-- the condition of a text, where there is one
abbrev pub AreBuilt : Shape → Option Text → Option Condition → Type 0
AreBuilt shape text condition = BothOrNeither (IsBuilt shape) text condition

-- a metric has neither text
abbrev pub HasNoText : (success failure : Option Text) → Type 0
HasNoText success failure = (success ≡ None) × (failure ≡ None)

-- the judge of a metric's texts under a shape
pub record IsJudge (shape : Shape) (success failure : Option Text) (judge : Judge) : Type 0 where
  pub success_is : AreBuilt shape success judge.success
  pub failure_is : AreBuilt shape failure judge.failure

-- a text is there and refused, and not as out of memory
pub record RefusesText (shape : Shape) (text : Option Text) (cause : BuildCause) : Type 0 where
  pub refused_text : Text
  pub is_there : text ≡ Some refused_text
  pub own : cause ≢ causes.OutOfMemory
  pub is : IsRefused shape refused_text cause

-- a text that is there is a condition that can be run
abbrev pub CanBeBuilt : Shape → Option Text → Type 0
CanBeBuilt shape text = (condition : Option Condition) × AreBuilt shape text condition

-- why there is no judge: the first text that is refused
abbrev pub RefusesTexts : Shape → (success failure : Option Text) → BuildError → Type 0
RefusesTexts shape success failure (errors.Success cause) = RefusesText shape success cause
RefusesTexts shape success failure (errors.Failure cause) = CanBeBuilt shape success × RefusesText shape failure cause
RefusesTexts shape success failure errors.OutOfMemory = Unit {0}

-- ---- worked rows

success_alone_true : verdict_by (says (Ok true)) absent ≡ Successful
success_alone_true = refl

both_true : verdict_by (says (Ok true)) (says (Ok true)) ≡ Failed
both_true = refl

both_false : verdict_by (says (Ok false)) (says (Ok false)) ≡ Inconclusive
both_false = refl

failure_alone_false : verdict_by absent (says (Ok false)) ≡ Successful
failure_alone_false = refl

first_fault : verdict_by (says (Err DivisionByZero)) (says (Ok true)) ≡ Error (error.Success DivisionByZero)
first_fault = refl

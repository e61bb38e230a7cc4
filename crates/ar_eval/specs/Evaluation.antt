-- What is returned for an input: a relation, since which verified code a text has is one.
use Rattle.ar_judge.specs.Condition.{Condition}
use Rattle.std.specs.Prelude.{◌≡◌, Bool, true, false, codes, Option, Some, option_and_then, Result, Ok, Err}
use Rattle.ar_value.specs.Terms.{Bytes, Text}
use Rattle.serde_json.specs.Data.{Data}
use Rattle.serde_json.specs.Find.{get, as_str}
use Rattle.ar_value.specs.Answer.{◌>>=◌, there_or}
use Rattle.ar_json.specs.Declaration.{shape_of}
use Rattle.ar_json.specs.Reading.{read}
use Rattle.ar_json.specs.declared.shape_reading.ShapeError.{ShapeError}
use Rattle.ar_json.specs.declared.shape_reading.ShapeError.TheVariants as shape_error
use Rattle.ar_json.specs.declared.value_reading.ShapeFault.{ShapeFault}
use Rattle.ar_json.specs.declared.value_reading.ShapeFault.TheVariants as shape_fault
use Rattle.ar_value.specs.Shape.{Shape}
use Rattle.ar_judge.specs.Built.{IsBuilt}
use Rattle.ar_judge.specs.Saying.{IsRefused, refused_as, said}
use Rattle.ar_judge.specs.declared.error.BuildCause.{BuildCause}
use Rattle.ar_judge.specs.declared.error.BuildCause.TheVariants as causes
use Rattle.ar_value.specs.declared.fault.Fault.{Fault}
use Rattle.ar_json.specs.Document.{json_in}
use Rattle.ar_json.specs.declared.document.JsonError.{JsonError}
use Rattle.ar_json.specs.declared.document.JsonError.TheVariants as json_error
use Rattle.ar_eval.specs.declared.eval.EvalError.{EvalError}
use Rattle.ar_eval.specs.declared.eval.EvalError.TheVariants.{TooLarge, Utf8OrJson, BadDocument, Shape as BadShape, Grammar, Kinds, Compiler, Verifier, Misfit, OutOfMemory}

-- a document's condition, shape and value, which are all required
abbrev pub document_parts : Data → Result (Text × Data × Data) EvalError
document_parts document = do
  text ← there_or BadDocument (option_and_then as_str (get (codes "condition") document))
  declared ← there_or BadDocument (get (codes "shape") document)
  measured ← there_or BadDocument (get (codes "value") document)
  Ok (text, declared, measured)

-- a condition's text, the shape that `result` has, and what was measured
pub record Prepared : Type 0 where
  pub text : Text
  pub shape : Shape
  pub measured : Data

abbrev pub prepared_of : Text → Shape → Data → Prepared
prepared_of text shape measured = record { text = text; shape = shape; measured = measured }

unfoldable pub prepared : Data → Result Prepared EvalError
prepared document = do
  parts ← document_parts document
  shape ← refused_as BadShape (shape_of parts.1)
  Ok (prepared_of parts.0 shape parts.2)

-- what a condition says of what was measured, which is read under the shape
abbrev pub meant : Prepared → Result (Option (Result Bool Fault)) EvalError
meant given = do
  value ← refused_as Misfit (read given.shape given.measured)
  Ok (said given.shape given.text value)

-- faults of JSON, as they are returned
abbrev pub eval_json_error : JsonError → EvalError
eval_json_error json_error.TooLarge = TooLarge
eval_json_error json_error.Utf8OrJson = Utf8OrJson
eval_json_error json_error.OutOfMemory = OutOfMemory

unfoldable pub prepared_input : Bytes → Result Prepared EvalError
prepared_input input = refused_as eval_json_error (json_in input) >>= prepared

-- the text is a condition that can be run
pub record IsRunnable (given : Prepared) : Type 0 where
  pub condition : Condition
  pub built : IsBuilt given.shape given.text condition

-- what is returned: why the text is no condition that can be run, or else what it says of the value
abbrev pub Answers : Prepared → Result (Result Bool Fault) EvalError → Type 0
Answers given (Err (Grammar error)) = IsRefused given.shape given.text (causes.Grammar error)
Answers given (Err (Kinds error)) = IsRefused given.shape given.text (causes.Kinds error)
Answers given (Err (Compiler error)) = IsRefused given.shape given.text (causes.Compiler error)
Answers given (Err (Verifier index reason)) = IsRefused given.shape given.text (causes.Verifier index reason)
Answers given (Err error) = IsRunnable given × (meant given ≡ Err error)
Answers given (Ok answer) = IsRunnable given × (meant given ≡ Ok (Some answer))

abbrev pub Follows : Result Prepared EvalError → Result (Result Bool Fault) EvalError → Type 0
Follows (Ok given) answer = Answers given answer
Follows (Err fault) answer = answer ≡ Err fault

-- what an input's condition says of its value, or the first fault in the input
pub record Evaluates (input : Bytes) (answer : Result (Result Bool Fault) EvalError) : Type 0 where
  pub follows : Follows (prepared_input input) answer

-- why a text is no condition that can be run, as `eval` returns it
abbrev pub of_build : BuildCause → EvalError
of_build causes.OutOfMemory = OutOfMemory
of_build (causes.Grammar error) = Grammar error
of_build (causes.Kinds error) = Kinds error
of_build (causes.Compiler error) = Compiler error
of_build (causes.Verifier index reason) = Verifier index reason

-- a fault of the shape, and of the value, in the same way
abbrev pub of_shape : ShapeError → EvalError
of_shape shape_error.OutOfMemory = OutOfMemory
of_shape error = BadShape error

abbrev pub of_misfit : ShapeFault → EvalError
of_misfit shape_fault.OutOfMemory = OutOfMemory
of_misfit fault = Misfit fault

abbrev pub is_eval_memory : EvalError → Bool
is_eval_memory OutOfMemory = true
is_eval_memory error = false

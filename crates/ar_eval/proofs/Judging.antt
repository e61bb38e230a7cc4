-- What a condition evaluates to on what was read.
use Rattle.ar_judge.specs.Condition.{Condition}
use Rattle.std.proofs.Common.{◌≡◌, ℕ, Bool, List, Some, Result, Ok, Err, refl, subst}
use Rattle.serde_json.specs.Data.{Data}
use Rattle.ar_value.specs.Answer.{Unless, UnlessMemory}
use Rattle.ar_json.specs.Reading.{is_reading_memory, is_memory_under, read}
use Rattle.ar_value.specs.Shape.{Shape}
use Rattle.ar_value.specs.Value.{Value}
use Rattle.ar_value.specs.View.{shape_view}
use Rattle.ar_value.specs.declared.fault.Fault.{Fault}
use Rattle.ar_value.proofs.Answers.{unless_more}
use Rattle.ar_json.proofs.ReadLemmas.{under_is_memory}
use Rattle.ar_json.specs.declared.value_reading.ShapeFault.{ShapeFault}
use Rattle.ar_json.specs.declared.value_reading.ShapeFault.TheVariants as shape_fault
use Rattle.ar_judge.specs.Built.{IsBuilt}
use Rattle.ar_judge.specs.Saying.{IsRefused, said}
use Rattle.ar_judge.specs.declared.error.BuildCause.{BuildCause}
use Rattle.ar_judge.specs.declared.error.BuildCause.TheVariants as causes
use Rattle.ar_json.specs.Document.{is_document_memory as is_json_memory, json_in}
use Rattle.ar_json.specs.declared.document.JsonError.{JsonError}
use Rattle.ar_json.specs.declared.document.JsonError.TheVariants as json_error
use Rattle.ar_eval.specs.Evaluation.{is_eval_memory, Evaluates, Follows, Answers, prepared_of, of_build, eval_json_error, of_misfit, prepared, prepared_input}
use Rattle.ar_eval.specs.declared.eval.EvalError.{EvalError}
use Rattle.ar_eval.specs.declared.eval.EvalError.TheVariants.{OutOfMemory}

-- a text that is no condition that can be run is refused for its cause
pub not_built : (text : List ℕ) (shape : Shape) (measured : Data) (cause : BuildCause) → IsRefused shape text cause → UnlessMemory is_eval_memory (Err (of_build cause)) (Answers (prepared_of text shape measured))
not_built text shape measured causes.OutOfMemory refused = tt
not_built text shape measured (causes.Grammar error) refused = refused
not_built text shape measured (causes.Kinds error) refused = refused
not_built text shape measured (causes.Compiler error) refused = refused
not_built text shape measured (causes.Verifier index reason) refused = refused

said_as : (shape : Shape) (text : List ℕ) (condition : Condition) (value : Value) (answer : Result Bool Fault) → IsBuilt shape text condition → said (shape_view condition.verified.shape) condition.text value ≡ Some answer → said shape text value ≡ Some answer
said_as shape text condition value answer built says = subst (λ text. said shape text value ≡ Some answer) built.text_is (subst (λ shape. said shape condition.text value ≡ Some answer) built.shape_is says)

-- a condition that is run on what was read returns what is meant
pub answered : (text : List ℕ) (shape : Shape) (measured : Data) (condition : Condition) (value : Value) (answer : Result Bool Fault) → IsBuilt shape text condition → read (shape_view condition.verified.shape) measured ≡ Ok value → said (shape_view condition.verified.shape) condition.text value ≡ Some answer
    → Answers (prepared_of text shape measured) (Ok answer)
answered text shape measured condition value answer built is_read says =
    let read_shape : read shape measured ≡ Ok value = rw built.shape_is at is_read in
    let said_shape = said_as shape text condition value answer built says in
    (record { condition = condition; built = built }, rw (read_shape, said_shape) refl)

-- a misfit of what was measured is reported, where the condition can be run
pub misfit_reported : (text : List ℕ) (shape : Shape) (measured : Data) (condition : Condition) (fault : ShapeFault) → IsBuilt shape text condition → Unless (is_reading_memory fault) (read (shape_view condition.verified.shape) measured ≡ Err fault)
    → UnlessMemory is_eval_memory (Err (of_misfit fault)) (Answers (prepared_of text shape measured))
misfit_reported text shape measured condition shape_fault.OutOfMemory built reported = tt
misfit_reported text shape measured condition fault built reported =
    let unread : read shape measured ≡ Err fault = rw built.shape_is at reported in
    (record { condition = condition; built = built }, rw unread refl)

-- an answer for a document is one for the input that it is
pub of_document : (input : List ℕ) (document : Data) (answer : Result (Result Bool Fault) EvalError) → json_in input ≡ Ok document → UnlessMemory is_eval_memory answer (Follows (prepared document)) → UnlessMemory is_eval_memory answer (Evaluates input)
unfolding prepared_input
of_document input document (Ok said) is h = record { follows = rw is h }
of_document input document (Err OutOfMemory) is h = tt
of_document input document (Err fault) is h = record { follows = rw is h }

-- an input that is no document is refused for that
pub of_no_document : (input : List ℕ) (error : JsonError) → Unless (is_json_memory error) (json_in input ≡ Err error) → UnlessMemory is_eval_memory (Err (eval_json_error error)) (Evaluates input)
unfolding prepared_input
of_no_document input json_error.OutOfMemory none = tt
of_no_document input json_error.TooLarge none = record { follows = rw none refl }
of_no_document input json_error.Utf8OrJson none = record { follows = rw none refl }

-- what may be out of memory under a shape is out of memory
pub misfits : (shape : Shape) (json : Data) (fault : ShapeFault) → Unless (is_memory_under shape fault) (read shape json ≡ Err fault) → Unless (is_reading_memory fault) (read shape json ≡ Err fault)
misfits shape json fault h = unless_more (read shape json ≡ Err fault) (is_memory_under shape fault) (is_reading_memory fault) (under_is_memory shape fault) h

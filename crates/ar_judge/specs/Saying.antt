-- What a condition's text says of values, as the parser reads it, and why a text is no condition that can be run.
use Rattle.std.specs.Prelude.{◌≡◌, ◌<◌, ◌≤◌, Bool, Option, None, Result, Ok, Err}
use Rattle.ar_value.specs.Terms.{Index, Text}
use Rattle.ar_value.specs.Answer.{◌>>=◌}
use Rattle.ar_value.specs.Shape.{Shape}
use Rattle.ar_value.specs.Value.{Value}
use Rattle.ar_value.specs.declared.fault.Fault.{Fault}
use Rattle.ar_value.specs.Limits.{most_code_entries}
use Rattle.ar_tree.specs.Meaning.{answer_of, mean}
use Rattle.ar_tree.specs.Typed.{Typed}
use Rattle.ar_syntax.specs.Parse.{parse_of}
use Rattle.ar_check.specs.Check.{checked}
use Rattle.ar_compile.specs.Compiled.{compiled}
use Rattle.ar_compile.specs.Length.{length_of}
use Rattle.ar_compile.specs.declared.error.CompileError.TheVariants.{TooManyOps}
use Rattle.ar_safety.specs.Verdict.{IsFault}
use Rattle.ar_safety.specs.declared.error.Reason.{Reason}
use Rattle.ar_judge.specs.declared.error.BuildCause.{BuildCause}
use Rattle.ar_judge.specs.declared.error.BuildCause.TheVariants.{Grammar, Kinds, Compiler, Verifier, OutOfMemory}

-- an answer, with its refusal under another name
abbrev pub refused_as : {A E F : Type 0} → (E → F) → Result A E → Result A F
refused_as name (Ok x) = Ok x
refused_as name (Err e) = Err (name e)

-- the typed tree of a condition's text where `result` has a shape, or the first fault of its grammar or its kinds
abbrev pub typed_text : Shape → Text → Result Typed BuildCause
typed_text shape text = refused_as Grammar (parse_of text) >>= λ tree. refused_as Kinds (checked shape tree)

-- ---- what a condition says

abbrev pub said_by : Value → Result Typed BuildCause → Option (Result Bool Fault)
said_by value (Ok tree) = answer_of (mean value None tree)
said_by value (Err cause) = None

-- what a condition's text says of a value, by its meaning: true, false or a fault. A text that is no condition says
-- nothing, nor does one whose meaning is no answer, as it never is on a value of its shape.
abbrev pub said : Shape → Text → Value → Option (Result Bool Fault)
said shape text value = said_by value (typed_text shape text)

-- ---- why a text is no condition that can be run

-- the code of a text's typed tree would have too many operations
pub record IsTooLong (shape : Shape) (text : Text) : Type 0 where
  pub tree : Typed
  pub typed : typed_text shape text ≡ Ok tree
  pub long : most_code_entries < length_of tree

-- the verifier refuses the code of a text's typed tree at `index`
pub record IsUnsafe (shape : Shape) (text : Text) (index : Index) (reason : Reason) : Type 0 where
  pub tree : Typed
  pub typed : typed_text shape text ≡ Ok tree
  pub short : length_of tree ≤ most_code_entries
  pub fault : IsFault (compiled tree) shape index reason

-- why a text is no condition that can be run, if it isn't out of memory
abbrev pub IsRefused : Shape → Text → BuildCause → Type 0
IsRefused shape text (Grammar error) = typed_text shape text ≡ Err (Grammar error)
IsRefused shape text (Kinds error) = typed_text shape text ≡ Err (Kinds error)
IsRefused shape text (Compiler error) = (error ≡ TooManyOps) × IsTooLong shape text
IsRefused shape text (Verifier index reason) = IsUnsafe shape text index reason
IsRefused shape text OutOfMemory = Unit {0}

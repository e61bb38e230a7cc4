-- What building a condition returns, and the causes of its parts as it returns them.
use Rattle.ar_judge.specs.Condition.{Condition}
use Rattle.std.specs.Prelude.{Result, Ok, Err}
use Rattle.ar_value.specs.Terms.{Text}
use Rattle.ar_value.specs.Shape.{Shape}
use Rattle.ar_syntax.specs.declared.error.SyntaxError.{SyntaxError}
use Rattle.ar_syntax.specs.declared.error.SyntaxError.TheVariants as syntax
use Rattle.ar_check.specs.declared.error.TypeError.{TypeError}
use Rattle.ar_check.specs.declared.error.TypeError.TheVariants as types
use Rattle.ar_compile.specs.declared.error.CompileError.{CompileError}
use Rattle.ar_compile.specs.declared.error.CompileError.TheVariants as compile_error
use Rattle.ar_safety.specs.declared.error.Cause.{Cause}
use Rattle.ar_safety.specs.declared.error.Cause.TheVariants as causes
use Rattle.ar_judge.specs.declared.error.BuildCause.{BuildCause}
use Rattle.ar_judge.specs.declared.error.BuildCause.TheVariants.{Grammar, Kinds, Compiler, Verifier, OutOfMemory}
use Rattle.ar_judge.specs.Built.{IsBuilt}
use Rattle.ar_judge.specs.Saying.{IsRefused}

-- what a text is built to, or why it isn't
abbrev pub BuildsTo : Shape → Text → Result Condition BuildCause → Type 0
BuildsTo shape text (Ok condition) = IsBuilt shape text condition
BuildsTo shape text (Err cause) = IsRefused shape text cause

-- ---- causes, as they are returned

abbrev pub of_syntax : SyntaxError → BuildCause
of_syntax syntax.OutOfMemory = OutOfMemory
of_syntax error = Grammar error

abbrev pub of_type : TypeError → BuildCause
of_type types.OutOfMemory = OutOfMemory
of_type error = Kinds error

abbrev pub of_compiler : CompileError → BuildCause
of_compiler compile_error.OutOfMemory = OutOfMemory
of_compiler error = Compiler error

abbrev pub of_verifier : Cause → BuildCause
of_verifier causes.OutOfMemory = OutOfMemory
of_verifier (causes.Fault index reason) = Verifier index reason

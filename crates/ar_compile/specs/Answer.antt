-- What compiling a condition returns.
use Rattle.std.specs.Prelude.{◌≡◌, ◌<◌, true, None, Result, Ok, Err, IfOk, length}
use Rattle.ar_value.specs.Fits.{fits}
use Rattle.ar_value.specs.Limits.{most_code_entries}
use Rattle.ar_value.specs.Shape.{Shape}
use Rattle.ar_value.specs.Value.{Value}
use Rattle.ar_tree.specs.Expression.{Expression}
use Rattle.ar_tree.specs.Meaning.{mean}
use Rattle.ar_tree.specs.Typed.{Typed}
use Rattle.ar_check.specs.Check.{checked}
use Rattle.ar_op.specs.Code.{Code}
use Rattle.ar_compile.specs.Acceptance.{OnlyTooLarge}
use Rattle.ar_compile.specs.Compiled.{compiled}
use Rattle.ar_compile.specs.Ends.{EndsAsMeant}
use Rattle.ar_compile.specs.Length.{length_of}
use Rattle.ar_compile.specs.declared.error.CompileError.{CompileError}
use Rattle.ar_compile.specs.declared.error.CompileError.TheVariants.{TooManyOps}

-- what compiling a condition that was checked returns
pub record CompilesTo (condition : Typed) (result : Result Code CompileError) : Type 0 where
  -- this code
  pub exact : IfOk result (λ code. code ≡ compiled condition)
  -- it has as many operations as `length_of` says
  pub length : IfOk result (λ code. length code.ops ≡ length_of condition)
  -- on each value of a shape that the condition was checked for, the machine ends with the answer that the condition
  -- means
  pub means : IfOk result
      (λ code. (shape : Shape) (tree : Expression) (value : Value) → checked shape tree ≡ Ok condition
      → fits value shape ≡ true → EndsAsMeant code value (mean value None condition))
  -- under such a shape the verifier refuses it only where a run of it may have too many operands or cost too much
  pub accepted : IfOk result
      (λ code. (shape : Shape) (tree : Expression) → checked shape tree ≡ Ok condition → OnlyTooLarge code shape)
  -- `TooManyOps` is returned exactly where the code would have more than 4,096 operations
  pub refused : result ≡ Err TooManyOps → most_code_entries < length_of condition
  pub too_many : most_code_entries < length_of condition → result ≡ Err TooManyOps

-- Conditions that are built of texts, and what they say when they are run.
use Rattle.ar_judge.specs.Condition.{condition_with}
use Rattle.std.proofs.Common.{◌≡◌, ◌<◌, ℕ, ◌+◌, List, Bool, true, Some, Result, Ok, Err, refl, ap, ◌∙◌, subst, arith}
use Rattle.ar_value.specs.Fits.{fits}
use Rattle.ar_value.specs.Shape.{Shape}
use Rattle.ar_value.specs.declared.shape.Shape.{Shape as Declared}
use Rattle.ar_value.specs.Value.{Value}
use Rattle.ar_value.specs.View.{shape_view}
use Rattle.ar_value.specs.declared.fault.Fault.{Fault}
use Rattle.ar_value.specs.Limits.{most_code_entries}
use Rattle.ar_tree.specs.Expression.{Expression}
use Rattle.ar_tree.specs.Limits.{InLimits, WrittenInLimits}
use Rattle.ar_tree.specs.Typed.{Typed}
use Rattle.ar_syntax.specs.Parse.{parse_of}
use Rattle.ar_check.specs.Check.{checked}
use Rattle.ar_op.specs.Code.{Code}
use Rattle.ar_compile.proofs.Checked.{checked_in_limits}
use Rattle.ar_compile.specs.Compiled.{compiled}
use Rattle.ar_compile.specs.Ends.{EndsWith}
use Rattle.ar_compile.specs.Length.{length_of}
use Rattle.ar_compile.specs.declared.error.CompileError.{CompileError}
use Rattle.ar_compile.specs.declared.error.CompileError.TheVariants.{TooManyOps, OutOfMemory}
use Rattle.ar_machine.proofs.Ends as runs
use Rattle.ar_machine.specs.Run.{IsDone}
use Rattle.ar_safety.specs.Verdict.{IsCause, IsFault, IsVerified}
use Rattle.ar_safety.specs.Bounds.{Verified}
use Rattle.ar_safety.specs.declared.error.Cause.{Cause}
use Rattle.ar_safety.specs.declared.error.Cause.TheVariants as causes
use Rattle.ar_judge.specs.Built.{IsBuilt}
use Rattle.ar_judge.specs.Building.{of_compiler, of_verifier}
use Rattle.ar_judge.specs.Saying.{IsRefused, said, typed_text}
use Rattle.ar_judge.proofs.Trees.{tree_by_grammar}
use Rattle.ar_judge.specs.Private.Readiness.{IsCodeOf, IsReady, Means}

-- a text that is parsed and checked has the tree that was checked
pub typed_as : (shape : Shape) (text : List ℕ) (tree : Expression) (condition : Typed) → parse_of text ≡ Ok tree → checked shape tree ≡ Ok condition → typed_text shape text ≡ Ok condition
typed_as shape text tree condition parsed is = rw (parsed, is) refl

-- a condition that was parsed and checked is within limits
pub in_limits : (shape : Shape) (tree : Expression) (condition : Typed) → WrittenInLimits tree → checked shape tree ≡ Ok condition → InLimits condition
in_limits shape tree condition written is = checked_in_limits shape tree condition is written

-- the code of a text's tree, which isn't too long for it
pub has_code : (shape : Shape) (text : List ℕ) (tree : Expression) (condition : Typed) (code : Code) → parse_of text ≡ Ok tree → checked shape tree ≡ Ok condition → (most_code_entries < length_of condition → Ok code ≡ Err TooManyOps) → code ≡ compiled condition → Means shape condition code → IsCodeOf shape text code
has_code shape text tree condition code parsed is too_long code_is means =
    let few : most_code_entries < length_of condition → ⊥ = λ long. let same = too_long long in absurd cc in
    record { tree = condition; typed = typed_as shape text tree condition parsed is; short = omega (arith, few); code_is = code_is; means = means }

-- a tree that is too long
pub has_no_code : (shape : Shape) (text : List ℕ) (tree : Expression) (condition : Typed) (error : CompileError) → parse_of text ≡ Ok tree → checked shape tree ≡ Ok condition → (error ≡ TooManyOps → most_code_entries < length_of condition) → IsRefused shape text (of_compiler error)
has_no_code shape text tree condition TooManyOps parsed is long = (refl, record { tree = condition; typed = typed_as shape text tree condition parsed is; long = long refl })
has_no_code shape text tree condition OutOfMemory parsed is long = tt

-- verified, it is what the text is built to
pub built : (shape : Declared) (text : List ℕ) (code : Code) (verified : Verified) → IsCodeOf (shape_view shape) text code → verified.code ≡ code → verified.shape ≡ shape → IsVerified code (shape_view shape) verified.budget verified.depth → IsBuilt (shape_view shape) text (condition_with text verified)
built shape text code verified is code_is shape_is accepted =
    record {
      text_is = refl;
      shape_is = ap shape_view shape_is;
      tree = is.tree;
      has_tree = tree_by_grammar (shape_view shape) text is.tree is.typed;
      short = is.short;
      code_is = code_is ∙ is.code_is;
      accepted = subst (λ code. IsVerified code (shape_view shape) verified.budget verified.depth) is.code_is accepted;
    }

-- code that the verifier refuses is a text's that can't be run
pub is_unsafe : (shape : Shape) (text : List ℕ) (code : Code) (cause : Cause) → IsCodeOf shape text code → IsCause code shape cause → IsRefused shape text (of_verifier cause)
is_unsafe shape text code (causes.Fault index reason) is fault = record { tree = is.tree; typed = is.typed; short = is.short; fault = subst (λ code. IsFault code shape index reason) is.code_is fault }
is_unsafe shape text code causes.OutOfMemory is fault = tt

-- a run of code has one answer
pub one_answer : (code : Code) (value : Value) (fuel cost : ℕ) (answer meant : Result Bool Fault) → IsDone code value fuel answer cost → EndsWith code value meant → answer ≡ meant
one_answer code value fuel cost answer meant done ends =
    runs.one_answer code value (cost + ends.cost) answer cost (record { steps = done.steps; done = done.done; paid = omega arith })
    meant ends.cost (record { steps = ends.steps; done = ends.is; paid = omega arith })

-- a run of a condition on a value of its shape says what its text says
pub run_says : (text : List ℕ) (verified : Verified) (value : Value) (answer : Result Bool Fault) (cost : ℕ) → IsReady text verified → fits value (shape_view verified.shape) ≡ true → IsDone verified.code value verified.budget answer cost
    → said (shape_view verified.shape) text value ≡ Some answer
run_says text verified value answer cost is fit done =
    let meant = is.means value fit in
    let same : answer ≡ meant.answer = one_answer verified.code value verified.budget cost answer meant.answer done meant.ending in
    rw (is.typed, same, meant.meant) refl

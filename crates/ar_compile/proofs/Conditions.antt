-- Compiled code evaluates to what its condition means.
use Rattle.std.proofs.Common.{◌≡◌, ℕ, ◌+◌, Bool, true, [], ◌∷◌, Some, None, Result, Ok, Err, IfOk, refl, sym, arith}
use Rattle.ar_value.specs.Fits.{fits}
use Rattle.ar_value.specs.Operators.{Meaning, faulted, ill_kinded}
use Rattle.ar_value.specs.Shape.{Shape}
use Rattle.ar_value.specs.Value.{Value}
use Rattle.ar_value.specs.Value as values
use Rattle.ar_value.specs.declared.fault.Fault.{Fault}
use Rattle.ar_tree.specs.Expression.{Expression}
use Rattle.ar_tree.specs.Meaning.{answer_of, mean}
use Rattle.ar_tree.specs.Typed.{Typed}
use Rattle.ar_check.specs.Check.{checked}
use Rattle.ar_value.specs.Kind.{boolean_kind}
use Rattle.ar_check.proofs.Means.{MeansKind}
use Rattle.ar_check.proofs.Operands.{on_bool}
use Rattle.ar_op.specs.Code.{Code}
use Rattle.ar_op.specs.declared.op.Op.TheVariants.{Return}
use Rattle.ar_compile.specs.Compiled.{compiled}
use Rattle.ar_compile.specs.Ends.{EndsAsMeant}
use Rattle.ar_compile.specs.Length.{operations}
use Rattle.ar_compile.specs.Private.Kinded.{Kinded}
use Rattle.ar_compile.specs.Private.Standing.{At}
use Rattle.ar_compile.proofs.Kindings.{checked_kinded}
use Rattle.ar_compile.proofs.Meaningful.{kinded_means}
use Rattle.ar_compile.proofs.Nodes.{LeadsTo, Reached, moved}
use Rattle.ar_compile.proofs.Simulates.{runs}
use Rattle.ar_compile.proofs.Standing.{compiled_is_at}
use Rattle.ar_compile.proofs.Steps.{by_op}

from_zero : (n : ℕ) → n ≡ 0 + n
from_zero n = omega arith

some_same : (one other : Result Bool Fault) → Some one ≡ Some other → one ≡ other
some_same one other same = cc

-- a boolean or a fault is an answer
an_answer : (m : Meaning) → MeansKind boolean_kind m → (answer : Result Bool Fault) × (answer_of m ≡ Some answer)
an_answer (Ok v) fit = on_bool (λ v. (answer : Result Bool Fault) × (answer_of (Ok v) ≡ Some answer)) (λ b. (Ok b, refl)) v fit
an_answer (Err (faulted fault)) fit = (Err fault, refl)
an_answer (Err ill_kinded) fit = absurd fit

module _ (code : Code) (result : Value) where
  -- with a boolean on top, Return ends
  returns : (answer : Result Bool Fault) (index : ℕ) (b : Bool) → answer ≡ Ok b → At code index Return → Reached code result answer index (values.bool b ∷ []) []
  returns answer index b is there = by_op code result answer Return index (values.bool b ∷ []) [] there (omega arith) (λ cost. sym is)

  -- what a boolean or a fault leads to
  to_end : (m : Meaning) (answer : Result Bool Fault) (index : ℕ) → answer_of m ≡ Some answer → MeansKind boolean_kind m → At code index Return → LeadsTo code result answer m index [] []
  to_end (Ok v) answer index meant fit there =
      on_bool (λ v. answer_of (Ok v) ≡ Some answer → Reached code result answer index (v ∷ []) []) (λ b meant. returns answer index b (sym (some_same (Ok b) answer meant)) there) v fit meant
  to_end (Err (faulted fault)) answer index meant fit there = sym (some_same (Err fault) answer meant)
  to_end (Err ill_kinded) answer index meant fit there = absurd fit

kinded_ends : (shape : Shape) (condition : Typed) (value : Value) → fits value shape ≡ true → Kinded shape None 0 condition boolean_kind → EndsAsMeant (compiled condition) value (mean value None condition)
kinded_ends shape condition value fit is =
    let m = mean value None condition in
    let code = compiled condition in
    let is_there = compiled_is_at condition in
    let means = kinded_means shape value fit in
    let kind : MeansKind boolean_kind m = means None None tt 0 condition boolean_kind is in
    let answer = an_answer m kind in
    let good = runs code shape value answer.0 means None 0 condition boolean_kind is 0 is_there.tree [] tt [] (omega arith)
    (moved code value answer.0 m (operations condition) (0 + operations condition) [] [] (from_zero (operations condition)) (to_end code value m answer.0 (operations condition) answer.1 kind is_there.end)) in
    let found = good 0 in
    record { answer = answer.0; meant = answer.1; ending = record { steps = found.0; cost = found.1; is = found.2 } }

-- the code of a condition that was checked for a shape ends with what the condition means, on each value of the shape
pub compiled_means : (shape : Shape) (tree : Expression) (condition : Typed) (value : Value) → checked shape tree ≡ Ok condition → fits value shape ≡ true → EndsAsMeant (compiled condition) value (mean value None condition)
compiled_means shape tree condition value is fit =
    let kinded : IfOk (checked shape tree) (λ condition. Kinded shape None 0 condition boolean_kind) = checked_kinded shape tree in
    kinded_ends shape condition value fit (rw is at kinded)

-- When the machine ends, and how.
use Rattle.std.specs.Prelude.{◌≡◌, ℕ, Bool, Some, Result}
use Rattle.ar_value.specs.Operators.{Meaning}
use Rattle.ar_value.specs.Value.{Value}
use Rattle.ar_value.specs.declared.fault.Fault.{Fault}
use Rattle.ar_tree.specs.Meaning.{answer_of}
use Rattle.ar_op.specs.Code.{Code}
use Rattle.ar_op.specs.Machine.{after, begin, ends}

-- from the first index, code on a value ends with an answer, after n steps and at some cost
pub record EndsWith (code : Code) (value : Value) (answer : Result Bool Fault) : Type 0 where
  pub steps : ℕ
  pub cost : ℕ
  pub is : after code value steps begin ≡ ends answer cost

-- a condition's meaning is an answer, with which the code ends
pub record EndsAsMeant (code : Code) (value : Value) (meaning : Meaning) : Type 0 where
  pub answer : Result Bool Fault
  pub meant : answer_of meaning ≡ Some answer
  pub ending : EndsWith code value answer

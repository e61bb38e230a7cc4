-- What a default is.
use Rattle.std.proofs.Common.{◌≡◌, ◌≢◌, Option, Ok, Err, refl}
use Rattle.std.specs.Prelude.{if◌then◌else◌}
use Rattle.ar_value.specs.declared.operator.BinaryOperator.TheVariants as binary
use Rattle.ar_value.specs.Answer.{◌>>=◌}
use Rattle.ar_value.specs.Value.{Value}
use Rattle.ar_value.specs.Value as values
use Rattle.ar_value.specs.Operators.{Meaning, is_nil}
use Rattle.ar_tree.specs.Meaning.{mean}
use Rattle.ar_tree.specs.Typed.{Typed}
use Rattle.ar_tree.specs.Typed as typed

-- a value that isn't nil stays
kept : (value other : Value) → value ≢ values.nil → (if is_nil value then other else value) ≡ value
kept values.nil other there = absurd (there refl)
kept (values.bool boolean) other there = refl
kept (values.whole whole) other there = refl
kept (values.decimal millionths) other there = refl
kept (values.text letters) other there = refl
kept (values.list items) other there = refl
kept (values.object record_fields) other there = refl

pub is_the_value : (result : Value) (here : Option Value) (operand substitute : Typed) (value other : Value)
    → mean result here operand ≡ Ok value → value ≢ values.nil → mean result here substitute ≡ Ok other
    → mean result here (typed.binary binary.Default operand substitute) ≡ Ok value
is_the_value result here operand substitute value other of there next_to = rw (of, next_to, kept value other there) refl

same : (meaning : Meaning) → (meaning >>= λ other. Ok (if is_nil values.nil then other else values.nil)) ≡ meaning
same (Ok value) = refl
same (Err failure) = refl

pub is_the_other : (result : Value) (here : Option Value) (operand substitute : Typed)
    → mean result here operand ≡ Ok values.nil → mean result here (typed.binary binary.Default operand substitute) ≡ mean result here substitute
is_the_other result here operand substitute of = rw of (same (mean result here substitute))

-- What the verifier says of some code, as the prover computes it from the definitions.
use Rattle.std.specs.Prelude.{◌≡◌, ℕ, pos, true, List, [], ◌∷◌, Result, Ok, Err, refl}
use Rattle.ar_value.specs.Answer.{◌>>=◌}
use Rattle.ar_value.specs.Shape.{whole, list}
use Rattle.ar_value.specs.declared.operator.BinaryOperator.TheVariants as binary
use Rattle.ar_value.specs.declared.operator.Predicate.TheVariants.{All, Any, Filter}
use Rattle.ar_value.specs.declared.operator.Scalar.TheVariants as scalars
use Rattle.ar_op.specs.Code.{code_of_parts}
use Rattle.ar_op.specs.declared.op.Jump.TheVariants as jumps
use Rattle.ar_op.specs.declared.op.Op.{Op}
use Rattle.ar_op.specs.declared.op.Op.TheVariants.{Push, MakeList, Binary, Jump, Enter, Step, Return}
use Rattle.ar_op.specs.declared.op.Source.TheVariants as sources
use Rattle.ar_safety.specs.Arrivals.{deepest}
use Rattle.ar_safety.specs.declared.error.Cause.{Cause}
use Rattle.ar_safety.specs.declared.error.Cause.TheVariants.{Fault}
use Rattle.ar_safety.specs.Verdict.{passed}
use Rattle.ar_safety.specs.declared.error.Reason.{Reason}
use Rattle.ar_safety.specs.declared.error.Reason.TheVariants.{Empty, JumpOutside, Backward, UnpairedLoop, LoopsTooDeep, CrossesLoop, NoReturn, Unreachable, BadMerge, MissingOperand, IllKinded}

-- the depth of code, or its first fault, where `result` is a list of at most three wholes
abbrev of_three : List Op → Result ℕ Cause
of_three ops = passed (code_of_parts ops [] []) (list whole 3) >>= λ sents. Ok (deepest sents)

abbrev faulty : ℕ → Reason → Result ℕ Cause
faulty index reason = Err (Fault index reason)

backward : of_three (Push (sources.Bool true) ∷ Jump jumps.Always 1 ∷ Return ∷ []) ≡ faulty 1 Backward
backward = refl

jumps_into_loop : of_three
    (Jump jumps.Always 3 ∷ Push sources.Result ∷ Enter All 4 ∷ Push (sources.Bool true) ∷ Step All 2 ∷ Return ∷ [])
    ≡ faulty 0 CrossesLoop
jumps_into_loop = refl

step_alone : of_three (Push (sources.Bool true) ∷ Step All 0 ∷ Return ∷ []) ≡ faulty 1 UnpairedLoop
step_alone = refl

takes_below_floor : of_three (Push (sources.Bool true) ∷ Push sources.Result ∷ Enter All 3 ∷ Step All 2 ∷ Return ∷ [])
    ≡ faulty 3 MissingOperand
takes_below_floor = refl

leaves_operand_in_loop : of_three
    (Push sources.Result ∷ Enter All 4 ∷ Push (sources.Bool true) ∷ Push (sources.Bool true) ∷ Step All 1 ∷ Return
    ∷ []) ≡ faulty 4 BadMerge
leaves_operand_in_loop = refl

no_return : of_three (Push (sources.Bool true) ∷ []) ≡ faulty 0 NoReturn
no_return = refl

returns_number : of_three (Push (sources.Whole (pos 1)) ∷ Return ∷ []) ≡ faulty 1 IllKinded
returns_number = refl

jumps_outside : of_three (Push (sources.Bool true) ∷ Jump jumps.Always 5 ∷ Return ∷ []) ≡ faulty 1 JumpOutside
jumps_outside = refl

unreachable : of_three (Push (sources.Bool true) ∷ Return ∷ Return ∷ []) ≡ faulty 2 Unreachable
unreachable = refl

merges_lists : of_three
    (Push (sources.Whole (pos 1)) ∷ Push (sources.Bool true) ∷ Jump jumps.Branch 5 ∷ MakeList scalars.Whole 0
    ∷ Jump jumps.Always 8 ∷ Push (sources.Whole (pos 1)) ∷ Push (sources.Whole (pos 2)) ∷ MakeList scalars.Whole 2
    ∷ Binary binary.IsIn ∷ Return ∷ []) ≡ Ok 3
merges_lists = refl

empty : of_three [] ≡ faulty 0 Empty
empty = refl

all : of_three (Push sources.Result ∷ Enter All 3 ∷ Push (sources.Bool true) ∷ Step All 1 ∷ Return ∷ []) ≡ Ok 1
all = refl

other_family : of_three (Push sources.Result ∷ Enter Any 3 ∷ Push (sources.Bool true) ∷ Step All 1 ∷ Return ∷ [])
    ≡ faulty 1 UnpairedLoop
other_family = refl

returns_in_loop : of_three (Push sources.Result ∷ Enter All 3 ∷ Return ∷ Step All 1 ∷ Return ∷ [])
    ≡ faulty 2 CrossesLoop
returns_in_loop = refl

item_for_boolean : of_three (Push sources.Result ∷ Enter All 3 ∷ Push sources.Item ∷ Step All 1 ∷ Return ∷ [])
    ≡ faulty 3 IllKinded
item_for_boolean = refl

item_outside : of_three (Push sources.Item ∷ Return ∷ []) ≡ faulty 0 MissingOperand
item_outside = refl

heights_differ : of_three (Push (sources.Bool true) ∷ Jump jumps.Branch 3 ∷ Push (sources.Whole (pos 1)) ∷ Return ∷ [])
    ≡ faulty 3 BadMerge
heights_differ = refl

five_loops : of_three (Push sources.Result ∷ Enter All 15 ∷ Push sources.Result ∷ Enter All 14 ∷ Push sources.Result
    ∷ Enter All 13 ∷ Push sources.Result ∷ Enter All 12 ∷ Push sources.Result ∷ Enter All 11 ∷ Push (sources.Bool true)
    ∷ Step All 9 ∷ Step All 7 ∷ Step All 5 ∷ Step All 3 ∷ Step All 1 ∷ Return ∷ []) ≡ faulty 9 LoopsTooDeep
five_loops = refl

loop_after_loop : of_three
    (Push sources.Result ∷ Enter Filter 3 ∷ Push (sources.Bool true) ∷ Step Filter 1 ∷ Enter All 6
    ∷ Push (sources.Bool true) ∷ Step All 4 ∷ Return ∷ []) ≡ Ok 1
loop_after_loop = refl

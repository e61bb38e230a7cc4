-- What the verifier requires of the indexes that operations name, and of loops: its passes 1 to 4. A loop, from its
-- Enter to its Step, holds the indexes after its Enter up to its Step.
use Rattle.std.specs.Prelude.{ℕ, zero, suc, ◌-◌, ◌==◌, Bool, true, false, ◌&&◌, if◌then◌else◌, nat_le, nat_lt, List, [], ◌∷◌, length, Option, Some, None, Result, Ok, Err, slice_get}
use Rattle.ar_value.specs.Terms.{Index}
use Rattle.ar_value.specs.Answer.{◌>>=◌}
use Rattle.ar_value.specs.Predicates.{is_same}
use Rattle.ar_value.specs.declared.operator.Predicate.{Predicate}
use Rattle.ar_value.specs.Limits.{most_loops}
use Rattle.ar_op.specs.Machine.{begins_loop}
use Rattle.ar_op.specs.declared.op.Op.{Op}
use Rattle.ar_op.specs.declared.op.Op.TheVariants.{Push, MakeList, Field, Unary, Binary, Jump, Enter, Step, Return}
use Rattle.ar_safety.specs.declared.error.Cause.{Cause}
use Rattle.ar_safety.specs.declared.error.Cause.TheVariants.{Fault}
use Rattle.ar_safety.specs.declared.error.Reason.{Reason}
use Rattle.ar_safety.specs.declared.error.Reason.TheVariants.{Empty, JumpOutside, Backward, UnpairedLoop, LoopsTooDeep, CrossesLoop, NoReturn}

-- ---- faults

-- the first of two faults, where there is one
abbrev pub or_else : Option Reason → Option Reason → Option Reason
or_else (Some reason) later = Some reason
or_else None later = later

abbrev pub unless : Bool → Reason → Option Reason
unless true reason = None
unless false reason = Some reason

-- what is wrong with an operation at its index, if anything
abbrev pub Pass : Type 0
Pass = Index → Op → Option Reason

abbrev pub fault_or : Index → Option Reason → Result (Unit {0}) Cause → Result (Unit {0}) Cause
fault_or index (Some reason) later = Err (Fault index reason)
fault_or index None later = later

abbrev pub all_pass : Pass → (index : Index) → List Op → Result (Unit {0}) Cause
all_pass pass index [] = Ok tt
all_pass pass index (op ∷ ops) = fault_or index (pass index op) (all_pass pass (suc index) ops)

-- ---- pass 1: there is an operation

abbrev pub has_ops : List Op → Result (Unit {0}) Cause
has_ops [] = Err (Fault 0 Empty)
has_ops (op ∷ ops) = Ok tt

-- ---- pass 2: operations name indexes inside the code, and further on; Enter and Step name each other

-- whether an operation is the Step of an Enter
abbrev pub ends_loop : Predicate → (enter : Index) → Option Op → Bool
ends_loop predicate enter (Some (Step of index)) = is_same predicate of && index == enter
ends_loop predicate enter op = false

module _ (ops : List Op) where
  abbrev pub inside_code : (named : Index) → Option Reason
  inside_code named = unless (nat_lt named (length ops)) JumpOutside

  abbrev pub forward : (index named : Index) → Option Reason
  forward index named = or_else (inside_code named) (unless (nat_lt index named) Backward)

  abbrev pub names_well : Pass
  names_well index (Jump jump target) = forward index target
  names_well index (Enter predicate step) =
      or_else (forward index step) (unless (ends_loop predicate index (slice_get ops step)) UnpairedLoop)
  names_well index (Step predicate enter) =
      or_else (inside_code enter)
      (unless (nat_lt enter index && begins_loop predicate index (slice_get ops enter)) UnpairedLoop)
  names_well index (Push source) = None
  names_well index (MakeList scalar count) = None
  names_well index (Field number) = None
  names_well index (Unary operator) = None
  names_well index (Binary operator) = None
  names_well index Return = None

-- ---- pass 3: loops are nested, at most four deep, and what is in one stays there

-- whether an operation is the Enter of a loop that reaches up to `index`
abbrev pub loop_reaches : Option Op → (index : Index) → Bool
loop_reaches (Some (Enter predicate step)) index = nat_le index step
loop_reaches op index = false

abbrev pub same_loops : List ℕ → List ℕ → Bool
same_loops [] [] = true
same_loops (enter ∷ enters) (other ∷ others) = enter == other && same_loops enters others
same_loops enters others = false

module _ (ops : List Op) where
  -- the Enters of the loops that hold `index`, the innermost first, among the first n operations
  abbrev pub loops_among : (index : Index) → ℕ → List ℕ
  loops_among index zero = []
  loops_among index (suc enter) =
      if loop_reaches (slice_get ops enter) index then enter ∷ loops_among index enter else loops_among index enter

  -- the Enters of the loops that hold `index`, the innermost first
  abbrev pub loops_around : (index : Index) → List ℕ
  loops_around index = loops_among index index

  -- whether a Step is inside the innermost of some loops
  abbrev pub in_innermost : List ℕ → (step : Index) → Bool
  in_innermost [] step = true
  in_innermost (enter ∷ outer) step = loop_reaches (slice_get ops enter) step

  abbrev pub stays : (index target : Index) → Option Reason
  stays index target = unless (same_loops (loops_around index) (loops_around target)) CrossesLoop

  abbrev pub nests_well : Pass
  nests_well index (Jump jump target) = stays index target
  nests_well index (Enter predicate step) =
      or_else (unless (nat_le (length (loops_around (suc index))) most_loops) LoopsTooDeep)
      (unless (in_innermost (loops_around index) step) CrossesLoop)
  nests_well index Return = unless (same_loops (loops_around index) []) CrossesLoop
  nests_well index (Push source) = None
  nests_well index (MakeList scalar count) = None
  nests_well index (Field number) = None
  nests_well index (Unary operator) = None
  nests_well index (Binary operator) = None
  nests_well index (Step predicate enter) = None

-- ---- pass 4: the last operation is Return

abbrev pub is_return : Option Op → Bool
is_return (Some Return) = true
is_return op = false

abbrev pub ends_in_return : List Op → Result (Unit {0}) Cause
ends_in_return ops = if is_return (slice_get ops (length ops - 1)) then Ok tt else Err (Fault (length ops - 1) NoReturn)

-- ---- the passes 1 to 4, one after the other; each begins where the one before it found nothing

abbrev pub indices_pass : List Op → Result (Unit {0}) Cause
indices_pass ops = do
  _ ← has_ops ops
  _ ← all_pass (names_well ops) 0 ops
  _ ← all_pass (nests_well ops) 0 ops
  ends_in_return ops

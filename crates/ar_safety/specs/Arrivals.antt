-- Which operands a run has when it reaches an index, by their kinds: the verifier's pass 5. Operations send operands on
-- to the indexes that a run may reach from them, which are all further on. What arrives at an index is what earlier
-- operations sent there, kind by kind what these have in common.
use Rattle.std.specs.Prelude.{ℕ, suc, ◌+◌, max, ◌==◌, Bool, if◌then◌else◌, nat_lt, List, [], ◌∷◌, ◌++◌, is_none, length, nat_le, Option, Some, None, option_map, option_and_then, Result, Ok, Err}
use Rattle.ar_value.specs.Terms.{Index}
use Rattle.ar_value.specs.Answer.{◌>>=◌}
use Rattle.ar_value.specs.Kind.{Kind, shaped, merge, boolean_kind}
use Rattle.ar_value.specs.Shape.{Shape, bool, whole, list}
use Rattle.ar_value.specs.declared.operator.Predicate.{Predicate}
use Rattle.ar_value.specs.declared.operator.Predicate.TheVariants as predicates
use Rattle.ar_value.specs.Limits.{most_operands}
use Rattle.ar_op.specs.Code.{Code}
use Rattle.ar_op.specs.Machine.{takes}
use Rattle.ar_op.specs.declared.op.Jump.{Jump}
use Rattle.ar_op.specs.declared.op.Jump.TheVariants as jumps
use Rattle.ar_op.specs.declared.op.Op.{Op}
use Rattle.ar_op.specs.declared.op.Op.TheVariants as ops
use Rattle.ar_op.specs.declared.op.Source.TheVariants as sources
use Rattle.ar_safety.specs.Effects.{kinds_left}
use Rattle.ar_safety.specs.declared.error.Cause.{Cause}
use Rattle.ar_safety.specs.declared.error.Cause.TheVariants.{Fault}
use Rattle.ar_safety.specs.declared.error.Reason.{Reason}
use Rattle.ar_safety.specs.declared.error.Reason.TheVariants.{Unreachable, BadMerge, MissingOperand, IllKinded, StackTooDeep}

-- ---- operands

-- a loop around an index: of which list, and which operands are below its floor and above that of the loop around it
pub record Around : Type 0 where
  pub item : Shape
  pub most : ℕ
  pub below : List Kind

-- the operands above the floor of the innermost loop, the top first, and the loops, the innermost first
pub record Operands : Type 0 where
  pub kinds : List Kind
  pub loops : List Around

abbrev pub operands : List Kind → List Around → Operands
operands kinds loops = record { kinds = kinds; loops = loops }

abbrev pub floor_height : List Around → ℕ
floor_height [] = 0
floor_height (loop ∷ outer) = length loop.below + floor_height outer

-- how many operands there are, those below the floor too
abbrev pub height : Operands → ℕ
height operands = length operands.kinds + floor_height operands.loops

-- operands on the way to an index
pub record Sent : Type 0 where
  pub target : Index
  pub operands : Operands

abbrev pub sent : Index → List Kind → List Around → Sent
sent target kinds loops = record { target = target; operands = operands kinds loops }

-- ---- what arrives at an index

abbrev pub sent_to : (index : Index) → List Sent → List Operands
sent_to index [] = []
sent_to index (one ∷ others) = if one.target == index then one.operands ∷ sent_to index others else sent_to index others

-- kind by kind, where there are as many
abbrev pub merged : List Kind → List Kind → Option (List Kind)
merged [] [] = Some []
merged (left ∷ lefts) (right ∷ rights) =
    option_and_then (λ kind. option_map (λ kinds. kind ∷ kinds) (merged lefts rights)) (merge left right)
merged lefts rights = None

-- Operands that arrive at one index come from inside the same loops, so they differ above the floor alone.
abbrev pub of_loops : List Around → Option (List Kind) → Result Operands Reason
of_loops loops (Some kinds) = Ok (operands kinds loops)
of_loops loops None = Err BadMerge

abbrev pub merged_all : Result Operands Reason → List Operands → Result Operands Reason
merged_all so_far [] = so_far
merged_all so_far (next ∷ others) =
    merged_all (so_far >>= λ so_far. of_loops so_far.loops (merged so_far.kinds next.kinds)) others

abbrev pub arrived : List Operands → Result Operands Reason
arrived [] = Err Unreachable
arrived (first ∷ others) = merged_all (Ok first) others

-- ---- what an operation sends on

abbrev pub innermost_shape : List Around → Option Shape
innermost_shape [] = None
innermost_shape (loop ∷ outer) = Some loop.item

-- whether an operand is missing above the floor, or the item that a Push takes
abbrev pub lacks : Op → Operands → Bool
lacks (ops.Push sources.Item) had = is_none (innermost_shape had.loops)
lacks op had = nat_lt (length had.kinds) (takes op)

-- where a boolean is on top
abbrev pub on_boolean_kind : List Kind → (List Kind → Result (List Sent) Reason) → Result (List Sent) Reason
on_boolean_kind (shaped bool ∷ kinds) next = next kinds
on_boolean_kind kinds next = Err IllKinded

abbrev pub to_next : Index → List Around → Option (List Kind) → Result (List Sent) Reason
to_next index loops (Some kinds) = Ok (sent (suc index) kinds loops ∷ [])
to_next index loops None = Err IllKinded

-- what a loop gives over a list of at most `most` items of a shape
abbrev pub answer_kind : Predicate → Shape → (most : ℕ) → Kind
answer_kind predicates.All item most = boolean_kind
answer_kind predicates.Any item most = boolean_kind
answer_kind predicates.None item most = boolean_kind
answer_kind predicates.One item most = boolean_kind
answer_kind predicates.Count item most = shaped whole
answer_kind predicates.Filter item most = shaped (list item most)

-- to the begin of a loop's body, with the operands below its floor alone, and after the loop with its answer
abbrev pub loop_entered : Predicate → (index step : Index) → List Kind → List Around → Result (List Sent) Reason
loop_entered predicate index step (shaped (list item most) ∷ kinds) loops =
    Ok (sent (suc index) [] (record { item = item; most = most; below = kinds } ∷ loops)
    ∷ sent (suc step) (answer_kind predicate item most ∷ kinds) loops ∷ [])
loop_entered predicate index step kinds loops = Err IllKinded

-- after a loop, where nothing but its boolean was above its floor
abbrev pub loop_ended : Predicate → (index : Index) → List Kind → List Around → Result (List Sent) Reason
loop_ended predicate index [] (loop ∷ outer) =
    Ok (sent (suc index) (answer_kind predicate loop.item loop.most ∷ loop.below) outer ∷ [])
loop_ended predicate index kinds loops = Err BadMerge

-- to the target of a jump or on, with the boolean on top where it stays
abbrev pub jump_sends : Jump → (index target : Index) → List Kind → List Around → Result (List Sent) Reason
jump_sends jumps.And index target kinds loops =
    on_boolean_kind kinds (λ taken. Ok (sent target kinds loops ∷ sent (suc index) taken loops ∷ []))
jump_sends jumps.Or index target kinds loops =
    on_boolean_kind kinds (λ taken. Ok (sent target kinds loops ∷ sent (suc index) taken loops ∷ []))
jump_sends jumps.Branch index target kinds loops =
    on_boolean_kind kinds (λ taken. Ok (sent target taken loops ∷ sent (suc index) taken loops ∷ []))
jump_sends jumps.Always index target kinds loops = Ok (sent target kinds loops ∷ [])

abbrev pub passed_on : Code → Shape → (index : Index) → Op → List Kind → List Around → Result (List Sent) Reason
passed_on code result index (ops.Jump jump target) kinds loops = jump_sends jump index target kinds loops
passed_on code result index (ops.Enter predicate step) kinds loops = loop_entered predicate index step kinds loops
passed_on code result index (ops.Step predicate enter) kinds loops =
    on_boolean_kind kinds (λ taken. loop_ended predicate index taken loops)
passed_on code result index ops.Return kinds loops = on_boolean_kind kinds (λ taken. Ok [])
passed_on code result index op kinds loops =
    to_next index loops (kinds_left code result (innermost_shape loops) op kinds)

-- the greatest number of operands on the way anywhere
abbrev pub deepest : List Sent → ℕ
deepest [] = 0
deepest (one ∷ others) = max (height one.operands) (deepest others)

abbrev pub where_shallow : List Sent → Result (List Sent) Reason
where_shallow sents = if nat_le (deepest sents) most_operands then Ok sents else Err StackTooDeep

-- what an operation at `index` sends on, of operands that arrived there
abbrev pub sends : Code → Shape → (index : Index) → Op → Operands → Result (List Sent) Reason
sends code result index op had =
    if lacks op had then Err MissingOperand else passed_on code result index op had.kinds had.loops >>= where_shallow

-- ---- pass 5: all that is sent, by one operation after another

abbrev pub at_index : {A : Type 0} → Index → Result A Reason → Result A Cause
at_index index (Ok x) = Ok x
at_index index (Err reason) = Err (Fault index reason)

-- what operations send on from `index`, after what was sent before
abbrev pub sent_on : Code → Shape → (index : Index) → List Op → List Sent → Result (List Sent) Cause
sent_on code result index [] before = Ok before
sent_on code result index (op ∷ ops) before =
    at_index index (arrived (sent_to index before) >>= sends code result index op)
    >>= λ more. sent_on code result (suc index) ops (before ++ more)

-- a run begins at the first index, without operands
abbrev pub all_sent : Code → Shape → Result (List Sent) Cause
all_sent code result = sent_on code result 0 code.ops (sent 0 [] [] ∷ [])

-- what arrives at `index` of all that is sent
abbrev pub arrival : (index : Index) → List Sent → Result Operands Reason
arrival index sents = arrived (sent_to index sents)

-- What operations send on as the code does it, by the number of the next index.
use Rattle.std.specs.Prelude.{ℕ, ◌+◌, if◌then◌else◌, List, [], ◌∷◌, Option, Some, None, Result, Ok, Err}
use Rattle.ar_value.specs.Answer.{◌>>=◌}
use Rattle.ar_value.specs.Kind.{Kind, shaped}
use Rattle.ar_value.specs.Shape.{Shape, bool}
use Rattle.ar_value.specs.declared.operator.Predicate.{Predicate}
use Rattle.ar_op.specs.Code.{Code}
use Rattle.ar_op.specs.declared.op.Jump.{Jump}
use Rattle.ar_op.specs.declared.op.Jump.TheVariants as jumps
use Rattle.ar_op.specs.declared.op.Op.{Op}
use Rattle.ar_op.specs.declared.op.Op.TheVariants as ops
use Rattle.ar_safety.specs.Arrivals.{Around, Operands, Sent, answer_kind, innermost_shape, lacks, sent, where_shallow}
use Rattle.ar_safety.specs.Effects.{kinds_left}
use Rattle.ar_verify.specs.Private.Held.{operands_view}
use Rattle.ar_verify.specs.Private.Kinds.{list_in}
use Rattle.ar_safety.specs.declared.error.Reason.{Reason}
use Rattle.ar_safety.specs.declared.error.Reason.TheVariants.{BadMerge, IllKinded, MissingOperand}
use Rattle.ar_verify.specs.declared.sending.Sends.{Sends}
use Rattle.ar_verify.specs.declared.sending.Sends.TheVariants as code
use Rattle.ar_verify.specs.declared.sending.Sent as codes
use Rattle.ar_verify.specs.declared.whole.ShapeName as ShapeName

abbrev pub sent_view : {M : Type 0} {name : ShapeName.Ghosts M} → codes.Sent M name → Sent
sent_view s = record { target = s.target; operands = operands_view s.operands }

abbrev pub sends_view : {M : Type 0} {name : ShapeName.Ghosts M} → Sends M name → List Sent
sends_view code.Nothing = []
sends_view (code.One only) = sent_view only ∷ []
sends_view (code.Two first second) = sent_view first ∷ sent_view second ∷ []

-- ---- what is taken off the top

abbrev pub boolean_taken : List Kind → Result (List Kind) Reason
boolean_taken (shaped bool ∷ kinds) = Ok kinds
boolean_taken kinds = Err IllKinded

abbrev pub where_empty : List Kind → Result (List Kind) Reason
where_empty [] = Ok []
where_empty (kind ∷ kinds) = Err BadMerge

-- a boolean with nothing below it
abbrev pub only_boolean : List Kind → Result (List Kind) Reason
only_boolean kinds = boolean_taken kinds >>= λ taken. where_empty taken

abbrev pub parts_taken : Option (Shape × ℕ) → List Kind → Result ((Shape × ℕ) × List Kind) Reason
parts_taken (Some parts) kinds = Ok (parts, kinds)
parts_taken None kinds = Err IllKinded

-- a list's item and greatest length, and what is below it
abbrev pub list_taken : List Kind → Result ((Shape × ℕ) × List Kind) Reason
list_taken [] = Err IllKinded
list_taken (kind ∷ kinds) = parts_taken (list_in kind) kinds

-- what an operation gives is on top
abbrev pub given_on_top : Option Kind → List Kind → Result (List Kind) Reason
given_on_top (Some kind) kinds = Ok (kind ∷ kinds)
given_on_top None kinds = Err IllKinded

-- ---- what is sent on, where the next index has a number

-- what is above the floor once an operation was performed that continues at the next index
abbrev pub or_ill_kinded : Option (List Kind) → Result (List Kind) Reason
or_ill_kinded (Some kinds) = Ok kinds
or_ill_kinded None = Err IllKinded

abbrev pub going_on : (next : ℕ) → List Around → Option (List Kind) → Result (List Sent) Reason
going_on next loops given = or_ill_kinded given >>= λ kinds. Ok (sent next kinds loops ∷ [])

abbrev pub kept_or_taken : (next target : ℕ) → List Kind → List Around → Result (List Sent) Reason
kept_or_taken next target kinds loops =
    boolean_taken kinds >>= λ taken. Ok (sent target kinds loops ∷ sent next taken loops ∷ [])

abbrev pub branched : (next target : ℕ) → List Kind → List Around → Result (List Sent) Reason
branched next target kinds loops =
    boolean_taken kinds >>= λ taken. Ok (sent target taken loops ∷ sent next taken loops ∷ [])

abbrev pub around : (Shape × ℕ) × List Kind → Around
around taken = record { item = taken.0.0; most = taken.0.1; below = taken.1 }

-- where a list was taken off the top of some kinds
abbrev pub begun : Predicate → (next later : ℕ) → (Shape × ℕ) × List Kind → List Around → List Sent
begun predicate next later taken loops =
    sent next [] (around taken ∷ loops) ∷ sent later (answer_kind predicate taken.0.0 taken.0.1 ∷ taken.1) loops ∷ []

abbrev pub beginning : Predicate → (next later : ℕ) → List Kind → List Around → Result (List Sent) Reason
beginning predicate next later kinds loops = list_taken kinds >>= λ taken. Ok (begun predicate next later taken loops)

abbrev pub ending : Predicate → (next : ℕ) → List Kind → List Around → Result (List Sent) Reason
ending predicate next [] (loop ∷ outer) =
    Ok (sent next (answer_kind predicate loop.item loop.most ∷ loop.below) outer ∷ [])
ending predicate next kinds loops = Err BadMerge

abbrev pub stepping : Predicate → (next : ℕ) → List Kind → List Around → Result (List Sent) Reason
stepping predicate next kinds loops = boolean_taken kinds >>= λ taken. ending predicate next taken loops

abbrev pub returning : List Kind → Result (List Sent) Reason
returning kinds = boolean_taken kinds >>= λ taken. Ok []

abbrev pub jumping : Jump → (next target : ℕ) → List Kind → List Around → Result (List Sent) Reason
jumping jumps.And next target kinds loops = kept_or_taken next target kinds loops
jumping jumps.Or next target kinds loops = kept_or_taken next target kinds loops
jumping jumps.Branch next target kinds loops = branched next target kinds loops
jumping jumps.Always next target kinds loops = Ok (sent target kinds loops ∷ [])

abbrev pub passed_by : Code → Shape → (next : ℕ) → Op → List Kind → List Around → Result (List Sent) Reason
passed_by code result next (ops.Jump jump target) kinds loops = jumping jump next target kinds loops
passed_by code result next (ops.Enter predicate step) kinds loops = beginning predicate next (step + 1) kinds loops
passed_by code result next (ops.Step predicate enter) kinds loops = stepping predicate next kinds loops
passed_by code result next ops.Return kinds loops = returning kinds
passed_by code result next op kinds loops =
    going_on next loops (kinds_left code result (innermost_shape loops) op kinds)

abbrev pub sends_by : Code → Shape → (next : ℕ) → Op → Operands → Result (List Sent) Reason
sends_by code result next op had =
    if lacks op had then Err MissingOperand else passed_by code result next op had.kinds had.loops >>= where_shallow

-- What operations send on, by the number of the next index.
use Rattle.std.proofs.Common.{◌≡◌, ℕ, suc, ◌+◌, Bool, true, false, List, [], ◌∷◌, Option, Some, None, Result, Ok, Err, refl, sym, ap, ◌∙◌, add-one}
use Rattle.ar_value.specs.Answer.{◌>>=◌}
use Rattle.ar_value.specs.Kind.{Kind, nil, shaped}
use Rattle.ar_value.specs.Shape.{Shape, bool, whole, decimal, text, list, object, optional}
use Rattle.ar_value.specs.declared.operator.Predicate.{Predicate}
use Rattle.ar_value.specs.declared.operator.Scalar.TheVariants as scalars
use Rattle.ar_op.specs.Code.{Code}
use Rattle.ar_op.specs.declared.op.Jump.{Jump}
use Rattle.ar_op.specs.declared.op.Jump.TheVariants as jumps_by
use Rattle.ar_op.specs.declared.op.Op.{Op}
use Rattle.ar_op.specs.declared.op.Op.TheVariants as ops
use Rattle.ar_safety.specs.Arrivals.{Around, Operands, Sent, loop_ended, loop_entered, innermost_shape, jump_sends, on_boolean_kind, passed_on, sends, sent, to_next}
use Rattle.ar_safety.specs.Effects.{kinds_left, is_scalar_kind}
use Rattle.ar_verify.specs.Private.Sending.{beginning, ending, going_on, jumping, passed_by, sends_by, boolean_taken}
use Rattle.ar_verify.specs.Private.Stacks.{TakesScalar}
use Rattle.ar_safety.specs.declared.error.Reason.{Reason}
use Rattle.ar_safety.specs.declared.error.Reason.TheVariants.{IllKinded}

-- ---- a boolean on top

boolean_on_top : (kind : Kind) (kinds : List Kind) → true ≡ is_scalar_kind scalars.Bool kind → boolean_taken (kind ∷ kinds) ≡ Ok kinds
boolean_on_top nil kinds is = absurd cc
boolean_on_top (shaped bool) kinds is = refl
boolean_on_top (shaped whole) kinds is = absurd cc
boolean_on_top (shaped decimal) kinds is = absurd cc
boolean_on_top (shaped text) kinds is = absurd cc
boolean_on_top (shaped (list shape most)) kinds is = absurd cc
boolean_on_top (shaped (object inside)) kinds is = absurd cc
boolean_on_top (shaped (optional shape)) kinds is = absurd cc

no_boolean_on_top : (kind : Kind) (kinds : List Kind) → false ≡ is_scalar_kind scalars.Bool kind → boolean_taken (kind ∷ kinds) ≡ Err IllKinded
no_boolean_on_top nil kinds is = refl
no_boolean_on_top (shaped bool) kinds is = absurd cc
no_boolean_on_top (shaped whole) kinds is = refl
no_boolean_on_top (shaped decimal) kinds is = refl
no_boolean_on_top (shaped text) kinds is = refl
no_boolean_on_top (shaped (list shape most)) kinds is = refl
no_boolean_on_top (shaped (object inside)) kinds is = refl
no_boolean_on_top (shaped (optional shape)) kinds is = refl

pub boolean_is_taken : (before after : List Kind) (is_taken : Bool) → TakesScalar scalars.Bool before after is_taken → is_taken ≡ true → boolean_taken before ≡ Ok after
boolean_is_taken [] after is_taken takes is = absurd cc
boolean_is_taken (kind ∷ before) after is_taken takes is = boolean_on_top kind before (sym is ∙ takes.0) ∙ ap Ok (sym takes.1)

pub no_boolean_is_taken : (before after : List Kind) (is_taken : Bool) → TakesScalar scalars.Bool before after is_taken → is_taken ≡ false → boolean_taken before ≡ Err IllKinded
no_boolean_is_taken [] after is_taken takes is = refl
no_boolean_is_taken (kind ∷ before) after is_taken takes is = no_boolean_on_top kind before (sym is ∙ takes.0)

-- ---- operations

taken_next : (kinds : List Kind) (next : List Kind → Result (List Sent) Reason) → on_boolean_kind kinds next ≡ (boolean_taken kinds >>= next)
taken_next [] next = refl
taken_next (nil ∷ kinds) next = refl
taken_next (shaped bool ∷ kinds) next = refl
taken_next (shaped whole ∷ kinds) next = refl
taken_next (shaped decimal ∷ kinds) next = refl
taken_next (shaped text ∷ kinds) next = refl
taken_next (shaped (list shape most) ∷ kinds) next = refl
taken_next (shaped (object inside) ∷ kinds) next = refl
taken_next (shaped (optional shape) ∷ kinds) next = refl

begins : (predicate : Predicate) (index step : ℕ) (kinds : List Kind) (loops : List Around) → loop_entered predicate index step kinds loops ≡ beginning predicate (suc index) (suc step) kinds loops
begins predicate index step [] loops = refl
begins predicate index step (nil ∷ kinds) loops = refl
begins predicate index step (shaped bool ∷ kinds) loops = refl
begins predicate index step (shaped whole ∷ kinds) loops = refl
begins predicate index step (shaped decimal ∷ kinds) loops = refl
begins predicate index step (shaped text ∷ kinds) loops = refl
begins predicate index step (shaped (list shape most) ∷ kinds) loops = refl
begins predicate index step (shaped (object inside) ∷ kinds) loops = refl
begins predicate index step (shaped (optional shape) ∷ kinds) loops = refl

ends_by : (predicate : Predicate) (index : ℕ) (kinds : List Kind) (loops : List Around) → loop_ended predicate index kinds loops ≡ ending predicate (suc index) kinds loops
ends_by predicate index [] [] = refl
ends_by predicate index [] (loop ∷ outer) = refl
ends_by predicate index (kind ∷ kinds) loops = refl

proceeds_by : (index : ℕ) (loops : List Around) (given : Option (List Kind)) → to_next index loops given ≡ going_on (suc index) loops given
proceeds_by index loops (Some kinds) = refl
proceeds_by index loops None = refl

steps_by : (predicate : Predicate) (index : ℕ) (taken : Result (List Kind) Reason) (loops : List Around)
    → (taken >>= λ taken. loop_ended predicate index taken loops) ≡ (taken >>= λ taken. ending predicate (suc index) taken loops)
steps_by predicate index (Ok taken) loops = ends_by predicate index taken loops
steps_by predicate index (Err reason) loops = refl

module _ (code : Code) (result : Shape) (index : ℕ) (kinds : List Kind) (loops : List Around) where
  proceeds : (op : Op) → to_next index loops (kinds_left code result (innermost_shape loops) op kinds) ≡ going_on (suc index) loops (kinds_left code result (innermost_shape loops) op kinds)
  proceeds op = proceeds_by index loops (kinds_left code result (innermost_shape loops) op kinds)

  jumps : (jump : Jump) (target : ℕ) → jump_sends jump index target kinds loops ≡ jumping jump (suc index) target kinds loops
  jumps jumps_by.And target = taken_next kinds (λ taken. Ok (sent target kinds loops ∷ sent (suc index) taken loops ∷ []))
  jumps jumps_by.Or target = taken_next kinds (λ taken. Ok (sent target kinds loops ∷ sent (suc index) taken loops ∷ []))
  jumps jumps_by.Branch target = taken_next kinds (λ taken. Ok (sent target taken loops ∷ sent (suc index) taken loops ∷ []))
  jumps jumps_by.Always target = refl

  passes : (op : Op) → passed_on code result index op kinds loops ≡ passed_by code result (suc index) op kinds loops
  passes (ops.Push source) = proceeds (ops.Push source)
  passes (ops.MakeList scalar count) = proceeds (ops.MakeList scalar count)
  passes (ops.Field number) = proceeds (ops.Field number)
  passes (ops.Unary operator) = proceeds (ops.Unary operator)
  passes (ops.Binary operator) = proceeds (ops.Binary operator)
  passes (ops.Jump jump target) = jumps jump target
  passes (ops.Enter predicate step) = begins predicate index step kinds loops ∙ ap (λ later. beginning predicate (suc index) later kinds loops) (sym (add-one step))
  passes (ops.Step predicate enter) = taken_next kinds (λ taken. loop_ended predicate index taken loops) ∙ steps_by predicate index (boolean_taken kinds) loops
  passes ops.Return = taken_next kinds (λ taken. Ok [])

pub sends_as : (code : Code) (result : Shape) (index : ℕ) (op : Op) (had : Operands) → sends code result index op had ≡ sends_by code result (index + 1) op had
sends_as code result index op had = rw (add-one index, passes code result index had.kinds had.loops op) refl

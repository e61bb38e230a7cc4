-- Operations send on to indexes that the code has, or to the one after them.
use Rattle.std.proofs.Common.{◌≡◌, ◌<◌, ℕ, suc, ◌+◌, Bool, true, false, List, [], ◌∷◌, length, Option, Some, None, Result, Ok, Err, sym, arith}
use Rattle.std.specs.Prelude.{if◌then◌else◌, slice_get}
use Rattle.std.specs.List.{AllByRecursion}
use Rattle.ar_value.specs.Answer.{◌>>=◌}
use Rattle.ar_value.specs.Kind.{Kind}
use Rattle.ar_value.specs.Shape.{Shape}
use Rattle.ar_value.specs.declared.operator.Predicate.{Predicate}
use Rattle.ar_op.specs.Code.{Code}
use Rattle.ar_op.specs.declared.op.Jump.{Jump}
use Rattle.ar_op.specs.declared.op.Jump.TheVariants as jumps
use Rattle.ar_op.specs.declared.op.Op.{Op}
use Rattle.ar_op.specs.declared.op.Op.TheVariants as ops
use Rattle.ar_safety.specs.Arrivals.{Around, Operands, Sent, answer_kind, innermost_shape, lacks, sent, where_shallow}
use Rattle.ar_safety.specs.Effects.{kinds_left}
use Rattle.ar_safety.specs.Indices.{ends_loop, forward, names_well, unless}
use Rattle.ar_verify.specs.Private.Sending.{around, ending, going_on, jumping, kept_or_taken, list_taken, passed_by, sends_by, boolean_taken}
use Rattle.ar_verify.specs.Private.Table.{StaysWithin}
use Rattle.ar_safety.specs.declared.error.Reason.{Reason}
use Rattle.ar_safety.specs.declared.error.Reason.TheVariants.{MissingOperand, UnpairedLoop}
use Rattle.ar_safety.proofs.Nesting.{is_ahead, none_of_both}
use Rattle.ar_safety.proofs.Passing.{bound, unlike}

module _ (count : ℕ) where
  abbrev Within : List Sent → Type 0
  Within sents = AllByRecursion (λ one. one.target < count) sents

  same_within : (sents more : List Sent) → Within sents → sents ≡ more → Within more
  same_within sents more within same = rw (sym same) within

  abbrev Sends : Result (List Sent) Reason → List Sent → Type 0
  Sends answer more = answer ≡ Ok more

  ok_within : (sents more : List Sent) → Within sents → Sends (Ok sents) more → Within more
  ok_within sents more within is = let same : sents ≡ more = cc in same_within sents more within same

  going_within : (next : ℕ) (loops : List Around) (given : Option (List Kind)) (more : List Sent) → next < count → going_on next loops given ≡ Ok more → Within more
  going_within next loops (Some kinds) more inside is = ok_within (sent next kinds loops ∷ []) more (inside, tt) is
  going_within next loops None more inside is = absurd cc

  ending_within : (predicate : Predicate) (next : ℕ) (kinds : List Kind) (loops : List Around) (more : List Sent) → next < count → ending predicate next kinds loops ≡ Ok more → Within more
  ending_within predicate next [] (loop ∷ outer) more inside is = ok_within (sent next (answer_kind predicate loop.item loop.most ∷ loop.below) outer ∷ []) more (inside, tt) is
  ending_within predicate next [] [] more inside is = absurd cc
  ending_within predicate next (kind ∷ kinds) loops more inside is = absurd cc

  shallow_same : (sents more : List Sent) (is_shallow : Bool) (reason : Reason) → (if is_shallow then Ok sents else Err reason) ≡ Ok more → sents ≡ more
  shallow_same sents more true reason is = cc
  shallow_same sents more false reason is = absurd cc

  module _ (code : Code) (result : Shape) (next : ℕ) (inside : next < count) where
    keeps_or_takes : (target : ℕ) (kinds : List Kind) (loops : List Around) (more : List Sent) → target < count → kept_or_taken next target kinds loops ≡ Ok more → Within more
    keeps_or_takes target kinds loops more within is =
        let taken = bound (boolean_taken kinds) (λ taken. Ok (sent target kinds loops ∷ sent next taken loops ∷ [])) more is in
        ok_within (sent target kinds loops ∷ sent next taken.0 loops ∷ []) more (within, (inside, tt)) taken.2

    jump_within : (jump : Jump) (target : ℕ) (kinds : List Kind) (loops : List Around) (more : List Sent) → target < count → jumping jump next target kinds loops ≡ Ok more → Within more
    jump_within jumps.And target kinds loops more within is = keeps_or_takes target kinds loops more within is
    jump_within jumps.Or target kinds loops more within is = keeps_or_takes target kinds loops more within is
    jump_within jumps.Branch target kinds loops more within is =
        let taken = bound (boolean_taken kinds) (λ taken. Ok (sent target taken loops ∷ sent next taken loops ∷ [])) more is in
        ok_within (sent target taken.0 loops ∷ sent next taken.0 loops ∷ []) more (within, (inside, tt)) taken.2
    jump_within jumps.Always target kinds loops more within is = ok_within (sent target kinds loops ∷ []) more (within, tt) is

    passed_within : (op : Op) (kinds : List Kind) (loops : List Around) (more : List Sent) → StaysWithin count op → passed_by code result next op kinds loops ≡ Ok more → Within more
    passed_within (ops.Jump jump target) kinds loops more within is = jump_within jump target kinds loops more within is
    passed_within (ops.Enter predicate step) kinds loops more within is =
        let taken = bound (list_taken kinds) (λ taken. Ok (sent next [] (around taken ∷ loops) ∷ sent (step + 1) (answer_kind predicate taken.0.0 taken.0.1 ∷ taken.1) loops ∷ [])) more is in
        ok_within (sent next [] (around taken.0 ∷ loops) ∷ sent (step + 1) (answer_kind predicate taken.0.0.0 taken.0.0.1 ∷ taken.0.1) loops ∷ []) more (inside, (within, tt)) taken.2
    passed_within (ops.Step predicate enter) kinds loops more within is =
        let taken = bound (boolean_taken kinds) (λ taken. ending predicate next taken loops) more is in
        ending_within predicate next taken.0 loops more inside taken.2
    passed_within ops.Return kinds loops more within is =
        let taken = bound (boolean_taken kinds) (λ taken. Ok []) more is in
        ok_within [] more tt taken.2
    passed_within op kinds loops more within is = going_within next loops (kinds_left code result (innermost_shape loops) op kinds) more inside is

    pub sends_within : (op : Op) (had : Operands) (more : List Sent) → StaysWithin count op → sends_by code result next op had ≡ Ok more → Within more
    sends_within op had more within is =
        let enough = unlike (lacks op had) MissingOperand (passed_by code result next op had.kinds had.loops >>= where_shallow) more is in
        let passed = bound (passed_by code result next op had.kinds had.loops) where_shallow more enough.1 in
        same_within passed.0 more (passed_within op had.kinds had.loops passed.0 within passed.1) (shallow_same passed.0 more _ _ passed.2)

-- ---- operations that name indexes well

module _ (all : List Op) (index : ℕ) where
  ahead : (target : ℕ) → forward all index target ≡ None → target < suc (length all)
  ahead target well = let inside = (is_ahead all index target well).1 in omega arith

  pub stays_within : (op : Op) → names_well all index op ≡ None → StaysWithin (suc (length all)) op
  stays_within (ops.Jump jump target) well = ahead target well
  stays_within (ops.Enter predicate step) well =
      let each = none_of_both (forward all index step) (unless (ends_loop predicate index (slice_get all step)) UnpairedLoop) well in
      let inside = (is_ahead all index step each.0).1 in omega arith
  stays_within op well = tt

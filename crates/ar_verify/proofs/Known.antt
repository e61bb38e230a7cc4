-- What is known of the operands of code for which the pass found no fault.
use Rattle.std.proofs.Common.{◌≡◌, ◌<◌, ℕ, zero, suc, ◌+◌, Bool, true, false, List, [], ◌∷◌, ◌++◌, length, Result, Ok, Err, refl, sym, ap, ◌∙◌, arith}
use Rattle.std.specs.Prelude.{nat_lt, slice_index_or}
use Rattle.std.proofs.Math.Seq.{get_or-append_seam}
use Rattle.std.proofs.lemmas.Bool.Decides.{nat_tests}
use Rattle.std.proofs.lemmas.List.{get_or_append_left, length-append}
use Rattle.ar_value.specs.Answer.{◌>>=◌}
use Rattle.ar_value.specs.Shape.{Shape}
use Rattle.ar_op.specs.Code.{Code}
use Rattle.ar_safety.specs.Arrivals.{Sent, all_sent, arrival, deepest}
use Rattle.ar_safety.specs.Budget.{most_items}
use Rattle.ar_verify.specs.Private.Table.{Summary, most_each, summary, summed_up}
use Rattle.ar_safety.specs.declared.error.Cause.{Cause}
use Rattle.ar_safety.proofs.Passing.{bound}

long_each : (indices : ℕ) (sents : List Sent) → length (most_each indices sents) ≡ indices
long_each zero sents = refl
long_each (suc indices) sents =
    length-append (most_each indices sents) (most_items (arrival indices sents) ∷ []) ∙ ap (λ n. n + 1) (long_each indices sents) ∙ (omega arith)

module _ (indices : ℕ) (sents : List Sent) (index d : ℕ) (within : index < suc indices) where
  last_or_before : (is_before : Bool) → nat_lt index indices ≡ is_before → (index < indices → slice_index_or (most_each indices sents) index d ≡ most_items (arrival index sents))
      → slice_index_or (most_each indices sents ++ most_items (arrival indices sents) ∷ []) index d ≡ most_items (arrival index sents)
  last_or_before true is before =
      let earlier : index < indices = grind (arith, nat_tests) in
      get_or_append_left (most_each indices sents) (most_items (arrival indices sents) ∷ []) d index (rw (long_each indices sents) earlier) ∙ before earlier
  last_or_before false is before =
      let last : index ≡ length (most_each indices sents) = let past : index ≡ indices = grind (arith, nat_tests) in past ∙ sym (long_each indices sents) in
      ap (λ i. slice_index_or (most_each indices sents ++ most_items (arrival indices sents) ∷ []) i d) last ∙ get_or-append_seam (most_each indices sents) (most_items (arrival indices sents)) [] d
      ∙ ap (λ i. most_items (arrival i sents)) (sym (long_each indices sents) ∙ sym last)

-- the number of each index
each_at : (indices : ℕ) (sents : List Sent) (index d : ℕ) → index < indices → slice_index_or (most_each indices sents) index d ≡ most_items (arrival index sents)
each_at zero sents index d within = absurd (omega arith)
each_at (suc indices) sents index d within = last_or_before indices sents index d within (nat_lt index indices) refl (each_at indices sents index d)

pub record Known (code : Code) (shape : Shape) (s : Summary) : Type 0 where
  pub sents : List Sent
  pub all : all_sent code shape ≡ Ok sents
  pub depth : s.depth ≡ deepest sents
  pub long : length s.most_items ≡ length code.ops
  pub most_items : (index d : ℕ) → index < length code.ops → slice_index_or s.most_items index d ≡ most_items (arrival index sents)

known_of : (code : Code) (shape : Shape) (sents : List Sent) (s : Summary) → all_sent code shape ≡ Ok sents → summary (length code.ops) sents ≡ s → Known code shape s
known_of code shape sents s all is = rw (← is) (record {
  sents = sents;
  all = all;
  depth = refl;
  long = long_each (length code.ops) sents;
  most_items = each_at (length code.ops) sents;
})

abbrev IsKnown : Result Summary Cause → Summary → Type 0
IsKnown answer s = answer ≡ Ok s

same_summary : (found s : Summary) → IsKnown (Ok found) s → found ≡ s
same_summary found s is = cc

pub known : (code : Code) (shape : Shape) (s : Summary) → summed_up code shape ≡ Ok s → Known code shape s
known code shape s is =
    let sents = bound (all_sent code shape) (λ sents. Ok (summary (length code.ops) sents)) s is in
    known_of code shape sents.0 s sents.1 (same_summary (summary (length code.ops) sents.0) s sents.2)

-- a fault of the one is that of the other
refused_of : (m : Result (List Sent) Cause) (indices : ℕ) (cause : Cause) → (m >>= λ sents. Ok (summary indices sents)) ≡ Err cause → m ≡ Err cause
refused_of (Ok sents) indices cause is = absurd cc
refused_of (Err other) indices cause is = cc

pub refused : (code : Code) (shape : Shape) (cause : Cause) → summed_up code shape ≡ Err cause → all_sent code shape ≡ Err cause
refused code shape cause is = refused_of (all_sent code shape) (length code.ops) cause is

-- The table of what arrived at each index.
use Rattle.std.proofs.Common.{◌≡◌, ◌+◌, ◌<◌, ◌≤◌, ℕ, List, [], ◌∷◌, ◌++◌, length, replicate, Result, Ok, Err, refl, sym, ap, ◌∙◌, arith}
use Rattle.std.specs.Prelude.{max, slice_index_or, slice_set}
use Rattle.std.proofs.lemmas.List.{get_or-map, map-append, map-set, replicate-append-replicate, set-set}
use Rattle.ar_value.specs.Shape.{Shape}
use Rattle.ar_value.specs.Limits.{most_operands}
use Rattle.ar_op.specs.Code.{Code}
use Rattle.ar_op.specs.declared.op.Op.{Op}
use Rattle.ar_safety.specs.Arrivals.{Operands, Sent, deepest, operands}
use Rattle.ar_verify.specs.Private.Held.{arrival_view, counted, operands_view}
use Rattle.ar_verify.specs.Private.Sending.{sends_by}
use Rattle.ar_verify.specs.Private.Table.{Sweep, Table, added, entry, table_view, with_all, without}
use Rattle.ar_safety.specs.declared.error.Reason.{Reason}
use Rattle.ar_safety.specs.declared.error.Reason.TheVariants.{Unreachable}
use Rattle.ar_verify.specs.declared.operands.Operands as held
use Rattle.ar_verify.specs.declared.whole.ShapeName as ShapeName

-- ---- in memory

module _ {M : Type 0} {name : ShapeName.Ghosts M} (arrived : List (Result (held.Operands M name) Reason)) (index : ℕ) where
  pub entry_is : (taken : Result (held.Operands M name) Reason) → index < length arrived → taken ≡ slice_index_or arrived index taken → entry (table_view arrived) index ≡ arrival_view taken
  entry_is taken within is = get_or-map arrival_view arrived index taken (Err Unreachable) within ∙ ap arrival_view (sym is)

  pub taken_away : without (table_view arrived) index ≡ table_view (slice_set arrived index (Err Unreachable))
  taken_away = sym (map-set arrival_view arrived index (Err Unreachable))

  pub put_there : (left : List (Result (held.Operands M name) Reason)) (put : Result (held.Operands M name) Reason) → table_view left ≡ without (table_view arrived) index
      → table_view (slice_set left index put) ≡ slice_set (table_view arrived) index (arrival_view put)
  put_there left put is = map-set arrival_view left index put ∙ ap (λ table. slice_set table index (arrival_view put)) is ∙ set-set (table_view arrived) index (Err Unreachable) (arrival_view put)

-- a table of n indexes, made index by index
module _ {M : Type 0} {name : ShapeName.Ghosts M} (arrived after : List (Result (held.Operands M name) Reason)) where
  pub one_index : (had : held.Operands M name) → arrived ≡ [] → after ≡ arrived ++ Ok had ∷ [] → operands_view had ≡ operands [] [] → table_view after ≡ Ok (operands [] []) ∷ replicate 0 (Err Unreachable)
  one_index had none longer is = rw (longer, none) (ap (λ had. Ok had ∷ []) is)

  pub one_index_more : (count : ℕ) → after ≡ arrived ++ Err Unreachable ∷ [] → table_view arrived ≡ Ok (operands [] []) ∷ replicate count (Err Unreachable)
      → table_view after ≡ Ok (operands [] []) ∷ replicate (count + 1) (Err Unreachable)
  one_index_more count longer so_far =
      rw longer (map-append arrival_view arrived (Err Unreachable ∷ []) ∙ ap (λ before. before ++ Err Unreachable ∷ []) so_far ∙ ap (λ rest. Ok (operands [] []) ∷ rest) (replicate-append-replicate count 1 (Err Unreachable)))

-- all that an operation sends on is added
pub all_added : (code : Code) (shape : Shape) (next : ℕ) (op : Op) (s : Sweep) (had : Operands) (sents : List Sent) (before after : Table) (height depth : ℕ)
    → sends_by code shape next op had ≡ Ok sents → before ≡ s.table → after ≡ with_all before sents → height ≡ counted (deepest sents) → deepest sents ≤ most_operands → depth ≡ max s.found.depth height
    → added code shape next op s had ≡ Ok (record { table = after; found = record { depth = depth; most_items = s.found.most_items } })
all_added code shape next op s had sents before after height depth sent same put high shallow most =
    let exactly : height ≡ deepest sents = omega (arith, high, shallow) in rw (sent, put, same, most, exactly) refl

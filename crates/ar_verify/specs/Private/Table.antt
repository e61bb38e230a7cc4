-- Pass 5 as the code does it: a table of what arrived at each index so far, to which each operation adds what it sends
-- on.
use Rattle.std.specs.Prelude.{◌≡◌, ◌<◌, ◌≤◌, ℕ, zero, suc, ◌+◌, max, List, [], ◌∷◌, ◌++◌, drop, length, map, slice_index_or, slice_set, Result, Ok, Err}
use Rattle.ar_value.specs.Answer.{◌>>=◌}
use Rattle.ar_value.specs.Shape.{Shape}
use Rattle.ar_op.specs.Code.{Code}
use Rattle.ar_op.specs.declared.op.Op.{Op}
use Rattle.ar_op.specs.declared.op.Op.TheVariants as ops
use Rattle.ar_safety.specs.Arrivals.{Operands, Sent, all_sent, arrival, arrived, deepest, merged, of_loops, sent_on, sent_to}
use Rattle.ar_safety.specs.Budget.{most_items, most_on_top}
use Rattle.ar_verify.specs.Private.Held.{arrival_view}
use Rattle.ar_verify.specs.Private.Sending.{sends_by}
use Rattle.ar_verify.specs.declared.arrivals.Arrivals as code
use Rattle.ar_verify.specs.declared.arrivals.Pass as passes
use Rattle.ar_safety.specs.declared.error.Cause.{Cause}
use Rattle.ar_safety.specs.declared.error.Reason.{Reason}
use Rattle.ar_safety.specs.declared.error.Reason.TheVariants.{Unreachable}
use Rattle.ar_verify.specs.declared.operands.Operands as held
use Rattle.ar_verify.specs.declared.whole.ShapeName as ShapeName

-- ---- what is known once the pass found no fault

-- the greatest number of operands, and how many items a list on top may have at each index
pub record Summary : Type 0 where
  pub depth : ℕ
  pub most_items : List ℕ

-- at the first `indices` indexes
abbrev pub most_each : (indices : ℕ) → List Sent → List ℕ
most_each zero sents = []
most_each (suc index) sents = most_each index sents ++ most_items (arrival index sents) ∷ []

abbrev pub summary : (indices : ℕ) → List Sent → Summary
summary indices sents = record { depth = deepest sents; most_items = most_each indices sents }

abbrev pub summary_view : code.Arrivals → Summary
summary_view a = record { depth = a.depth; most_items = a.most_items.items }

-- of the operands of some code
abbrev pub summed_up : Code → Shape → Result Summary Cause
summed_up code shape = all_sent code shape >>= λ sents. Ok (summary (length code.ops) sents)

-- ---- the table

-- what arrived somewhere, and one more after it
abbrev pub one_more : Result Operands Reason → Operands → Result Operands Reason
one_more (Ok so_far) next = of_loops so_far.loops (merged so_far.kinds next.kinds)
one_more (Err Unreachable) next = Ok next
one_more (Err reason) next = Err reason

abbrev pub Table : Type 0
Table = List (Result Operands Reason)

abbrev pub table_view : {M : Type 0} {name : ShapeName.Ghosts M} → List (Result (held.Operands M name) Reason) → Table
table_view arrived = map arrival_view arrived

abbrev pub entry : Table → (index : ℕ) → Result Operands Reason
entry table index = slice_index_or table index (Err Unreachable)

abbrev pub with_one : Table → Sent → Table
with_one table one = slice_set table one.target (one_more (entry table one.target) one.operands)

abbrev pub with_all : Table → List Sent → Table
with_all table [] = table
with_all table (one ∷ others) = with_all (with_one table one) others

abbrev pub without : Table → (index : ℕ) → Table
without table index = slice_set table index (Err Unreachable)

-- the table shows what arrives at each index from `index` on
abbrev pub Shows : (index : ℕ) → Table → List Sent → Type 0
Shows index table sents = (further : ℕ) → index ≤ further → further < length table
    → entry table further ≡ arrived (sent_to further sents)

-- ---- the pass

pub record Sweep : Type 0 where
  pub table : Table
  pub found : Summary

abbrev pub pass_view : {M : Type 0} {name : ShapeName.Ghosts M} → passes.Pass M name → Sweep
pass_view p = record { table = table_view p.arrived.items; found = summary_view p.found }

-- what arrived at `index` is taken
abbrev pub take_from_table : (index : ℕ) → Sweep → Operands → Sweep
take_from_table index s had =
    record {
      table = without s.table index;
      found = record { depth = s.found.depth; most_items = s.found.most_items ++ most_on_top had.kinds ∷ [] };
    }

abbrev pub with_sent : Sweep → List Sent → Sweep
with_sent s sents =
    record {
      table = with_all s.table sents;
      found = record { depth = max s.found.depth (deepest sents); most_items = s.found.most_items };
    }

abbrev pub visited : (index : ℕ) → Sweep → Operands → List Sent → Sweep
visited index s had sents = with_sent (take_from_table index s had) sents

-- what an operation sends on is added, where the next index has a number
abbrev pub added : Code → Shape → (next : ℕ) → Op → Sweep → Operands → Result Sweep Reason
added code shape next op s had = sends_by code shape next op had >>= λ sents. Ok (with_sent s sents)

-- the operation at `index` is visited
abbrev pub index_added : Code → Shape → (index : ℕ) → Op → Sweep → Result Sweep Reason
index_added code shape index op s =
    entry s.table index >>= λ had. added code shape (index + 1) op (take_from_table index s had) had

-- `indices` indexes include each one that an operation names
abbrev pub StaysWithin : (indices : ℕ) → Op → Type 0
StaysWithin indices (ops.Jump jump target) = target < indices
StaysWithin indices (ops.Enter predicate step) = step + 1 < indices
StaysWithin indices op = Unit {0}

-- the pass has reached `index` without a fault
pub record ComesTo (code : Code) (shape : Shape) (index : ℕ) (s : Sweep) : Type 0 where
  pub sents : List Sent
  pub left : all_sent code shape ≡ sent_on code shape index (drop index code.ops) sents
  pub inside : index ≤ length code.ops
  pub long : length s.table ≡ suc (length code.ops)
  pub shows : Shows index s.table sents
  pub depth : s.found.depth ≡ deepest sents
  pub most_items : s.found.most_items ≡ most_each index sents

-- What a run may cost at most: the verifier's pass 6. A way forward from an index is a list of operations that a run
-- may take one after the other, a loop counting as its Enter and, for each item that its list may have, a way through
-- its body.
use Rattle.std.specs.Prelude.{◌≡◌, ◌≤◌, ℕ, suc, ◌+◌, ◌*◌, List, ◌∷◌, Some, Result, Ok, Err, slice_get}
use Rattle.ar_value.specs.Terms.{Index}
use Rattle.ar_value.specs.Kind.{Kind, shaped}
use Rattle.ar_value.specs.Shape.{list}
use Rattle.ar_value.specs.declared.operator.BinaryOperator.{BinaryOperator}
use Rattle.ar_value.specs.declared.operator.BinaryOperator.TheVariants as binary
use Rattle.ar_value.specs.declared.operator.Predicate.{Predicate}
use Rattle.ar_op.specs.declared.op.Jump.TheVariants.{And, Or, Branch, Always}
use Rattle.ar_op.specs.declared.op.Op.{Op}
use Rattle.ar_op.specs.declared.op.Op.TheVariants.{Push, MakeList, Field, Unary, Binary, Jump, Enter, Step, Return}
use Rattle.ar_safety.specs.Arrivals.{Operands, Sent, arrival}
use Rattle.ar_safety.specs.declared.error.Reason.{Reason}

-- ---- what operations cost

-- how many items a list on top may have
abbrev pub most_on_top : List Kind → ℕ
most_on_top (shaped (list item most) ∷ kinds) = most
most_on_top kinds = 0

abbrev pub most_items : Result Operands Reason → ℕ
most_items (Ok had) = most_on_top had.kinds
most_items (Err reason) = 0

abbrev pub operator_price : BinaryOperator → (most : ℕ) → ℕ
operator_price binary.IsIn most = suc most
operator_price binary.Index most = 1
operator_price binary.Default most = 1
operator_price (binary.Wholes operator) most = 1
operator_price (binary.Decimals operator) most = 1
operator_price (binary.Compare of way) most = 1
operator_price (binary.Equal family) most = 1
operator_price (binary.TextTest test) most = 1

-- each operation costs 1, and IsIn one more for each item that its list may have
abbrev pub price : Op → (most : ℕ) → ℕ
price (Push source) most = 1
price (MakeList scalar count) most = 1
price (Field number) most = 1
price (Unary operator) most = 1
price (Binary operator) most = operator_price operator most
price (Jump jump index) most = 1
price (Enter predicate step) most = 1
price (Step predicate enter) most = 1
price Return most = 1

-- ---- where a run continues

-- by a jump
abbrev pub JumpsTo : Op → Index → Type 0
JumpsTo (Jump jump index) target = index ≡ target
JumpsTo (Push source) target = ⊥
JumpsTo (MakeList scalar count) target = ⊥
JumpsTo (Field number) target = ⊥
JumpsTo (Unary operator) target = ⊥
JumpsTo (Binary operator) target = ⊥
JumpsTo (Enter predicate step) target = ⊥
JumpsTo (Step predicate enter) target = ⊥
JumpsTo Return target = ⊥

-- at the next index
abbrev pub Continues : Op → Type 0
Continues (Push source) = Unit {0}
Continues (MakeList scalar count) = Unit {0}
Continues (Field number) = Unit {0}
Continues (Unary operator) = Unit {0}
Continues (Binary operator) = Unit {0}
Continues (Jump And index) = Unit {0}
Continues (Jump Or index) = Unit {0}
Continues (Jump Branch index) = Unit {0}
Continues (Jump Always index) = ⊥
Continues (Enter predicate step) = ⊥
Continues (Step predicate enter) = ⊥
Continues Return = ⊥

-- nowhere: a Return ends the run, and a Step a way through the body of its loop
abbrev pub Stops : Op → Type 0
Stops (Push source) = ⊥
Stops (MakeList scalar count) = ⊥
Stops (Field number) = ⊥
Stops (Unary operator) = ⊥
Stops (Binary operator) = ⊥
Stops (Jump jump index) = ⊥
Stops (Enter predicate step) = ⊥
Stops (Step predicate enter) = Unit {0}
Stops Return = Unit {0}

-- ---- ways forward from an index, by what they cost

module _ (ops : List Op) (sents : List Sent) where
  abbrev pub At : (index : Index) → Op → Type 0
  At index op = slice_get ops index ≡ Some op

  abbrev pub most_at : (index : Index) → ℕ
  most_at index = most_items (arrival index sents)

  pub data Way : (index : Index) → (cost : ℕ) → Type 0 where
    stops : {index : ℕ} {op : Op} → At index op → Stops op → Way index 1
    continues : {index cost : ℕ} {op : Op} → At index op → Continues op → Way (suc index) cost
        → Way index (price op (most_at index) + cost)
    jumps : {index target cost : ℕ} {op : Op} → At index op → JumpsTo op target → Way target cost → Way index (suc cost)
    loops : {index step body cost : ℕ} {predicate : Predicate} → At index (Enter predicate step) → Way (suc index) body
        → Way (suc step) cost
        → Way index (suc (most_at index * body + cost))

  -- the cost of the most expensive way from `index`
  pub record IsCostliest (index cost : ℕ) : Type 0 where
    pub way : Way index cost
    pub costliest : (other : ℕ) → Way index other → other ≤ cost

  -- the budget is the cost of the most expensive way from the first index
  abbrev pub IsBudget : (cost : ℕ) → Type 0
  IsBudget cost = IsCostliest 0 cost

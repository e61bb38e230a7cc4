-- Pass 6 as the code does it: the cost of the most expensive way from each index, from those of the indexes after it.
-- What costs more than the greatest budget counts as one more than that.
use Rattle.std.specs.Prelude.{◌≡◌, ℕ, suc, ◌+◌, ◌*◌, ◌<◌, ◌≤◌, min, max, List, length, Ok, slice_index_or}
use Rattle.ar_value.specs.Shape.{Shape}
use Rattle.ar_op.specs.Code.{Code}
use Rattle.ar_op.specs.declared.op.Jump.TheVariants.{Always}
use Rattle.ar_op.specs.declared.op.Op.{Op}
use Rattle.ar_op.specs.declared.op.Op.TheVariants.{Jump, Enter, Step, Return}
use Rattle.ar_safety.specs.Arrivals.{Sent}
use Rattle.ar_safety.specs.Budget.{IsCostliest, most_at, price}
use Rattle.ar_safety.specs.Verdict.{passed}

-- one more than the greatest budget
abbrev pub too_expensive : ℕ
too_expensive = 1000000001

-- the number of an index, from a list of one for each
abbrev pub number_at : List ℕ → (index : ℕ) → ℕ
number_at numbers index = slice_index_or numbers index 0

-- ---- what the most expensive way costs, where the list on top has at most n items, by what is after

abbrev pub cost_by_next : Op → (most next : ℕ) → ℕ
cost_by_next op most next = min too_expensive (price op most + next)

abbrev pub cost_by_jump : (target : ℕ) → ℕ
cost_by_jump target = min too_expensive (suc target)

abbrev pub cost_by_loop : (most body later : ℕ) → ℕ
cost_by_loop most body later = min too_expensive (suc (most * body + later))

abbrev pub cost_by_either : Op → (most next target : ℕ) → ℕ
cost_by_either op most next target = max (cost_by_next op most next) (cost_by_jump target)

abbrev pub cost_by : List ℕ → (index most : ℕ) → Op → ℕ
cost_by costs index most (Jump Always target) = cost_by_jump (number_at costs target)
cost_by costs index most (Jump jump target) =
    cost_by_either (Jump jump target) most (number_at costs (suc index)) (number_at costs target)
cost_by costs index most (Enter predicate step) =
    cost_by_loop most (number_at costs (suc index)) (number_at costs (suc step))
cost_by costs index most (Step predicate enter) = 1
cost_by costs index most Return = 1
cost_by costs index most op = cost_by_next op most (number_at costs (suc index))

-- where the operation at `index` leads to indexes below `count`
abbrev pub LeadsInside : (count index : ℕ) → Op → Type 0
LeadsInside count index (Jump Always target) = target < count
LeadsInside count index (Jump jump target) = (suc index < count) × (target < count)
LeadsInside count index (Enter predicate step) = (suc index < count) × (suc step < count)
LeadsInside count index (Step predicate enter) = Unit {0}
LeadsInside count index Return = Unit {0}
LeadsInside count index op = suc index < count

-- ---- what the numbers are

-- the passes 1 to 5 found nothing in the code, for some shape
abbrev pub HasPassed : Code → Type 0
HasPassed code = (shape : Shape) × ((sents : List Sent) × (passed code shape ≡ Ok sents))

-- for each index, how many items the list on top may have that arrives there
abbrev pub AreMost : Code → List Sent → (most : List ℕ) → Type 0
AreMost code sents most = (index : ℕ) → index < length code.ops → number_at most index ≡ most_at code.ops sents index

-- a number that represents the cost of the most expensive way from `index`
pub record IsCapped (code : Code) (sents : List Sent) (index number : ℕ) : Type 0 where
  pub cost : ℕ
  pub costliest : IsCostliest code.ops sents index cost
  pub is : number ≡ min too_expensive cost

-- a number represents the cost of the most expensive way from `index`, whatever the passes found to arrive there
abbrev pub IsCost : Code → (most : List ℕ) → (index number : ℕ) → Type 0
IsCost code most index number = (shape : Shape) (sents : List Sent) → passed code shape ≡ Ok sents
    → AreMost code sents most → IsCapped code sents index number

-- for each index from one on
abbrev pub AreCosts : Code → (most : List ℕ) → (from : ℕ) → (costs : List ℕ) → Type 0
AreCosts code most from costs = (index : ℕ) → from ≤ index → index < length code.ops
    → IsCost code most index (number_at costs index)

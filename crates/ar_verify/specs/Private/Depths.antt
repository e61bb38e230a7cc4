-- Pass 3 as the code does it, from the number of loops around each index and the Steps of the loops that are open at
-- the current operation, the outermost first.
use Rattle.std.specs.Prelude.{◌≡◌, ℕ, ◌+◌, ◌-◌, ◌==◌, ◌<◌, Bool, true, ◌&&◌, nat_le, nat_lt, List, [], ◌∷◌, ◌++◌, length, drop, take, Option, Some, None, slice_get, slice_index_or}
use Rattle.ar_value.specs.Limits.{most_loops}
use Rattle.ar_op.specs.declared.op.Op.{Op}
use Rattle.ar_op.specs.declared.op.Op.TheVariants.{Jump, Enter, Step, Return}
use Rattle.ar_safety.specs.Indices.{all_pass, loops_around, nests_well, or_else, unless}
use Rattle.ar_safety.specs.declared.error.Reason.{Reason}
use Rattle.ar_safety.specs.declared.error.Reason.TheVariants.{CrossesLoop, LoopsTooDeep}

-- ---- how many loops are around each index

abbrev pub depth_after : Op → (depth : ℕ) → ℕ
depth_after (Enter predicate step) depth = depth + 1
depth_after (Step predicate enter) depth = depth - 1
depth_after op depth = depth

-- at each operation, where there are `depth` around the first
abbrev pub depths : (depth : ℕ) → List Op → List ℕ
depths depth [] = []
depths depth (op ∷ ops) = depth ∷ depths (depth_after op depth) ops

abbrev pub depth_at : List ℕ → (index : ℕ) → ℕ
depth_at around index = slice_index_or around index 0

-- ---- the Steps of open loops

abbrev pub last_of : List ℕ → Option ℕ
last_of steps = slice_get steps (length steps - 1)

abbrev pub step_of : Option Op → ℕ
step_of (Some (Enter predicate step)) = step
step_of op = 0

-- of the loops of some Enters, the innermost of which is the first
abbrev pub open_steps : List Op → List ℕ → List ℕ
open_steps ops [] = []
open_steps ops (enter ∷ outer) = open_steps ops outer ++ step_of (slice_get ops enter) ∷ []

abbrev pub open_after : Op → List ℕ → List ℕ
open_after (Enter predicate step) steps = steps ++ step ∷ []
open_after (Step predicate enter) steps = take (length steps - 1) steps
open_after op steps = steps

-- ---- the pass

-- whether `index` is inside the innermost loop, by its Step
abbrev pub is_inside : Option ℕ → (index : ℕ) → Bool
is_inside None index = true
is_inside (Some step) index = nat_le index step

abbrev pub stays_by : List ℕ → Option ℕ → (index target : ℕ) → Option Reason
stays_by around innermost index target =
    unless (is_inside innermost target && depth_at around index == depth_at around target) CrossesLoop

abbrev pub nests_by : List ℕ → Option ℕ → (index : ℕ) → Op → Option Reason
nests_by around innermost index (Jump jump target) = stays_by around innermost index target
nests_by around innermost index (Enter predicate step) =
    or_else (unless (nat_lt (depth_at around index) most_loops) LoopsTooDeep)
    (unless (is_inside innermost step) CrossesLoop)
nests_by around innermost index Return = unless (depth_at around index == 0) CrossesLoop
nests_by around innermost index op = None

-- what the pass finds from `index` on is what it finds at all, since it found nothing before; and these are the Steps
-- of the loops that hold `index`
abbrev pub IsNested : List Op → (index : ℕ) → (steps : List ℕ) → Type 0
IsNested ops index steps = (steps ≡ open_steps ops (loops_around ops index))
    × ((before : ℕ) (op : Op) → before < index → slice_get ops before ≡ Some op → nests_well ops before op ≡ None)
    × (all_pass (nests_well ops) index (drop index ops) ≡ all_pass (nests_well ops) 0 ops)

-- where jumps name indexes that are counted
abbrev pub JumpsInside : (count : ℕ) → Op → Type 0
JumpsInside count (Jump jump target) = target < count
JumpsInside count op = Unit {0}

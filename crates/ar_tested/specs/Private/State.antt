-- What states in memory represent.
use Rattle.std.specs.Prelude.{◌≡◌, List, map, option_map, reverse, drop, IfOk, Option, Result}
use Rattle.std.specs.declared.alloc.AllocError.{AllocError}
use Rattle.ar_value.specs.Value.{Value, items_of}
use Rattle.ar_machine.specs.Memory.{MemoryLoop, MemoryNext, MemoryState, ends, proceeds, stuck}
use Rattle.ar_machine.specs.Operand.{value_of}
use Rattle.ar_machine.specs.declared.operand.borrowed.ValueRef.{ValueRef}
use Rattle.ar_tested.specs.Private.Operand.{from_top, values_in}
use Rattle.ar_tested.specs.declared.state.Loop.{Loop}
use Rattle.ar_tested.specs.declared.state.Next.{Next}
use Rattle.ar_tested.specs.declared.state.Next.TheVariants as nexts
use Rattle.ar_tested.specs.declared.state.State.{State}

-- the current item of the innermost loop
abbrev pub here_view : Option ValueRef → Option Value
here_view here = option_map value_of here

abbrev pub loop_view : Loop → MemoryLoop
loop_view loop = record {
  enter = loop.enter;
  here = value_of loop.here;
  rest = items_of (drop loop.next (values_in loop.list));
  floor = loop.floor;
  counted = loop.counted;
  kept = map value_of loop.kept.items;
}

-- loops of which the last is the innermost, from the innermost
abbrev pub from_innermost : List Loop → List MemoryLoop
from_innermost loops = reverse (map loop_view loops)

abbrev pub state_view : State → MemoryState
state_view s =
    record {
      index = s.index;
      operands = from_top s.operands.items;
      loops = from_innermost s.loops.items;
      cost = s.cost;
    }

abbrev pub next_view : Next → MemoryState → MemoryNext
next_view nexts.Proceeds s = proceeds s
next_view (nexts.Ends answer) s = ends answer s.cost
next_view nexts.Stuck s = stuck s.index

-- what was done leads to what is meant, unless memory ran out
abbrev pub Leads : Result Next AllocError → State → MemoryNext → Type 0
Leads result s meant = IfOk result (λ next. meant ≡ next_view next (state_view s))

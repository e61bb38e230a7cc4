use Rattle.std.proofs.Common.{◌≡◌, ◌-◌, map, reverse}
use Rattle.ar_value.specs.Value.{items_of, no_items}
use Rattle.ar_op.specs.Machine.{list_made}
use Rattle.ar_machine.specs.Operand.{value_of}
use Rattle.ar_tested.specs.Private.Operand.{from_top}
use Rattle.ar_tested.proofs.effect.make_list.Given as goal

-- what is left to take comes before what was taken
abbrev pub invariant-loop-taken : goal.invariant-loop-taken
invariant-loop-taken l =
    list_made l.scalar l.count no_items (from_top l.initial.operands.items) ≡ list_made l.scalar (l.count - l._taken) (items_of (reverse (map value_of l.items.items))) (from_top l.operands.items)

use Rattle.std.proofs.Common.{◌≡◌, ◌-◌}
use Rattle.ar_safety.specs.Effects.{list_kind_left}
use Rattle.ar_verify.specs.Private.Stacks.{from_top}
use Rattle.ar_verify.proofs.effect.make_list.Given as goal

-- what is left to take decides
abbrev pub invariant-loop-taken : goal.invariant-loop-taken
invariant-loop-taken g l =
    list_kind_left l.scalar l.count l.count (from_top l.initial.kinds.items) ≡ list_kind_left l.scalar l.count (l.count - l._taken) (from_top l.kinds.items)

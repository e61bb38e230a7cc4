use Rattle.std.proofs.Common.{◌≡◌, drop, map}
use Rattle.ar_check.specs.Check.{no_scalar}
use Rattle.ar_check.specs.Private.Inside.{item_view}
use Rattle.ar_check.proofs.list.no_scalar.Given as goal

-- all items so far are scalars
abbrev pub invariant-loop-item : goal.invariant-loop-item
invariant-loop-item l =
    no_scalar (map item_view l.items) ≡ no_scalar (map item_view (drop l.item-index l.items))

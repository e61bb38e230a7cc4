use Rattle.std.proofs.Common.{◌≡◌, drop, map}
use Rattle.ar_check.specs.Check.{common_with}
use Rattle.ar_check.specs.Private.Inside.{item_view}
use Rattle.ar_check.proofs.list.joined.Given as goal

-- what is in common so far continues with the items that are left
abbrev pub invariant-loop-item : goal.invariant-loop-item
invariant-loop-item l =
    common_with l.fn.first (map item_view l.items) ≡ common_with l.common (map item_view (drop l.item-index l.items))

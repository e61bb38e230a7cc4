use Rattle.std.proofs.Common.{◌≡◌, drop}
use Rattle.serde_json.specs.View.{items_view, members_view}
use Rattle.ar_exact.specs.Flat.{are_flat, members_flat}
use Rattle.ar_exact.proofs.exact.+is_flat.Given as goal

-- the items so far are flat
abbrev pub invariant-are_flat-loop-item : goal.invariant-are_flat-loop-item
invariant-are_flat-loop-item l =
    are_flat l.levels (items_view (drop l.item-index l.items)) ≡ are_flat l.levels (items_view l.items)

-- and so are the members
abbrev pub invariant-members_flat-loop-value : goal.invariant-members_flat-loop-value
invariant-members_flat-loop-value l =
    members_flat l.levels (members_view l.value-iterator) ≡ members_flat l.levels (members_view l.members.entries)

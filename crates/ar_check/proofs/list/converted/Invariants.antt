use Rattle.std.proofs.Common.{◌≡◌, ◌++◌, length, map}
use Rattle.std.specs.Vec.Iter.{into_iter_items, into_iter_len}
use Rattle.ar_check.specs.Check.{converted_item}
use Rattle.ar_check.specs.Private.Inside.{item_view}
use Rattle.ar_tree.specs.Views.{typed_view}
use Rattle.ar_check.proofs.list.converted.Given as goal

-- the items so far are converted, before those that are left
abbrev pub invariant-loop-item : goal.invariant-loop-item
invariant-loop-item l =
    (goal.iterator-loop-item).can_next l.item-iterator × (goal.iterator-loop-item).is_finite l.item-iterator × (into_iter_len l.item-iterator ≡ length (into_iter_items l.item-iterator)) ×
    (map (λ item. converted_item l.scalar item.scalar item.tree) (map item_view l.fn.items.items)
    ≡ map typed_view l.trees.items ++ map (λ item. converted_item l.scalar item.scalar item.tree) (map item_view (into_iter_items l.item-iterator)))

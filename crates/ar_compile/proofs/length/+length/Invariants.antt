use Rattle.std.proofs.Common.{◌≡◌, ◌+◌, ◌*◌, drop, map, max}
use Rattle.ar_tree.specs.Typed.{typeds}
use Rattle.ar_tree.specs.Views.{typed_view}
use Rattle.ar_tree.specs.declared.typed.Typed.{size-Typed}
use Rattle.ar_compile.specs.Length.{operations_of_items}
use Rattle.ar_compile.proofs.length.+length.Given as goal

-- the items so far have taken what they take
abbrev pub invariant-room_after_items-loop-item : goal.invariant-room_after_items-loop-item
invariant-room_after_items-loop-item l =
    l.room + operations_of_items (typeds (map typed_view (drop l.item-index l.items))) ≡ l.left + operations_of_items (typeds (map typed_view l.items))

-- four times the depth that is left, and a rank
abbrev pub decreases-room_after : goal.decreases-room_after
decreases-room_after l = 4 * goal.size-room_after l

abbrev pub decreases-room_after_one : goal.decreases-room_after_one
decreases-room_after_one l = 4 * goal.size-room_after_one l + 1

abbrev pub decreases-room_after_items : goal.decreases-room_after_items
decreases-room_after_items l = 4 * goal.size-room_after_items l + 2

abbrev pub decreases-room_after_two : goal.decreases-room_after_two
decreases-room_after_two l = 4 * max (size-Typed l.left.now) (size-Typed l.right.now) + 3

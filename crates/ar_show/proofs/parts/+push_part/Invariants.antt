use Rattle.std.proofs.Common.{◌≡◌, true, ◌+◌, ◌*◌, ◌++◌, drop, map, max, string_bytes}
use Rattle.ar_tree.specs.Typed.{typeds}
use Rattle.ar_tree.specs.Views.{typed_view}
use Rattle.ar_tree.specs.declared.typed.Typed.{size-Typed}
use Rattle.ar_show.specs.PartText.{shown_parts}
use Rattle.ar_show.proofs.parts.+push_part.Given as goal

-- the items so far come before those that are left
abbrev pub invariant-push_items-loop-item : goal.invariant-push_items-loop-item
invariant-push_items-loop-item l =
    string_bytes l.out ++ shown_parts l.first (typeds (map typed_view (drop l.item-index l.items)))
    ≡ string_bytes l.initial.out ++ shown_parts true (typeds (map typed_view l.items))

-- eight times the depth that is left, and a rank
abbrev pub decreases-push_part : goal.decreases-push_part
decreases-push_part l = 8 * size-Typed l.part.now

abbrev pub decreases-push_enclosed : goal.decreases-push_enclosed
decreases-push_enclosed l = 8 * size-Typed l.part.now + 1

abbrev pub decreases-push_item : goal.decreases-push_item
decreases-push_item l = 8 * size-Typed l.item.now + 1

abbrev pub decreases-push_operand : goal.decreases-push_operand
decreases-push_operand l = 8 * size-Typed l.part.now + 2

abbrev pub decreases-push_owner : goal.decreases-push_owner
decreases-push_owner l = 8 * size-Typed l.part.now + 2

abbrev pub decreases-push_items : goal.decreases-push_items
decreases-push_items l = 8 * goal.size-push_items l + 2

abbrev pub decreases-push_side : goal.decreases-push_side
decreases-push_side l = 8 * size-Typed l.right.now + 3

abbrev pub decreases-push_signed : goal.decreases-push_signed
decreases-push_signed l = 8 * size-Typed l.operand.now + 3

abbrev pub decreases-push_left : goal.decreases-push_left
decreases-push_left l = 8 * size-Typed l.left.now + 3

abbrev pub decreases-push_list : goal.decreases-push_list
decreases-push_list l = 8 * goal.size-push_list l + 3

abbrev pub decreases-push_field : goal.decreases-push_field
decreases-push_field l = 8 * size-Typed l.owner.now + 3

abbrev pub decreases-push_joined : goal.decreases-push_joined
decreases-push_joined l = 8 * max (size-Typed l.left.now) (size-Typed l.right.now) + 4

abbrev pub decreases-push_unary : goal.decreases-push_unary
decreases-push_unary l = 8 * size-Typed l.operand.now + 4

abbrev pub decreases-push_right : goal.decreases-push_right
decreases-push_right l = 8 * size-Typed l.right.now + 4

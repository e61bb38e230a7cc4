use Rattle.std.proofs.Common.{◌≡◌, ◌+◌, ◌*◌, ◌≤◌, drop, map, max}
use Rattle.ar_value.specs.Value.{items_of}
use Rattle.ar_machine.specs.Operand.{list_values, value_of}
use Rattle.ar_tree.specs.Meaning.{over}
use Rattle.ar_tree.specs.Views.{typed_view}
use Rattle.ar_tree.specs.declared.typed.Typed.{size-Typed}
use Rattle.ar_explain.specs.Lines.{each_item_lines, none_seen}
use Rattle.ar_explain.specs.Private.Loops.{after_made, over_rest}
use Rattle.ar_explain.specs.Private.Places.{holds_on, items_failed_at, items_lines_at, items_meant, lines_on, place_view, seen_view, typeds_view, with_lines_at}
use Rattle.ar_explain.proofs.walk.+walk.Given as goal

-- what is left leads to the whole
abbrev pub invariant-listed-loop-item : goal.invariant-listed-loop-item
invariant-listed-loop-item l =
    let place = place_view l.place in
    let rest = typeds_view (drop l.item-index l.items) in
    (after_made (map value_of l.made.items) (items_meant place rest) ≡ items_meant place (typeds_view l.items))
    × (with_lines_at place l.out (items_lines_at place rest) ≡ with_lines_at place l.fn.out (items_lines_at place (typeds_view l.items)))
    × (items_failed_at place rest ≡ items_failed_at place (typeds_view l.items))

abbrev pub invariant-each_item-loop-number : goal.invariant-each_item-loop-number
invariant-each_item-loop-number l =
    let holds = holds_on (place_view l.place) (typed_view l.body) in
    let said = lines_on (place_view l.place) (typed_view l.body) in
    let all = items_of (list_values l.list) in
    let rest = items_of (drop l.number (list_values l.list)) in
    (over_rest l.predicate holds l.counted (map value_of l.kept.items) rest ≡ over l.predicate holds all)
    × (with_lines_at (place_view l.place) l.out (each_item_lines l.predicate (typed_view l.body) holds said (seen_view l.seen) l.number rest)
    ≡ with_lines_at (place_view l.place) l.fn.out (each_item_lines l.predicate (typed_view l.body) holds said none_seen 0 all))
    × (l.counted ≤ l.number)
    × (l.seen.items ≤ l.number)
    × (l.seen.held ≤ l.number)

-- eight times the depth that is left, and a rank
abbrev pub decreases-parts : goal.decreases-parts
decreases-parts l = 8 * size-Typed l.tree.now

abbrev pub decreases-walk : goal.decreases-walk
decreases-walk l = 8 * size-Typed l.tree.now + 1

abbrev pub decreases-holds : goal.decreases-holds
decreases-holds l = 8 * size-Typed l.tree.now + 2

abbrev pub decreases-field : goal.decreases-field
decreases-field l = 8 * size-Typed l.owner.now + 2

abbrev pub decreases-unary : goal.decreases-unary
decreases-unary l = 8 * size-Typed l.operand.now + 2

abbrev pub decreases-scalar : goal.decreases-scalar
decreases-scalar l = 8 * size-Typed l.item.now + 2

abbrev pub decreases-binary_after : goal.decreases-binary_after
decreases-binary_after l = 8 * size-Typed l.right.now + 2

abbrev pub decreases-right_side : goal.decreases-right_side
decreases-right_side l = 8 * size-Typed l.right.now + 2

abbrev pub decreases-then_taken : goal.decreases-then_taken
decreases-then_taken l = 8 * size-Typed l.then_branch.now + 2

abbrev pub decreases-else_taken : goal.decreases-else_taken
decreases-else_taken l = 8 * size-Typed l.else_branch.now + 2

abbrev pub decreases-listed : goal.decreases-listed
decreases-listed l = 8 * goal.size-listed l + 3

abbrev pub decreases-holds_at : goal.decreases-holds_at
decreases-holds_at l = 8 * size-Typed l.body.now + 3

abbrev pub decreases-look : goal.decreases-look
decreases-look l = 8 * size-Typed l.body.now + 4

abbrev pub decreases-each_item : goal.decreases-each_item
decreases-each_item l = 8 * size-Typed l.body.now + 5

abbrev pub decreases-over_operand : goal.decreases-over_operand
decreases-over_operand l = 8 * size-Typed l.body.now + 6

abbrev pub decreases-binary : goal.decreases-binary
decreases-binary l = 8 * max (size-Typed l.left.now) (size-Typed l.right.now) + 3

abbrev pub decreases-both : goal.decreases-both
decreases-both l = 8 * max (size-Typed l.left.now) (size-Typed l.right.now) + 3

abbrev pub decreases-either : goal.decreases-either
decreases-either l = 8 * max (size-Typed l.left.now) (size-Typed l.right.now) + 3

abbrev pub decreases-choice : goal.decreases-choice
decreases-choice l = 8 * max (size-Typed l.condition.now) (max (size-Typed l.then_branch.now) (size-Typed l.else_branch.now)) + 3

abbrev pub decreases-over : goal.decreases-over
decreases-over l = 8 * max (size-Typed l.list.now) (size-Typed l.body.now) + 7
